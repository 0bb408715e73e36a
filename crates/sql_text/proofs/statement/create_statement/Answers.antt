use Rattle.sql_grammar.specs.declared.token.Word.TheVariants as word
use Rattle.sql_grammar.specs.declared.token.Token.TheVariants.{Key}
use Rattle.std.proofs.Common.{◌∷◌}
use Rattle.sql_grammar.specs.Grammar.{Statement}
use Rattle.sql_simple_statements.specs.Statements.{create_statement_of}
use Rattle.sql_simple_statements.proofs.Sound.{create_statement_sound}
use Rattle.sql_text.proofs.SoundWhole.{gives_unit, gives_spelled}
use Rattle.sql_text.proofs.statement.create_statement.Goals as goal

pub returns-clause-exact : goal.returns-clause-exact
returns-clause-exact c = gives_unit c.create_table.result (create_statement_of c.args.tokens.now) c.create_table.ensures

pub returns-clause-spelled : goal.returns-clause-spelled
returns-clause-spelled c = gives_spelled c.create_table.result (create_statement_of c.args.tokens.now) (λ s. Statement (Key word.Create ∷ c.args.tokens.now) s) c.create_table.ensures (create_statement_sound c.args.tokens.now)
