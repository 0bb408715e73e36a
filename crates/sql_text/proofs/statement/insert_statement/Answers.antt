use Rattle.sql_grammar.specs.declared.token.Word.TheVariants as word
use Rattle.sql_grammar.specs.declared.token.Token.TheVariants.{Key}
use Rattle.std.proofs.Common.{◌∷◌}
use Rattle.sql_grammar.specs.Grammar.{Statement}
use Rattle.sql_simple_statements.specs.Statements.{insert_of}
use Rattle.sql_simple_statements.proofs.Sound.{insert_sound}
use Rattle.sql_text.proofs.SoundWhole.{gives_unit, gives_spelled}
use Rattle.sql_text.proofs.statement.insert_statement.Goals as goal

pub returns-clause-exact : goal.returns-clause-exact
returns-clause-exact c = gives_unit c.insert.result (insert_of c.args.tokens.now) c.insert.ensures

pub returns-clause-spelled : goal.returns-clause-spelled
returns-clause-spelled c = gives_spelled c.insert.result (insert_of c.args.tokens.now) (λ s. Statement (Key word.Insert ∷ c.args.tokens.now) s) c.insert.ensures (insert_sound c.args.tokens.now)
