use Rattle.sql_grammar.specs.Tokens.{token_at}
use Rattle.std.proofs.Common.{arith}
use Rattle.std.proofs.lemmas.Grind.{common_steps}
use Rattle.sql_tokens.proofs.token.token_at.Goals as goal

pub returns-in-96 : goal.returns-in-96
unfolding token_at
returns-in-96 c = grind (arith, common_steps) steps 2000000

pub returns-in-len1-up-3 : goal.returns-in-len1-up-3
unfolding token_at
returns-in-len1-up-3 c = grind (arith, common_steps) steps 2000000
