use Rattle.sql_grammar.specs.Tokens.{sign_at}
use Rattle.std.proofs.Common.{arith}
use Rattle.std.proofs.lemmas.Grind.{common_steps}
use Rattle.sql_tokens.proofs.token.sign_at.Goals as goal

pub returns-in-33 : goal.returns-in-33
unfolding sign_at
returns-in-33 c = grind (arith, common_steps) steps 2000000

pub returns-in-60 : goal.returns-in-60
unfolding sign_at
returns-in-60 c = grind (arith, common_steps) steps 2000000

pub returns-in-60-2 : goal.returns-in-60-2
unfolding sign_at
returns-in-60-2 c = grind (arith, common_steps) steps 2000000

pub returns-in-62 : goal.returns-in-62
unfolding sign_at
returns-in-62 c = grind (arith, common_steps) steps 2000000

pub returns-in-62-2 : goal.returns-in-62-2
unfolding sign_at
returns-in-62-2 c = grind (arith, common_steps) steps 2000000

pub returns-in-61 : goal.returns-in-61
unfolding sign_at
returns-in-61 c = grind (arith, common_steps) steps 2000000

pub returns-in-60-3 : goal.returns-in-60-3
unfolding sign_at
returns-in-60-3 c = grind (arith, common_steps) steps 2000000

pub returns-in-45 : goal.returns-in-45
unfolding sign_at
returns-in-45 c = grind (arith, common_steps) steps 2000000

pub returns-in-44 : goal.returns-in-44
unfolding sign_at
returns-in-44 c = grind (arith, common_steps) steps 2000000

pub returns-in-43 : goal.returns-in-43
unfolding sign_at
returns-in-43 c = grind (arith, common_steps) steps 2000000

pub returns-in-42 : goal.returns-in-42
unfolding sign_at
returns-in-42 c = grind (arith, common_steps) steps 2000000

pub returns-in-41 : goal.returns-in-41
unfolding sign_at
returns-in-41 c = grind (arith, common_steps) steps 2000000

pub returns-in-40 : goal.returns-in-40
unfolding sign_at
returns-in-40 c = grind (arith, common_steps) steps 2000000
