use Rattle.sql_grammar.specs.Tokens.{after_comment}
use Rattle.std.proofs.Common.{arith}
use Rattle.std.proofs.lemmas.Grind.{common_steps}
use Rattle.sql_tokens.proofs.blank.after_comment.Goals as goal

pub returns-then-starts_with : goal.returns-then-starts_with
unfolding after_comment
returns-then-starts_with c = grind (arith, common_steps) steps 2000000

pub loop-rest-preserved : goal.loop-rest-preserved
unfolding after_comment
loop-rest-preserved c = grind (arith, common_steps) steps 2000000

pub returns : goal.returns
unfolding after_comment
returns c = grind (arith, common_steps) steps 2000000
