use Rattle.std.proofs.Common.{arith}
use Rattle.std.proofs.lemmas.Grind.{common_steps}
use Rattle.sql_grammar.specs.Tokens.{text_in}
use Rattle.sql_tokens.proofs.Fronts.{fronts}
use Rattle.sql_tokens.proofs.quote.text_in.Goals as goal

pub loop-rest-preserved : goal.loop-rest-preserved
unfolding text_in
loop-rest-preserved c = grind (arith, common_steps, fronts)

pub loop-rest-preserved-in-92-rest-2 : goal.loop-rest-preserved-in-92-rest-2
unfolding text_in
loop-rest-preserved-in-92-rest-2 c = grind (arith, common_steps, fronts)

pub loop-rest-preserved-then-c-quote : goal.loop-rest-preserved-then-c-quote
unfolding text_in
loop-rest-preserved-then-c-quote c = grind (arith, common_steps, fronts)
