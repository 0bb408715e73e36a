use Rattle.std.proofs.Common.{arith}
use Rattle.std.proofs.lemmas.Grind.{common_steps}
use Rattle.sql_grammar.specs.Tokens.{text_in}
use Rattle.script.proofs.Fronts.{fronts}
use Rattle.script.proofs.quote.after_text.Goals as goal

pub loop-rest-preserved : goal.loop-rest-preserved
unfolding text_in
loop-rest-preserved c = grind (arith, common_steps, fronts)

pub loop-rest-preserved-then-c-quote : goal.loop-rest-preserved-then-c-quote
unfolding text_in
loop-rest-preserved-then-c-quote c = grind (arith, common_steps, fronts)

pub loop-rest-preserved-in-92-rest-2 : goal.loop-rest-preserved-in-92-rest-2
unfolding text_in
loop-rest-preserved-in-92-rest-2 c = grind (arith, common_steps, fronts)

pub returns-in-92-clause-value : goal.returns-in-92-clause-value
unfolding text_in
returns-in-92-clause-value c = grind (arith, common_steps, fronts)

pub returns-in-len1-up-clause-value : goal.returns-in-len1-up-clause-value
unfolding text_in
returns-in-len1-up-clause-value c = grind (arith, common_steps, fronts)
