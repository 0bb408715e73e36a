use Rattle.std.proofs.Common.{arith}
use Rattle.std.proofs.lemmas.Grind.{common_steps}
use Rattle.sql_grammar.specs.Tokens.{quoted}
use Rattle.sql_tokens.proofs.Fronts.{fronts}
use Rattle.sql_tokens.proofs.quote.quoted.Goals as goal

pub loop-rest-preserved : goal.loop-rest-preserved
unfolding quoted
loop-rest-preserved c = grind (arith, common_steps, fronts)

pub loop-rest-preserved-then-b-quote : goal.loop-rest-preserved-then-b-quote
unfolding quoted
loop-rest-preserved-then-b-quote c = grind (arith, common_steps, fronts)
