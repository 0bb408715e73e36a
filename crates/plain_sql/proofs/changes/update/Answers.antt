use Rattle.std.proofs.Common.{arith}
use Rattle.std.proofs.lemmas.Grind.{common_steps}
use Rattle.plain_sql.proofs.changes.update.Goals as goal

pub loop-row-preserved-then-not-is_match : goal.loop-row-preserved-then-not-is_match
loop-row-preserved-then-not-is_match c = grind (arith, common_steps) steps 2000000

pub returns-in-Some : goal.returns-in-Some
returns-in-Some c = grind (arith, common_steps) steps 2000000

pub loop-row-preserved : goal.loop-row-preserved
loop-row-preserved c = grind (arith, common_steps) steps 2000000
