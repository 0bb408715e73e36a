use Rattle.plain_sql.proofs.Rows.{different_lengths}
use Rattle.std.proofs.Common.{arith}
use Rattle.std.proofs.lemmas.Grind.{common_steps}
use Rattle.plain_sql.proofs.changes.is_same.Goals as goal

pub returns-then-not-is_same_datum : goal.returns-then-not-is_same_datum
returns-then-not-is_same_datum c = grind (arith, common_steps, different_lengths) steps 2000000

pub loop-place-preserved : goal.loop-place-preserved
loop-place-preserved c = grind (arith, common_steps, different_lengths) steps 2000000

pub returns : goal.returns
returns c = grind (arith, common_steps, different_lengths) steps 2000000
