use Rattle.std.proofs.Common.{arith}
use Rattle.std.proofs.lemmas.Grind.{common_steps}
use Rattle.std.specs.FinMap.{entries}
use Rattle.engine.proofs.Grown.{rising_here}
use Rattle.engine.proofs.layout.put_rows.Goals as goal

pub put_row-requires-clause-rising : goal.put_row-requires-clause-rising
put_row-requires-clause-rising c =
    rising_here (entries c.args.opening.rows) c.args.table c.args.schema.now c.args.rows.now c.loop-row.row-index c.row-item.result c.loop-row-test.true
    c.row-item.is (entries c.loop-row.opening.rows) c.loop-row.invariant.rows c.requires.rising

pub loop-row-preserved : goal.loop-row-preserved
loop-row-preserved c = grind (arith, common_steps) steps 2000000

pub returns-clause-rows : goal.returns-clause-rows
returns-clause-rows c = grind (arith, common_steps) steps 2000000
