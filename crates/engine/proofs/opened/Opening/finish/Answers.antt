use Rattle.std.proofs.Common.{arith}
use Rattle.list_world.specs.Parts.{world_of}
use Rattle.engine.proofs.Sums.{few_counted}
use Rattle.engine.proofs.Finishing.{fresh_now, nobody_now}
use Rattle.engine.proofs.opened.Opening.finish.Goals as goal

pub returns-in-Ok-clause-ok : goal.returns-in-Ok-clause-ok
returns-in-Ok-clause-ok c =
    let counted = few_counted _ c.rows_in-rows.result c.rows_in-rows.ensures.counted (omega (arith, c.if-rows-gt-MOST_ROWS.false)) in
    rw (← c.self.view_is) (fresh_now c.self.inside.db (world_of c.self.inside.world) c.self.invariant (world_of c.open.new.self) c.rows_in-rows.result
    c.in-Ok.ensures.ok c.rows_in-rows.ensures.few counted.1 counted.0)

pub returns-in-Ok-clause-nobody : goal.returns-in-Ok-clause-nobody
returns-in-Ok-clause-nobody c =
    nobody_now c.self.inside.db (world_of c.self.inside.world) (world_of c.open.new.self) c.rows_in-rows.result c.self.invariant c.in-Ok.ensures.ok
