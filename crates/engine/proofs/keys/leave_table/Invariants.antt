use Rattle.list_world.specs.Parts.{world_of}
use Rattle.law_held_steps.proofs.Places.{LeftBelow}
use Rattle.engine.proofs.keys.leave_table.Given as goal

-- those before this one are left
abbrev pub invariant-loop-which : goal.invariant-loop-which
invariant-loop-which l = LeftBelow 0 l.table l.which (world_of l.fn.world) (world_of l.world)
