use Rattle.list_world.specs.Parts.{world_of}
use Rattle.engine.proofs.Taking.{IsTaking}
use Rattle.engine.proofs.keys.take_over.Given as goal

abbrev pub invariant-loop : goal.invariant-loop
invariant-loop l =
    IsTaking l.fn.change (world_of l.fn.world) (world_of l.world) l.change
