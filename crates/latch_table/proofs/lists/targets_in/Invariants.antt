use Rattle.std.proofs.Common.{◌≡◌, ◌++◌, drop}
use Rattle.latch_table.specs.Held as held_latches
use Rattle.latch_table.proofs.lists.targets_in.Given as goal

-- what is found with what is left gives all
abbrev pub invariant-loop-latch : goal.invariant-loop-latch
invariant-loop-latch l = l.targets.items ++ held_latches.targets_of l.actor (drop l.latch-index l.held) ≡ held_latches.targets_of l.actor l.held
