use Rattle.std.proofs.Common.{◌≡◌, drop}
use Rattle.std.specs.List.{list_any}
use Rattle.latch_table.specs.Held as held_latches
use Rattle.latch_table.proofs.lists.holder_in.Given as goal

-- no latch before the place conflicts
abbrev pub invariant-loop-latch : goal.invariant-loop-latch
invariant-loop-latch l =
    list_any (λ latch. held_latches.conflicts latch l.asked) (drop l.latch-index l.held) ≡ list_any (λ latch. held_latches.conflicts latch l.asked) l.held
