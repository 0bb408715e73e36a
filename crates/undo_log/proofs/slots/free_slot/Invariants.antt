use Rattle.std.proofs.Common.{◌≢◌, ℕ, ◌<◌}
use Rattle.stored_pages.specs.Words.{u64_at}
use Rattle.undo_log.specs.Slots.{place_of}
use Rattle.undo_log.proofs.slots.free_slot.Given as goal

abbrev pub invariant-loop-slot : goal.invariant-loop-slot
invariant-loop-slot l = (slot : ℕ) → slot < l.slot → u64_at (place_of slot) l.page ≢ 0
