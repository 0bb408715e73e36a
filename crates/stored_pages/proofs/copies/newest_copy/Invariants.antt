use Rattle.std.specs.Prelude.{ℕ, ◌<◌}
use Rattle.store_api.specs.Areas.{piece}
use Rattle.stored_pages.specs.Reading.{IsGoodPage}
use Rattle.stored_pages.proofs.copies.newest_copy.Given as goal

-- none of the slots so far has a copy
abbrev pub invariant-loop-slot : goal.invariant-loop-slot
invariant-loop-slot l = (k : ℕ) → k < l.slot → IsGoodPage l.number (piece 4096 k l.double) → ⊥
