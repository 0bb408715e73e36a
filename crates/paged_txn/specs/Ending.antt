-- What the end of a mini-transaction makes of the pool.
use Rattle.std.specs.Prelude.{◌≡◌, ◌⊎◌, ℕ, ◌≤◌, ◌==◌, if◌then◌else◌, List, length, None, option_map}
use Rattle.buffer_pool.specs.Frames.{FrameView, PoolView, slot_of, unfixed}
use Rattle.mtr.specs.Seen.{is_in}
use Rattle.mini_txn.specs.declared.dealt.Entry.{Entry}
use Rattle.mini_txn.specs.Dealt.{copy_of}
use Rattle.mini_txn.specs.View.{IsStamped}
use Rattle.paged_txn.specs.View.{fixes_in, bytes_in}

-- the frame without one of its fixes, if it has any
abbrev pub let_go : FrameView → FrameView
let_go frame = if frame.fixes == 0 then frame else unfixed frame

-- the page has a fix less, if it had any
pub record LetsGoOne (page : ℕ) (old new : PoolView) : Type 0 where
  pub slots : length new.slots ≡ length old.slots
  pub order : new.order ≡ old.order
  pub each : (q : ℕ) → slot_of new q ≡ (if q == page then option_map let_go (slot_of old q) else slot_of old q)

-- Where no page is fixed twice, none of these is fixed any more. The other frames stay.
pub record LetsGo (pages : List ℕ) (old new : PoolView) : Type 0 where
  pub slots : length new.slots ≡ length old.slots
  pub each : ((q : ℕ) → fixes_in (slot_of old q) ≤ 1) → (q : ℕ) → slot_of new q ≡ (if is_in q pages then option_map let_go (slot_of old q) else slot_of old q)

-- A page without a copy has the bytes that it had, and one with a copy has it in its frame, with the LSN of the group.
abbrev pub IsPut : PoolView → List Entry → PoolView → ℕ → ℕ → Type 0
IsPut old dealt new lsn page = ((copy_of dealt page ≡ None) × (bytes_in (slot_of new page) ≡ bytes_in (slot_of old page)))
    ⊎ IsStamped page lsn (slot_of new page)
