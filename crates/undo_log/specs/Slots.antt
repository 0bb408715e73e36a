-- The slots of page 1: each has the id of a transaction, and the first and the last page of its undo log. A slot is open
-- where the first page of its log says so. Nothing here is kept in memory alone.
use Rattle.std.specs.Prelude.{◌≡◌, ◌≢◌, ℕ, zero, suc, ◌+◌, ◌*◌, ◌<◌, Bool, false, ◌==◌, ◌&&◌, ◌||◌, not, List, [], ◌∷◌, ◌++◌, length, replicate, slice_index, IsTrue}
use Rattle.stored_pages.specs.declared.layout.TheConstants.{PAGE}
use Rattle.stored_pages.specs.Words.{u32_at, u64_at}
use Rattle.store_api.specs.declared.limits.TheConstants.{MOST_SESSIONS}
use Rattle.store_api.specs.declared.visits.SpaceBad.{SpaceBad}
use Rattle.store_api.specs.declared.visits.SpaceBad.TheVariants.{Full, Visit, NoMemory}
use Rattle.schema_codec.specs.Numbers.{u32_bytes, u64_bytes}
use Rattle.mtr.specs.Seen.{MtrState, Visits, with_bytes}
use Rattle.mtr.specs.Calls.{Goes, IsReason}
use Rattle.undo_log.specs.declared.layout.TheConstants.{ID, STATE, OPEN, FIRST_SLOT, SLOT}

-- where a slot begins on page 1
abbrev pub place_of : ℕ → ℕ
place_of slot = FIRST_SLOT + SLOT * slot

-- the id in a slot, 0 for none, and the first page of its log
abbrev pub id_in : (ℕ → List ℕ) → ℕ → ℕ
id_in pages slot = u64_at (place_of slot) (pages 1)

abbrev pub first_in : (ℕ → List ℕ) → ℕ → ℕ
first_in pages slot = u32_at (place_of slot + 8) (pages 1)

-- the slot has this id, and the first page of its log says that it is open
abbrev pub is_open_slot : (ℕ → List ℕ) → ℕ → ℕ → Bool
is_open_slot pages id slot = not (id == 0) && id_in pages slot == id && slice_index (pages (first_in pages slot)) STATE == OPEN

abbrev pub open_below : (ℕ → List ℕ) → ℕ → ℕ → Bool
open_below pages zero id = false
open_below pages (suc slot) id = is_open_slot pages id slot || open_below pages slot id

-- an open slot has the id
abbrev pub open_on : (ℕ → List ℕ) → ℕ → Bool
open_on pages = open_below pages MOST_SESSIONS

-- what a slot of a log of one page holds
abbrev pub slot_bytes : ℕ → ℕ → List ℕ
slot_bytes id page = u64_bytes id ++ (u32_bytes page ++ u32_bytes page)

-- A free slot has the log of that page, and the page has the id and says that the log is open.
pub record SeesOpened (slot id page : ℕ) (old new : MtrState) : Type 0 where
  pub size : length (old.seen 1) ≡ PAGE
  pub was_free : id_in old.seen slot ≡ 0
  pub standing : new.standing ≡ old.standing
  pub fault : new.fault ≡ old.fault
  pub slots : new.seen 1 ≡ with_bytes (place_of slot) (slot_bytes id page) (old.seen 1)
  pub log : new.seen page ≡ with_bytes STATE (OPEN ∷ []) (with_bytes ID (u64_bytes id) (old.seen page))
  pub elsewhere : (other : ℕ) → other ≢ 1 → other ≢ page → new.seen other ≡ old.seen other

pub record Opens (slot id page : ℕ) (old new : MtrState) : Type 0 where
  pub goes : Goes old new
  pub below : slot < MOST_SESSIONS
  pub seen : IsTrue new.told → SeesOpened slot id page old new
  pub visits : Visits (1 ∷ []) old new

-- a page with slots breaks no rule that is tested here
abbrev pub BreaksNone : ℕ → ℕ → (ℕ → List ℕ) → Type 0
BreaksNone page rule pages = ⊥

-- why no log is opened: each slot has one, or page 1 can't be read, or the spare lacks room for it
abbrev pub IsOpenReason : MtrState → MtrState → SpaceBad → Type 0
IsOpenReason old new Full = IsTrue new.told → (slot : ℕ) → slot < MOST_SESSIONS → id_in old.seen slot ≢ 0
IsOpenReason old new (Visit why) = IsReason (1 ∷ []) BreaksNone old new why
IsOpenReason old new NoMemory = old.spare < 52

-- No log of a slot begins on this page, and none on the page of the slots.
pub record IsNewLog (page : ℕ) (pages : ℕ → List ℕ) : Type 0 where
  pub apart : (slot : ℕ) → slot < MOST_SESSIONS → id_in pages slot ≢ 0 → (first_in pages slot ≢ page) × (first_in pages slot ≢ 1)
  pub size : length (pages page) ≡ PAGE

-- A slot is zeros now, and all else is as it was.
pub record SeesClosed (slot : ℕ) (old new : MtrState) : Type 0 where
  pub size : length (old.seen 1) ≡ PAGE
  pub standing : new.standing ≡ old.standing
  pub fault : new.fault ≡ old.fault
  pub slots : new.seen 1 ≡ with_bytes (place_of slot) (replicate SLOT 0) (old.seen 1)
  pub elsewhere : (other : ℕ) → other ≢ 1 → new.seen other ≡ old.seen other

pub record Closes (slot : ℕ) (old new : MtrState) : Type 0 where
  pub goes : Goes old new
  pub seen : IsTrue new.told → SeesClosed slot old new
  pub visits : Visits (1 ∷ []) old new

-- why a slot isn't freed: page 1 can't be read, or the spare lacks room for it
abbrev pub IsCloseReason : MtrState → MtrState → SpaceBad → Type 0
IsCloseReason old new Full = ⊥
IsCloseReason old new (Visit why) = IsReason (1 ∷ []) BreaksNone old new why
IsCloseReason old new NoMemory = old.spare < 25

-- No other slot has the same id, and none has a log that begins on the page of the slots.
abbrev pub IsOnlySlot : ℕ → (ℕ → List ℕ) → Type 0
IsOnlySlot slot pages =
    (s : ℕ) → s < MOST_SESSIONS → s ≢ slot → id_in pages s ≢ 0 → (id_in pages s ≢ id_in pages slot) × (first_in pages s ≢ 1)
