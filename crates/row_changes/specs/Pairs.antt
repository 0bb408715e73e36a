-- What a short step of a change does to the pairs of a world's indexes, and what may keep it from going on.
use Rattle.std.specs.Prelude.{◌≡◌, ◌≢◌, ◌⊎◌, ℕ, List, Option, None, Some}
use Rattle.store_api.specs.{declared.moves.Move.Move}
use Rattle.store_api.specs.declared.moves.Move.TheVariants.{At, End, Done, Latch, Full, TooDeep, NoMemory}
use Rattle.entries.specs.{Index.Index, Index.Goes, Index.AreKept, Index.GoesOn, Calls.Delays, Calls.LacksPages, Calls.IsKeptOff}
use Rattle.row_versions.specs.Versions.{Stays}
use Rattle.law_stored_rows.specs.Edits.{with_value}
use Rattle.world.specs.{State.WorldState, Stores.StoreGoes, AtHand.IsIndexAtHand}

-- no pair has changed anywhere, and no actor's place
pub record RowsStay (old new : WorldState) : Type 0 where
  pub pairs : (index : ℕ) → AreKept (old.indexes index).pairs (new.indexes index).pairs
  pub places : (index : ℕ) → (new.indexes index).place ≡ (old.indexes index).place
  pub versions : Stays old.versions new.versions
  pub rest : new ≡ record old { indexes = new.indexes; versions = new.versions; paged = new.paged }
  pub later : StoreGoes old.paged new.paged

-- No pair has changed anywhere, and no place but this actor's: it may have left an index.
pub record RowsStayBut (actor : ℕ) (old new : WorldState) : Type 0 where
  pub pairs : (index : ℕ) → AreKept (old.indexes index).pairs (new.indexes index).pairs
  pub places : (index other : ℕ) → other ≢ actor → (new.indexes index).place other ≡ (old.indexes index).place other
  pub versions : Stays old.versions new.versions
  pub rest : new ≡ record old { indexes = new.indexes; versions = new.versions; paged = new.paged }
  pub later : StoreGoes old.paged new.paged

-- At one index the key has this value now, or none; no other pair has changed, and no actor's place.
pub record PutsPair (index : ℕ) (key : List ℕ) (value : Option (List ℕ)) (old new : WorldState) : Type 0 where
  pub here : Goes (λ before after. after ≡ with_value key value before) (old.indexes index).pairs (new.indexes index).pairs
  pub elsewhere : (other : ℕ) → other ≢ index → AreKept (old.indexes other).pairs (new.indexes other).pairs
  pub places : (index : ℕ) → (new.indexes index).place ≡ (old.indexes index).place
  pub versions : Stays old.versions new.versions
  pub rest : new ≡ record old { indexes = new.indexes; versions = new.versions; paged = new.paged }
  pub later : StoreGoes old.paged new.paged

-- Why a call of an index has not done what it was asked, and is to be made again. A pair that is there against what is
-- known, or missing, comes only where pairs aren't told.
abbrev pub Hinders : ℕ → Index → Index → Move → Type 0
Hinders actor old new Done = ⊥
Hinders actor old new End = old.pairs ≡ None
Hinders actor old new (At key value) = old.pairs ≡ None
Hinders actor old new (Latch by) = IsKeptOff actor by old new ⊎ Delays actor old new (Latch by)
Hinders actor old new (Full need free) = LacksPages old new (Full need free)
Hinders actor old new TooDeep = LacksPages old new TooDeep
Hinders actor old new NoMemory = Unit {0}
Hinders actor old new other = Delays actor old new other

-- What calls that came before in the same step have left: no pair has changed and no place, who is awaited was so, or is this actor, and
-- pages are at hand as they were.
pub record IsReached (actor : ℕ) (old mid : Index) : Type 0 where
  pub pairs : AreKept old.pairs mid.pairs
  pub place : mid.place ≡ old.place
  pub awaited : (by : ℕ) → mid.awaited ≡ Some by → (old.awaited ≡ Some by) ⊎ (by ≡ actor)
  pub later : GoesOn old.paged mid.paged
  pub at_hand : IsIndexAtHand old → IsIndexAtHand mid

-- why the last of a step's calls has not done what it was asked
pub record HindersBehind (actor : ℕ) (old new : Index) (why : Move) : Type 0 where
  pub mid : Index
  pub reached : IsReached actor old mid
  pub kept : AreKept mid.pairs new.pairs
  pub cause : Hinders actor mid new why
