-- Nothing but want of memory, of pages or of levels hinders a call of a store at hand where nobody is awaited: of an index, for room for an
-- undo record, and so of a change's keys. A search is hindered by want of memory alone.
use Rattle.std.proofs.Common.{◌≡◌, ◌≢◌, ⊎_elim, ℕ, List, Option, Some, None, refl}
use Rattle.std.specs.Prelude.{IsSome}
use Rattle.store_api.specs.declared.moves.Move.TheVariants.{At, End, Done, Latch, Again, Full, TooDeep, Failed, Bad, NoMemory}
use Rattle.store_api.specs.declared.moves.Move.{Move}
use Rattle.entries.specs.{Pairs.Pair, Index.Index, Index.AreKept}
use Rattle.law_stored_rows.specs.Edits.{key_index}
use Rattle.world.specs.{State.WorldState, AtHand.IsAtHand, AtHand.IsIndexAtHand, Undoing.MakesRoom}
use Rattle.world.proofs.AtHand.{not_delayed, index_not_delayed, never_unseen, free_are_few, counted_are_few}
use Rattle.row_changes.specs.{Awaited.AwaitsNobody, Pairs.Hinders, Pairs.HindersBehind, Keys.HindersKeys, declared.keys_change.KeysChange.KeysChange}
use Rattle.row_search.specs.{declared.scan.Scan.Scan, declared.phase.Phase.Phase, Steps.MayWait, Steps.MayBeUnseen, Steps.PhaseWaits}
use Rattle.row_search.specs.declared.phase.Phase.TheVariants.{Seek, Follow, Fetch, Walk}
use Rattle.store_api.specs.declared.visits.Visit.TheVariants as visit
use Rattle.law_held_steps.specs.Hindering.{IsForWant, hindrance_of}
use Rattle.shared_lists.specs.Steps.{IsLacking}

-- what hinders it is what it is given up for
pub lacking : (why : Move) → IsForWant why → IsLacking (hindrance_of why)
lacking (Full need free) want = want
lacking other want = record {}

-- the pairs are told
untold : (pairs : Option (List Pair)) → IsSome pairs → pairs ≡ None → ⊥
untold None told none = absurd (cc)
untold (Some pairs) told none = absurd (cc)

-- a call of an index at hand, whose pairs are told, and where nobody else is awaited
index_lacks : (s : ℕ) (old new : Index) → ((by : ℕ) → old.awaited ≡ Some by → by ≡ s) → IsIndexAtHand old → IsIndexAtHand new → IsSome old.pairs
    → (why : Move) → Hinders s old new why → IsForWant why
index_lacks s old new alone was is told NoMemory off = record {}
index_lacks s old new alone was is told TooDeep off = record {}
index_lacks s old new alone was is told (Full need free) off = free_are_few need free old.paged new.paged off.cause
index_lacks s old new alone was is told (Latch by) off =
    ⊎_elim (λ kept. kept.held.another (alone by kept.held.awaited)) (index_not_delayed s old new was is (Latch by)) off
index_lacks s old new alone was is told (At key value) off = untold old.pairs told off
index_lacks s old new alone was is told End off = untold old.pairs told off
index_lacks s old new alone was is told Done off = off
index_lacks s old new alone was is told other off = index_not_delayed s old new was is other off

told_before : (old new : Option (List Pair)) → AreKept old new → IsSome new → IsSome old
told_before (Some old) new kept told = refl
told_before None (Some new) kept told = absurd kept
told_before None None kept told = told

module _ (s : ℕ) (old new : WorldState) (was : IsAtHand old) (is : IsAtHand new) where
  -- a call of an index, the last of several in its step
  pub last_lacks : AwaitsNobody old → (index : ℕ) (why : Move) → HindersBehind s (old.indexes index) (new.indexes index) why → IsForWant why
  last_lacks nobody index why off =
      index_lacks s off.mid (new.indexes index) (λ by awaits. ⊎_elim (λ at. absurd (nobody index by at)) (λ mine. mine) (off.reached.awaited by awaits))
      (off.reached.at_hand (was.indexes index)) (is.indexes index) (told_before off.mid.pairs (new.indexes index).pairs off.kept (is.told.pairs index)) why
      off.cause

  -- room for an undo record
  pub room_lacks : (bytes : ℕ) (why : Move) → why ≢ Done → MakesRoom s bytes old new why → IsForWant why
  room_lacks bytes NoMemory hindered same = record {}
  room_lacks bytes (Full need free) hindered off = counted_are_few need free old.paged new.paged off.cause
  room_lacks bytes Done hindered made = hindered refl
  room_lacks bytes TooDeep hindered off = record {}
  room_lacks bytes other hindered off = not_delayed s old new was is other off

  -- that the old entry isn't there comes only where the world doesn't tell what is kept
  pub keys_lack : AwaitsNobody old → (change : KeysChange) (why : Move) → HindersKeys s old new change why → IsForWant why
  keys_lack nobody change why off =
      ⊎_elim (last_lacks nobody (key_index change.table off.which) why) (λ gone. absurd (gone.1 was.told)) off.cause

  -- a step of a search
  index_waits : (index : ℕ) (why : Move) → MayWait s (old.indexes index) (new.indexes index) why → why ≡ NoMemory
  index_waits index NoMemory off = refl
  index_waits index other off =
      absurd (index_not_delayed s (old.indexes index) (new.indexes index) (was.indexes index) (is.indexes index) other off)

  walk_waits : (why : Move) → MayBeUnseen old.versions new.versions why → why ≡ NoMemory
  walk_waits NoMemory off = refl
  walk_waits Failed off = absurd (never_unseen old.versions new.versions was.versions is.versions visit.Failed off)
  walk_waits Again off = absurd (never_unseen old.versions new.versions was.versions is.versions visit.Again off)
  walk_waits (Bad page rule) off = absurd (never_unseen old.versions new.versions was.versions is.versions (visit.Bad page rule) off)
  walk_waits other off = absurd off

  pub search_lacks : (scan : Scan) (phase : Phase) (why : Move) → PhaseWaits s old new scan phase why → why ≡ NoMemory
  search_lacks scan Seek why off = index_waits _ why off
  search_lacks scan Follow why off = index_waits _ why off
  search_lacks scan (Fetch entry) why off = index_waits _ why off
  search_lacks scan (Walk entry pointer) why off = walk_waits why off
  search_lacks scan other why off = off
