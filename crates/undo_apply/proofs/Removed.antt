-- The two calls of a removal: what they leave, why they were put off, and who is awaited afterwards.
use Rattle.std.proofs.Common.{◌≡◌, ◌≢◌, ◌⊎◌, inl, inr, ⊎_elim, ℕ, false, List, Option, None, Some, refl, sym, ap, subst, ◌∙◌, rules, Bool, true}
use Rattle.std.specs.Prelude.{◌==◌, if◌then◌else◌, IsSome, IfSome}
use Rattle.std.proofs.lemmas.{Bool.cases_eq, Bool.Decides.eqb_tells}
use Rattle.store_api.specs.{declared.moves.Move.Move, declared.moves.Move.TheVariants.Done, declared.moves.Move.TheVariants.End}
use Rattle.entries.specs.{Pairs.Pair, Index.Index, Index.AreKept, Index.HasGone, Calls.NextKeys, Calls.Removes, Calls.Leaves, Calls.released}
use Rattle.law_stored_rows.specs.Edits.{with_value}
use Rattle.row_versions.specs.Versions.{Versions, Stays}
use Rattle.world.specs.{State.WorldState, State.IsIndex, Indexes.Calls, AtHand.IsAtHand}
use Rattle.world.proofs.Stores.{store_goes_on}
use Rattle.row_changes.specs.{Pairs.RowsStay, Pairs.RowsStayBut, Pairs.PutsPair, Awaited.AwaitsNoMore}
use Rattle.row_changes.proofs.Awaited.{HasStayed, AwaitsHere, stays_if, puts_if, next_key_keeps, remove_keeps, next_key_here, next_key_off, remove_here, awaits_at}
use Rattle.row_changes.proofs.Changing.{stays_then, puts_behind, kept_then, versions_then}
use Rattle.row_changes.proofs.Sessions.{same_pairs}
use Rattle.undo_apply.specs.{Stages.StopsRemoval, Stages.Stops, Removal.RemovesPair, Removal.HasNext}
use Rattle.undo_apply.proofs.Telling.{stay_but, remove_stops, next_key_stops}

pub removed_if : {index : ℕ} {call : Index → Index → Type 0} {old new : WorldState} {holder : Option ℕ} (key : List ℕ) → Calls index call old new
    → HasGone (λ before after. after ≡ with_value key None before) holder (old.indexes index) (new.indexes index) → PutsPair index key None old new
removed_if {index} {call} {old} {new} key c here =
    puts_if {actor = 0} {call = λ before after answer. call before after} {answer = Done} key None
    (record { index_is = c.index_is; beside = c.beside; counted = record {} }) here

-- what is told now was so before, if pairs are told
told_before : (P : List Pair → Type 0) (old mid : Option (List Pair)) → AreKept old mid → IsSome mid → IfSome mid P → IfSome old P
told_before P (Some old) (Some mid) kept some told = rw kept at told
told_before P None (Some mid) kept some told = record {}
told_before P old None kept none told = absurd (cc)

-- ---- an actor leaves an index

-- who is awaited still, once this actor isn't: it is another
left_over : (s : ℕ) (awaited : Option ℕ) (by : ℕ) → released s awaited ≡ Some by → (awaited ≡ Some by) × (by ≢ s)
left_over s None by is = absurd (cc)
left_over s (Some holder) by is = kept (holder == s) (eqb_tells holder s) is
  where
    kept : (mine : Bool) → ((mine ≡ true) × (holder ≡ s)) ⊎ ((mine ≡ false) × (holder ≢ s)) → (if mine then None else Some holder) ≡ Some by
        → (Some holder ≡ Some by) × (by ≢ s)
    kept true tells none = absurd (cc)
    kept false tells same = (same, ⊎_elim (λ t. let no : false ≡ true = t.0 in absurd (cc)) (λ f at. f.1 (let one : holder ≡ by = cc in one ∙ at)) tells)

left_behind : {actor index : ℕ} {start after new : WorldState} → RowsStay start after → Calls index (Leaves actor) after new → RowsStayBut actor start new
left_behind {actor} {index} {start} {after} {new} stay left = record {
  pairs = λ i. kept_then (start.indexes i).pairs (after.indexes i).pairs (new.indexes i).pairs (stay.pairs i) (pairs i);
  places = λ i other differs. places i other differs ∙ ap (λ (place : ℕ → Option Pair). place other) (stay.places i);
  versions = versions_then stay.versions left.beside.versions;
  rest = left.beside.rest ∙ ap (λ (s : WorldState). record s { indexes = new.indexes; versions = new.versions; paged = new.paged }) stay.rest;
  later = store_goes_on start.paged after.paged new.paged stay.later left.beside.later;
}
  where
    pairs : (i : ℕ) → AreKept (after.indexes i).pairs (new.indexes i).pairs
    pairs i =
        ⊎_elim (λ e. rw e (subst (AreKept (after.indexes index).pairs) (sym left.index_is.here.pairs) (same_pairs (after.indexes index).pairs)))
        (λ apart. (left.index_is.elsewhere i apart).pairs) (cases_eq i index)

    places : (i other : ℕ) → other ≢ actor → (new.indexes i).place other ≡ (after.indexes i).place other
    places i other differs =
        ⊎_elim (λ e. rw e (left.index_is.here.others other differs))
        (λ apart. ap (λ (place : ℕ → Option Pair). place other) (left.index_is.elsewhere i apart).place) (cases_eq i index)

-- ---- the key behind is looked up

module _ (actor index : ℕ) (key read : List ℕ) (old new : WorldState) (answer : Move)
    (calls : Calls index (λ before after. NextKeys actor key read before after answer) old new) where
  next_stays : RowsStay old new
  next_stays = stays_if calls (next_key_keeps actor key read (old.indexes index) (new.indexes index) answer calls.index_is.here)

  -- it is known, or there is none, and others are kept from changing keys
  pub has_next : IsIndex old.schemas index → IsAtHand new → HasNext actor index old new
  has_next index_is hand = record {
    index_is = rw (ap (λ (s : WorldState). s.schemas) calls.beside.rest) index_is;
    told = hand.told;
    stays = next_stays;
    reached = record {
      pairs = next_stays.pairs index;
      place = next_stays.places index;
      awaited = next_key_here actor key read (old.indexes index) (new.indexes index) answer calls.index_is.here;
      later = calls.index_is.later;
      at_hand = λ were. hand.indexes index;
    };
    elsewhere = λ other by differs is. sym (calls.index_is.elsewhere other differs).awaited ∙ is;
  }

  pub next_put_off : answer ≢ Done → answer ≢ End → RemovesPair actor index key old new answer
  next_put_off = go answer (stay_but next_stays) (λ not_done not_end. inl (next_key_stops actor old new index key read answer calls.index_is.here not_done not_end))
    where
      go : (answer : Move) → RowsStayBut actor old new → (answer ≢ Done → answer ≢ End → StopsRemoval actor index old new answer) → answer ≢ Done
          → answer ≢ End → RemovesPair actor index key old new answer
      go Done stay why not_done not_end = absurd (not_done refl)
      go End stay why not_done not_end = absurd (not_end refl)
      go answer stay why not_done not_end = (stay, why not_done not_end)

  -- nobody else is awaited than was before
  pub next_awaits : answer ≢ Done → answer ≢ End → AwaitsNoMore old new
  next_awaits not_done not_end = awaits_at index _ old new calls.index_is (next_key_off actor key read _ _ answer calls.index_is.here not_done not_end)

-- ---- the pair goes

module _ (actor index : ℕ) (key : List ℕ) (start mid : WorldState) (next : HasNext actor index start mid) where
  abbrev Removing : WorldState → Move → Type 0
  Removing new answer = Calls index (λ before after. Removes actor key before after answer) mid new

  -- who is awaited at the index behind the step was so before
  awaits_then : (new : WorldState) → ((by : ℕ) → (new.indexes index).awaited ≡ Some by → (start.indexes index).awaited ≡ Some by)
      → ((other by : ℕ) → other ≢ index → (new.indexes other).awaited ≡ Some by → (mid.indexes other).awaited ≡ Some by) → AwaitsNoMore start new
  awaits_then new here beside = record {
    each = λ i by is. ⊎_elim (λ same. rw same (here by (rw same at is))) (λ apart. next.elsewhere i by apart (beside i by apart is)) (cases_eq i index);
  }

  pub removed : (new : WorldState) → Removing new Done → RemovesPair actor index key start new Done
  removed new calls = puts_behind next.stays (removed_if key calls calls.index_is.here.2)

  pub removed_none : (new : WorldState) → Removing new End → RemovesPair actor index key start new End
  removed_none new calls = (
    stays_then next.stays (stays_if calls (calls.index_is.here.2.pairs, calls.index_is.here.2.place)),
    told_before _ (start.indexes index).pairs (mid.indexes index).pairs next.reached.pairs (next.told.pairs index) calls.index_is.here.1,
  )

  -- the pair is gone, or there was none, and nobody is awaited there
  pub removed_awaits : (new : WorldState) (answer : Move) → Removing new answer → (new.indexes index).awaited ≡ None → AwaitsNoMore start new
  removed_awaits new answer calls none =
      awaits_then new (λ by is. absurd (let e : None ≡ Some by = sym none ∙ is in cc))
      (λ other by differs is. sym (calls.index_is.elsewhere other differs).awaited ∙ is)

  -- the call was put off, and the actor has left the index
  module _ (after new : WorldState) (answer : Move) (calls : Removing after answer) (not_done : answer ≢ Done) (not_end : answer ≢ End)
      (left : Calls index (Leaves actor) after new) where
    off_stays : RowsStay start after
    off_stays = stays_then next.stays (stays_if calls (remove_keeps actor key (mid.indexes index) (after.indexes index) answer calls.index_is.here not_done))

    left_stays : RowsStayBut actor start new
    left_stays = left_behind off_stays left

    pub removal_put_off : IsAtHand mid → IsAtHand after → RemovesPair actor index key start new answer
    removal_put_off was is = go answer left_stays (inr (record {
      mid = mid;
      after = after;
      reached = next.reached;
      at_hand = (was, is);
      cause = remove_stops actor mid after index key answer calls.index_is.here not_done not_end;
    })) not_done not_end
      where
        go : (answer : Move) → RowsStayBut actor start new → StopsRemoval actor index start new answer → answer ≢ Done → answer ≢ End
            → RemovesPair actor index key start new answer
        go Done stay why not_done not_end = absurd (not_done refl)
        go End stay why not_done not_end = absurd (not_end refl)
        go answer stay why not_done not_end = (stay, why)

    pub put_off_awaits : AwaitsNoMore start new
    put_off_awaits =
        awaits_then new here
        (λ other by differs is. sym (calls.index_is.elsewhere other differs).awaited ∙ (sym (left.index_is.elsewhere other differs).awaited ∙ is))
      where
        here : (by : ℕ) → (new.indexes index).awaited ≡ Some by → (start.indexes index).awaited ≡ Some by
        here by is =
            let over = left_over actor (after.indexes index).awaited by (sym left.index_is.here.awaited ∙ is) in
            ⊎_elim (λ was. was) (λ mine. absurd (over.1 mine))
            (next.reached.awaited by (remove_here actor key (mid.indexes index) (after.indexes index) answer calls.index_is.here by over.0))
