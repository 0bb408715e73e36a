-- What the calls of a world's indexes leave of its pairs, what may hinder them, and who is awaited afterwards.
use Rattle.std.proofs.Common.{◌≡◌, ◌≢◌, ◌⊎◌, inr, ⊎_elim, ℕ, true, false, Option, Some, None, List, refl, sym, inl, ◌∙◌, ap, rules}
use Rattle.std.proofs.lemmas.Bool.{cases_eq}
use Rattle.store_api.specs.{declared.moves.Move.Move, declared.answers.Undo.Undo}
use Rattle.store_api.specs.declared.moves.Move.TheVariants.{At, End, Done, Latch, Failed, NoMemory}
use Rattle.entries.specs.{Pairs.Pair, Pairs.value_of, Index.Index, Index.AreKept, Index.HasGone, Index.IsAsBefore}
use Rattle.entries.specs.Calls.{Inserts, Replaces, Delays, IsKeptOff, Fetches, NextKeys, Removes}
use Rattle.std.specs.Prelude.{IfSome, is_some}
use Rattle.world.specs.Indexes.{InsertsWith, ReplacesWith, InIndex, Calls, Changes}
use Rattle.world.specs.State.{WorldState, Session, Work}
use Rattle.law_stored_rows.specs.Edits.{with_value}
use Rattle.row_changes.specs.{Entries.IsThere, Entering.Enters, Pairs.RowsStay, Pairs.PutsPair, Pairs.Hinders}
use Rattle.row_changes.specs.Awaited.{AwaitsNoMore}
use Rattle.inno_db.specs.declared.change.Change.{Change}

-- the pairs are kept, and each actor's place
abbrev pub HasStayed : Index → Index → Type 0
HasStayed old new = AreKept old.pairs new.pairs × (new.place ≡ old.place)

-- where a step in one index has kept the places there, no place has changed anywhere
pub places_if : {index : ℕ} {step : Index → Index → Type 0} {old new : WorldState} → InIndex index step old new
    → (new.indexes index).place ≡ (old.indexes index).place → (i : ℕ) → (new.indexes i).place ≡ (old.indexes i).place
places_if {index} {step} {old} {new} is kept i =
    ⊎_elim (λ e. rw e kept) (λ other. (is.elsewhere i other).place) (cases_eq i index)

-- where the call has kept its index, no pair has changed anywhere, and no place
pub stays_if : {index : ℕ} {call : Index → Index → Type 0} {old new : WorldState} → Calls index call old new
    → HasStayed (old.indexes index) (new.indexes index) → RowsStay old new
stays_if {index} {call} {old} {new} c kept =
    record {
      pairs = λ i. ⊎_elim (λ e. rw e kept.0) (λ other. (c.index_is.elsewhere i other).pairs) (cases_eq i index);
      places = places_if c.index_is kept.1;
      versions = c.beside.versions;
      rest = c.beside.rest;
      later = c.beside.later;
    }

-- who is awaited in an index was so before
abbrev pub AwaitsHere : Index → Index → Type 0
AwaitsHere old new = (by : ℕ) → new.awaited ≡ Some by → old.awaited ≡ Some by

-- what a call leaves that changes nothing
abbrev pub IsLeft : Index → Index → Type 0
IsLeft old new = HasStayed old new × AwaitsHere old new

pub as_before : (old new : Index) → IsAsBefore old new → IsLeft old new
as_before old new same = ((same.pairs, same.place), λ by is. sym same.awaited ∙ is)

none_here : (old new : Index) → new.awaited ≡ None → AwaitsHere old new
none_here old new none by is = absurd (cc)

-- what a delay leaves
delay_leaves : (actor : ℕ) (old new : Index) (move : Move) → Delays actor old new move → IsAsBefore old new
delay_leaves actor old new Failed h = record { pairs = h.pairs; place = h.place; awaited = h.awaited }
delay_leaves actor old new other h = search rules

delay_keeps : (actor : ℕ) (old new : Index) (move : Move) → Delays actor old new move → HasStayed old new
delay_keeps actor old new move h = (as_before old new (delay_leaves actor old new move h)).0

pub delay_hinders : (actor : ℕ) (old new : Index) (move : Move) → Delays actor old new move → Hinders actor old new move
delay_hinders actor old new (Latch by) h = inr h
delay_hinders actor old new other h = search rules

-- what one leaves, or who is kept off by another actor
off_leaves : (actor by : ℕ) (old new : Index) → IsKeptOff actor by old new ⊎ Delays actor old new (Latch by) → IsAsBefore old new
off_leaves actor by old new (inl off) = off.all
off_leaves actor by old new (inr delay) = delay.all

-- ---- calls that change nothing

-- an answer of fetch but Done and End
pub fetch_delays : (actor : ℕ) (key read : List ℕ) (old new : Index) (move : Move) → Fetches actor key read old new move → move ≢ Done → move ≢ End
    → Delays actor old new move
fetch_delays actor key read old new Done h not_done not_end = absurd (not_done refl)
fetch_delays actor key read old new other h not_done not_end = search rules

pub fetch_keeps : (actor : ℕ) (key read : List ℕ) (old new : Index) (move : Move) → Fetches actor key read old new move → HasStayed old new
fetch_keeps actor key read old new Done h = (h.1.pairs, h.1.place)
fetch_keeps actor key read old new other h = search (rules, delay_keeps)

pub next_key_keeps : (actor : ℕ) (key read : List ℕ) (old new : Index) (move : Move) → NextKeys actor key read old new move → HasStayed old new
next_key_keeps actor key read old new (Latch by) h = (as_before old new (off_leaves actor by old new h)).0
next_key_keeps actor key read old new other h = search (rules, delay_keeps)

-- who is awaited behind a look for the next key: who was before, or who has looked
pub next_key_here : (actor : ℕ) (key read : List ℕ) (old new : Index) (move : Move) → NextKeys actor key read old new move → (by : ℕ)
    → new.awaited ≡ Some by → (old.awaited ≡ Some by) ⊎ (by ≡ actor)
next_key_here actor key read old new Done h by is = inr (cc (h.2.awaited, is))
next_key_here actor key read old new End h by is = inr (cc (h.2.awaited, is))
next_key_here actor key read old new (Latch holder) h by is = inl ((as_before old new (off_leaves actor holder old new h)).1 by is)
next_key_here actor key read old new other h by is = inl ((as_before old new (search (rules, delay_leaves))).1 by is)

-- one that was put off keeps nobody off
pub next_key_off : (actor : ℕ) (key read : List ℕ) (old new : Index) (move : Move) → NextKeys actor key read old new move → move ≢ Done → move ≢ End
    → AwaitsHere old new
next_key_off actor key read old new Done h not_done not_end = absurd (not_done refl)
next_key_off actor key read old new End h not_done not_end = absurd (not_end refl)
next_key_off actor key read old new (Latch holder) h not_done not_end = (as_before old new (off_leaves actor holder old new h)).1
next_key_off actor key read old new other h not_done not_end = (as_before old new (search (rules, delay_leaves))).1

-- ---- changes

-- a change that brings no undo record
pub puts_if : {index actor : ℕ} {call : Index → Index → Move → Type 0} {old new : WorldState} {answer : Move} {holder : Option ℕ} (key : List ℕ)
    (value : Option (List ℕ)) → Changes index actor None call old new answer
    → HasGone (λ before after. after ≡ with_value key value before) holder (old.indexes index) (new.indexes index) → PutsPair index key value old new
puts_if key value c here =
    record {
      here = here.pairs;
      elsewhere = λ other differs. (c.index_is.elsewhere other differs).pairs;
      places = places_if c.index_is here.place;
      versions = c.beside.versions;
      rest = c.beside.rest;
      later = c.beside.later;
    }

pub change_stays_if : {index actor : ℕ} {call : Index → Index → Move → Type 0} {old new : WorldState} {answer : Move}
    → Changes index actor None call old new answer → HasStayed (old.indexes index) (new.indexes index) → RowsStay old new
change_stays_if {index} {actor} {call} {old} {new} c kept = stays_if (record { index_is = c.index_is; beside = c.beside }) kept

-- what is known of the key and what was answered contradict each other, so the pairs aren't told
not_told : (P Q : List Pair → Type 0) (pairs : Option (List Pair)) → ((list : List Pair) → P list → Q list → ⊥) → IfSome pairs P → IfSome pairs Q
    → pairs ≡ None
not_told P Q None apart known answered = refl
not_told P Q (Some list) apart known answered = absurd (apart list known answered)

-- ---- insert

insert_alone : (actor : ℕ) (key value : List ℕ) (old new : Index) (move : Move) → Inserts actor key value old new move → move ≢ Done → IsLeft old new
insert_alone actor key value old new Done h not_done = absurd (not_done refl)
insert_alone actor key value old new (At there kept) h not_done = ((h.3.pairs, h.3.place), none_here old new h.3.awaited)
insert_alone actor key value old new (Latch by) h not_done = as_before old new (off_leaves actor by old new h)
insert_alone actor key value old new other h not_done = as_before old new (search (rules, delay_leaves))

-- a call that wasn't done
pub insert_left : (undo : Option Undo) (actor : ℕ) (key value : List ℕ) (old new : Index) (move : Move) → InsertsWith undo actor key value old new move
    → move ≢ Done → IsLeft old new
insert_left None actor key value old new move h not_done = insert_alone actor key value old new move h not_done
insert_left (Some undo) actor key value old new NoMemory h not_done = as_before old new h
insert_left (Some undo) actor key value old new other h not_done = insert_alone actor key value old new other h not_done

pub insert_with_here : (undo : Option Undo) (actor : ℕ) (key value : List ℕ) (old new : Index) (move : Move)
    → InsertsWith undo actor key value old new move → AwaitsHere old new
insert_with_here None actor key value old new Done h = none_here old new h.2.awaited
insert_with_here (Some undo) actor key value old new Done h = none_here old new h.2.awaited
insert_with_here undo actor key value old new other h = (insert_left undo actor key value old new other h (λ e. cc)).1

-- where the key was not there
insert_hinders_alone : (actor : ℕ) (key value : List ℕ) (old new : Index) (move : Move) → IsThere false key old → Inserts actor key value old new move
    → move ≢ Done → Hinders actor old new move
insert_hinders_alone actor key value old new Done absent h not_done = absurd (not_done refl)
insert_hinders_alone actor key value old new (At there kept) absent h not_done =
    not_told (λ pairs. is_some (value_of key pairs) ≡ false) (λ pairs. value_of key pairs ≡ Some kept) old.pairs (λ pairs none some. cc) absent h.2
insert_hinders_alone actor key value old new (Latch by) absent h not_done = h
insert_hinders_alone actor key value old new other absent h not_done = search rules

pub insert_hinders : (undo : Option Undo) (actor : ℕ) (key value : List ℕ) (old new : Index) (move : Move) → IsThere false key old
    → InsertsWith undo actor key value old new move → move ≢ Done → Hinders actor old new move
insert_hinders None actor key value old new move absent h not_done = insert_hinders_alone actor key value old new move absent h not_done
insert_hinders (Some undo) actor key value old new NoMemory absent h not_done = record {}
insert_hinders (Some undo) actor key value old new other absent h not_done = insert_hinders_alone actor key value old new other absent h not_done

-- where nothing is known of the key, an answer that doesn't say that it is there
pub insert_waits : (actor : ℕ) (key value : List ℕ) (old new : Index) (move : Move) → Inserts actor key value old new move → move ≢ Done
    → ((there kept : List ℕ) → move ≢ At there kept) → Hinders actor old new move
insert_waits actor key value old new Done h not_done not_at = absurd (not_done refl)
insert_waits actor key value old new (At there kept) h not_done not_at = absurd (not_at there kept refl)
insert_waits actor key value old new (Latch by) h not_done not_at = h
insert_waits actor key value old new other h not_done not_at = search rules

-- ---- replace

replace_alone : (actor : ℕ) (key value : List ℕ) (old new : Index) (move : Move) → Replaces actor key value old new move → move ≢ Done → IsLeft old new
replace_alone actor key value old new Done h not_done = absurd (not_done refl)
replace_alone actor key value old new other h not_done = as_before old new (search (rules, delay_leaves))

pub replace_leaves : (undo : Option Undo) (actor : ℕ) (key value : List ℕ) (old new : Index) (move : Move) → ReplacesWith undo actor key value old new move
    → move ≢ Done → IsLeft old new
replace_leaves None actor key value old new move h not_done = replace_alone actor key value old new move h not_done
replace_leaves (Some undo) actor key value old new NoMemory h not_done = as_before old new h
replace_leaves (Some undo) actor key value old new other h not_done = replace_alone actor key value old new other h not_done

pub replace_with_here : (undo : Option Undo) (actor : ℕ) (key value : List ℕ) (old new : Index) (move : Move)
    → ReplacesWith undo actor key value old new move → AwaitsHere old new
replace_with_here None actor key value old new Done h = λ by is. sym h.1.awaited ∙ is
replace_with_here (Some undo) actor key value old new Done h = λ by is. sym h.1.awaited ∙ is
replace_with_here undo actor key value old new other h = (replace_leaves undo actor key value old new other h (λ e. cc)).1

-- where the key was there
replace_hinders_alone : (actor : ℕ) (key value : List ℕ) (old new : Index) (move : Move) → IsThere true key old → Replaces actor key value old new move
    → move ≢ Done → Hinders actor old new move
replace_hinders_alone actor key value old new Done there h not_done = absurd (not_done refl)
replace_hinders_alone actor key value old new End there h not_done =
    not_told (λ pairs. is_some (value_of key pairs) ≡ true) (λ pairs. value_of key pairs ≡ None) old.pairs (λ pairs some none. cc) there h.0
replace_hinders_alone actor key value old new other there h not_done = search rules

pub replace_hinders : (undo : Option Undo) (actor : ℕ) (key value : List ℕ) (old new : Index) (move : Move) → IsThere true key old
    → ReplacesWith undo actor key value old new move → move ≢ Done → Hinders actor old new move
replace_hinders None actor key value old new move there h not_done = replace_hinders_alone actor key value old new move there h not_done
replace_hinders (Some undo) actor key value old new NoMemory there h not_done = record {}
replace_hinders (Some undo) actor key value old new other there h not_done = replace_hinders_alone actor key value old new other there h not_done

-- ---- remove

pub remove_keeps : (actor : ℕ) (key : List ℕ) (old new : Index) (move : Move) → Removes actor key old new move → move ≢ Done → HasStayed old new
remove_keeps actor key old new (Latch by) h not_done = (as_before old new (off_leaves actor by old new h)).0
remove_keeps actor key old new other h not_done = search (rules, delay_keeps)

pub remove_here : (actor : ℕ) (key : List ℕ) (old new : Index) (move : Move) → Removes actor key old new move → AwaitsHere old new
remove_here actor key old new Done h = none_here old new h.2.awaited
remove_here actor key old new End h = none_here old new h.2.awaited
remove_here actor key old new (Latch by) h = (as_before old new (off_leaves actor by old new h)).1
remove_here actor key old new other h = (as_before old new (search (rules, delay_leaves))).1

-- ---- who is awaited after the calls of a world's indexes

-- what holds in the index of the call holds of the world
pub awaits_at : (index : ℕ) (step : Index → Index → Type 0) (old new : WorldState) → InIndex index step old new
    → AwaitsHere (old.indexes index) (new.indexes index) → AwaitsNoMore old new
awaits_at index step old new in_index here = record {
  each = λ i by is.
      ⊎_elim (λ same. rw same (here by (rw same at is))) (λ apart. sym (in_index.elsewhere i apart).awaited ∙ is) (cases_eq i index);
}

pub awaits_then : {old mid new : WorldState} → AwaitsNoMore old mid → AwaitsNoMore mid new → AwaitsNoMore old new
awaits_then first next = record { each = λ i by is. first.each i by (next.each i by is) }

-- no index was called
pub awaits_same : (old new : WorldState) → new.indexes ≡ old.indexes → AwaitsNoMore old new
awaits_same old new same = record { each = λ i by is. ap (λ (indexes : ℕ → Index). (indexes i).awaited) (sym same) ∙ is }

-- a record that was put, and then the entry of the history, which calls no index
pub entered_awaits : (s index : ℕ) (step : Index → Index → Type 0) (old mid new : WorldState) (change : Change) (rows : ℕ) (session : Session) (work : Work)
    → InIndex index step old mid → AwaitsHere (old.indexes index) (mid.indexes index) → Enters s change rows session work mid new → AwaitsNoMore old new
entered_awaits s index step old mid new change rows session work in_index here enters = record {
  each = λ i by is.
      (awaits_at index step old mid in_index here).each i by (ap (λ (state : WorldState). (state.indexes i).awaited) (sym enters.rest) ∙ is);
}
