-- What a step of the world leaves of the rows that it tells, and why a call of an index has not done what it was asked.
use Rattle.std.proofs.Common.{◌≡◌, ℕ, cond, List, Option, ap, ◌≢◌, false, Some, None, sym, ◌∙◌, length, rules}
use Rattle.std.specs.Prelude.{◌==◌}
use Rattle.entries.specs.{Index.Told, Pairs.Pair, Pairs.value_of}
use Rattle.entries.specs.Calls.{Delays, NextKeys, Replaces, Removes, IsResized, is_as_long}
use Rattle.law_stored_rows.specs.Edits.{with_value}
use Rattle.world.specs.{State.WorldState, Told.pairs_of, Told.IsTold, Told.LeavesRows}
use Rattle.row_changes.specs.Pairs.{RowsStay, RowsStayBut, PutsPair}
use Rattle.row_changes.proofs.Telling.{told_if, went, put_pairs, tells}
use Rattle.undo_apply.specs.{Told.rows_of, Stages.Stops}
use Rattle.std.proofs.lemmas.Bool.{true≢false, eq-eqb}
use Rattle.store_api.specs.{declared.moves.Move.Move}
use Rattle.store_api.specs.declared.moves.Move.TheVariants.{End, Done}

-- ---- no pair has changed

pub leaves_told : {old new : WorldState} → LeavesRows old new → IsTold new → IsTold old
leaves_told {old} {new} leaves = told_if old new leaves.pairs leaves.versions

pub leaves_rows : {old new : WorldState} → LeavesRows old new → IsTold new → rows_of new ≡ rows_of old
leaves_rows {old} {new} leaves told =
    let pairs : (index : ℕ) → pairs_of new index ≡ pairs_of old index
    = λ index. went (λ list. list) (old.indexes index).pairs (new.indexes index).pairs (leaves.pairs index) (told.pairs index) in
    λ i. record { schemas = leaves.schemas i; pairs = λ index. pairs index i; kept = leaves.versions.kept told.versions i }

pub schemas_stay : {old new : WorldState} → RowsStay old new → new.schemas ≡ old.schemas
schemas_stay {old} {new} stays = ap (λ (s : WorldState). s.schemas) stays.rest

pub stay_but : {actor : ℕ} {old new : WorldState} → RowsStay old new → RowsStayBut actor old new
stay_but stays = record {
  pairs = stays.pairs;
  places = λ index other differs. ap (λ (place : ℕ → Option Pair). place other) (stays.places index);
  versions = stays.versions;
  rest = stays.rest;
  later = stays.later;
}

-- no pair has changed, whatever has become of this actor's place
pub rows_left_but : {actor : ℕ} {old new : WorldState} → RowsStayBut actor old new → LeavesRows old new
rows_left_but stays = record { schemas = ap (λ (s : WorldState). s.schemas) stays.rest; pairs = stays.pairs; versions = stays.versions }

pub rows_left : {old new : WorldState} → RowsStay old new → LeavesRows old new
rows_left {old} {new} stays = record { schemas = schemas_stay stays; pairs = stays.pairs; versions = stays.versions }

pub rows_stay : {old new : WorldState} → RowsStay old new → IsTold new → rows_of new ≡ rows_of old
rows_stay {old} {new} stays told = leaves_rows (rows_left stays) told

-- ---- one pair was put, or removed

-- the pairs of all indexes once one index has this value at the key
abbrev pub pairs_after : ℕ → List ℕ → Option (List ℕ) → (ℕ → List Pair) → ℕ → List Pair
pairs_after index key value pairs other = cond (other == index) (with_value key value (pairs index)) (pairs other)

pub rows_after : {index : ℕ} {key : List ℕ} {value : Option (List ℕ)} {old new : WorldState} → PutsPair index key value old new → IsTold new
    → rows_of new ≡ record (rows_of old) { pairs = pairs_after index key value (rows_of old).pairs }
rows_after {index} {key} {value} {old} {new} puts told =
    let schemas = ap (λ (s : WorldState). s.schemas) puts.rest in
    let pairs : (other : ℕ) → pairs_of new other ≡ pairs_after index key value (rows_of old).pairs other = put_pairs index key value old new puts told in
    λ i. record { schemas = schemas i; pairs = λ index. pairs index i; kept = puts.versions.kept told.versions i }

-- ---- why a call of an index has not done what it was asked, where all is told

-- what is said of the pairs holds of them, where all is told
pub told_of : (P : List Pair → Type 0) (state : WorldState) (index : ℕ) → IsTold state → Told P (state.indexes index) → P ((rows_of state).pairs index)
told_of P state index told holds = tells P (state.indexes index).pairs holds (told.pairs index)

-- the key is there, with a value of this length
abbrev pub IsThereAs : List ℕ → List ℕ → WorldState → ℕ → Type 0
IsThereAs key value state index = (kept : List ℕ) × (value_of key ((rows_of state).pairs index) ≡ Some kept) × (length kept ≡ length value)

module _ (actor : ℕ) (old new : WorldState) (index : ℕ) where
  abbrev Stopped : Move → Type 0
  Stopped answer = Stops actor index old new answer

  pub delay_stops : (answer : Move) → Delays actor (old.indexes index) (new.indexes index) answer → Stopped answer
  delay_stops other h = search rules

  module _ (key : List ℕ) where
    pub replace_stops : (value : List ℕ) (answer : Move) → (IsTold old → IsThereAs key value old index)
        → Replaces actor key value (old.indexes index) (new.indexes index) answer → answer ≢ Done → Stopped answer
    replace_stops value answer there = go answer where
      resized : IsResized key value (old.indexes index) → IsTold old → ⊥
      resized h told =
          let found = there told in
          let as_long = ap (is_as_long value) found.1 ∙ eq-eqb (length found.0) (length value) found.2 in
          true≢false (sym as_long ∙ told_of (λ pairs. is_as_long value (value_of key pairs) ≡ false) old index told h)

      go : (answer : Move) → Replaces actor key value (old.indexes index) (new.indexes index) answer → answer ≢ Done → Stopped answer
      go End h not_done = λ told. let found = sym (there told).1 ∙ told_of (λ pairs. value_of key pairs ≡ None) old index told h.0 in cc
      go other h not_done = search (rules, resized)

    pub remove_stops : (answer : Move) → Removes actor key (old.indexes index) (new.indexes index) answer → answer ≢ Done → answer ≢ End → Stopped answer
    remove_stops other h not_done not_end = search rules

    pub next_key_stops : (read : List ℕ) (answer : Move) → NextKeys actor key read (old.indexes index) (new.indexes index) answer → answer ≢ Done
        → answer ≢ End → Stopped answer
    next_key_stops read other h not_done not_end = search rules
