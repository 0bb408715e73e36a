-- A change whose keys take it over stays what it is while another session makes a step at another place.
-- `Records` and `Rows` have it for the whole change. What is under way in the other session is not changed by it.
use Rattle.std.proofs.Common.{◌≡◌, ◌∙◌, sym, ap, subst, ℕ, true, List, Option, None, Some, slice_get}
use Rattle.std.specs.Prelude.{IfSome, IsSome, is_some}
use Rattle.inno_types.specs.{declared.value.Value.Value, declared.value.Schema.Schema}
use Rattle.entries.specs.Pairs.{Pair, value_of}
use Rattle.entries.specs.Index.{Told}
use Rattle.row_versions.specs.{declared.place.Place.Place, declared.version.Version.Version, Chains.Chains}
use Rattle.law_stored_rows.specs.{Edits.key_index, Tables.Said, Tables.SayTheSameBut}
use Rattle.world.specs.{State.WorldState, Told.IsTold, Told.pairs_in, Told.pairs_of}
use Rattle.world.specs.Widths.{HasKeyLen, HasValueLen}
use Rattle.row_changes.specs.{Edits.IsRowFor, Edits.IsKeyAt, Entries.PutPhaseHolds, Entries.unmarked}
use Rattle.row_changes.specs.Keys.{IsChangingKeys, IsEntering, IsEntryIn, HasRowsSoFar, said_next}
use Rattle.row_changes.specs.{declared.keys_change.KeysChange.KeysChange, declared.entry_put.EntryPut.EntryPut, declared.entry_put.PutPhase.PutPhase}
use Rattle.row_changes.specs.declared.entry_put.PutPhase.TheVariants.{Look, Unmark}
use Rattle.row_changes.proofs.{Keying.at_entry, Telling.tells, Pushed.table_kept}
use Rattle.law_other_places.specs.Beside.{LeavesPlace}
use Rattle.law_other_places.proofs.Gluing.{at, glued, glued_here, glued_apart, glued_coded}

-- ---- what an index tells

told_by : (P : List Pair → Type 0) (pairs : Option (List Pair)) → IsSome pairs → P (pairs_in pairs) → IfSome pairs P
told_by P None some holds = absurd (cc)
told_by P (Some pairs) some holds = holds

pub told_again : (P Q : List Pair → Type 0) (old new : WorldState) (index : ℕ) → IsTold old → IsTold new
    → (P (pairs_of old index) → Q (pairs_of new index)) → Told P (old.indexes index) → Told Q (new.indexes index)
told_again P Q old new index told tells_new follows holds =
    told_by Q (new.indexes index).pairs (tells_new.pairs index) (follows (tells P (old.indexes index).pairs holds (told.pairs index)))

-- ---- entries of the place

module _ {place : Place} {chains after : Chains} {now : Said} {old new : WorldState} (leaves : LeavesPlace place chains after now old new) where
  -- the entry that a row of the place has in a key
  pub entry_left : (schema : Schema) (which : ℕ) (row : List Value) (primary entry : List ℕ) → slice_get old.schemas place.table ≡ Some schema
      → IsKeyAt schema place.key primary → IsRowFor schema row primary → IsEntryIn schema which row primary entry
      → value_of entry (pairs_of new (key_index place.table which)) ≡ value_of entry (pairs_of old (key_index place.table which))
  entry_left schema which row primary entry there at_key fits is =
      leaves.entries primary (record { schema = schema; there = there; at = at_key }) which entry (at_entry schema which row primary entry fits is)

  -- ---- what keys say so far

  pub so_far_left : (beside beside_now : Said) (done : ℕ) (next older : List Version) → SayTheSameBut place now beside_now
      → HasRowsSoFar chains beside place done next older old → HasRowsSoFar after beside_now place done next older new
  so_far_left beside beside_now done next older same rows told =
      let was = rows leaves.told in
      let here = glued_here place was.0 now in (
        glued place was.0 now,
        glued_coded leaves was.0 was.1,
        record {
          lag = glued_apart place was.0 now beside_now same;
          first = λ which below. here which ∙ was.2.first which below ∙ sym leaves.versions;
          here = here done ∙ was.2.here;
          later = λ which above. here which ∙ was.2.later which above;
        },
      )

  phase_left : (phase : PutPhase) (entry : List ℕ) (index : ℕ) → value_of entry (pairs_of new index) ≡ value_of entry (pairs_of old index)
      → PutPhaseHolds phase entry (old.indexes index) → PutPhaseHolds phase entry (new.indexes index)
  phase_left Look entry index same holds = record {}
  phase_left Unmark entry index same holds =
      told_again (λ pairs. is_some (value_of entry pairs) ≡ true) (λ pairs. is_some (value_of entry pairs) ≡ true) old new index leaves.told leaves.tells
      (λ is. ap is_some same ∙ is) holds

-- ---- the change

entering_left : {chains after : Chains} {now : Said} {old new : WorldState} (schema : Schema) (table which : ℕ) (value : Value)
    (row : Option (List Value)) (primary : List ℕ) (put : EntryPut) → LeavesPlace (at table value) chains after now old new
    → slice_get old.schemas table ≡ Some schema → IsKeyAt schema value primary → IfSome row (λ r. IsRowFor schema r primary)
    → IsEntering schema table which row primary old put → IsEntering schema table which row primary new put
entering_left schema table which value None primary put leaves there at_key fits is = absurd is.entry_is
entering_left {old = old} {new = new} schema table which value (Some row) primary put leaves there at_key fits is = record {
  index_is = is.index_is;
  entry_is = is.entry_is;
  within = is.within;
  putting = record {
    index_is = rw leaves.schemas is.putting.index_is;
    short = is.putting.short;
    key_len = subst (λ (schemas : List Schema). HasKeyLen schemas put.index put.entry) (sym leaves.schemas) is.putting.key_len;
    value_len = subst (λ (schemas : List Schema). HasValueLen schemas put.index unmarked) (sym leaves.schemas) is.putting.value_len;
    phase = phase_left leaves put.phase put.entry put.index
        (subst (λ (i : ℕ). value_of put.entry (pairs_of new i) ≡ value_of put.entry (pairs_of old i)) (sym is.index_is)
        (entry_left leaves schema which row primary put.entry there at_key fits is.entry_is)) is.putting.phase;
  };
}

some_left : (P Q : EntryPut → Type 0) (put : Option EntryPut) → ((x : EntryPut) → P x → Q x) → IfSome put P → IfSome put Q
some_left P Q None each is = record {}
some_left P Q (Some put) each is = each put is

pub keys_left : {chains after : Chains} {now : Said} {old new : WorldState} (beside beside_now : Said) (change : KeysChange)
    (p : IsChangingKeys chains beside old change) → LeavesPlace (at change.table p.value) chains after now old new
    → SayTheSameBut (at change.table p.value) now beside_now → IsChangingKeys after beside_now new change
keys_left {old = old} {new = new} beside beside_now change p leaves same = record {
  schema = p.schema;
  table = table_kept change.table p.schema old new leaves.schemas p.table;
  value = p.value;
  at = p.at;
  before = p.before;
  after = p.after;
  within = p.within;
  put = some_left (IsEntering p.schema change.table change.which change.after change.key old)
      (IsEntering p.schema change.table change.which change.after change.key new) change.put
      (λ put is. entering_left p.schema change.table change.which p.value change.after change.key put leaves p.table.there p.at p.after is) p.put;
  older = p.older;
  pushed = record {
    version = p.pushed.version;
    versions = leaves.versions ∙ p.pushed.versions;
    is = p.pushed.is;
    small = p.pushed.small;
  };
  was = λ told. p.was leaves.told;
  rows = so_far_left leaves beside beside_now change.which (said_next change.put change.before p.older) p.older same p.rows;
}
