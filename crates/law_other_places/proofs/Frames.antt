-- What steps leave of other rows.
-- The steps of changes and of taking back ask it of records, kept versions and entries; nothing of sessions is known here.
use Rattle.std.proofs.Common.{◌≡◌, ◌≢◌, ◌∙◌, ◌⊎◌, inl, inr, ⊎_elim, sym, ap, subst, ℕ, ◌≤◌, ◌<◌, false, List, Option, Some, slice_get, length, arith}
use Rattle.std.proofs.lemmas.Option.{slice_get_within}
use Rattle.inno_types.specs.declared.value.{Column.Column, Key.Key}
use Rattle.key_codec.specs.Keys.{HasEntry, entry_code}
use Rattle.key_codec.proofs.Once.{same_entry}
use Rattle.entries.specs.Index.{AreKept}
use Rattle.inno_types.specs.declared.value.Schema.{Schema}
use Rattle.entries.specs.Pairs.{value_of}
use Rattle.row_versions.specs.{declared.place.Place.Place, Chains.is_same_place}
use Rattle.law_stored_rows.specs.{Edits.clustered_index, Edits.key_index}
use Rattle.law_stored_rows.proofs.{KeptRows.more_of, Values.place_itself, Pairs.at_index, Pairs.others_now, Pairs.no_key, Pairs.other_key as one_key}
use Rattle.world.specs.{State.WorldState, Told.IsTold, Told.pairs_of}
use Rattle.row_changes.specs.{Edits.IsKeyAt, Keys.IsEntryAt, Keys.ChangesItsEntry}
use Rattle.row_changes.proofs.{Telling.one_value, Telling.went, Telling.put_pairs, Sessions.one_found}
use Rattle.std.proofs.lemmas.Bool.{cases_eq, true≢false}
use Rattle.law_logged_changes.specs.Steps.{LeavesRecords, LeavesOtherRows}
use Rattle.law_logged_changes.proofs.Leaving.{same_clustered, stay_kept}
use Rattle.law_other_places.specs.Beside.{IsKeyOf, LeavesRow, LeavesEntries}

-- whoever leaves all records leaves each row
pub records_leave : {old new : WorldState} → LeavesRecords old new → IsTold new → (table : ℕ) (key : List ℕ) → LeavesRow table key old new
records_leave {old} {new} leaves tells table key = record {
  same = ap (value_of key) (same_clustered old new leaves tells table);
  kept = more_of old.versions.kept_at new.versions.kept_at table key (stay_kept old new leaves.versions tells);
}

-- two places have two keys
pub other_key : (place other : Place) (schemas : List Schema) (key also : List ℕ) → IsKeyOf place schemas key → IsKeyOf other schemas also
    → is_same_place place other ≡ false → (other.table ≢ place.table) ⊎ (also ≢ key)
other_key place other schemas key also x y apart = elim (cases_table other.table place.table) [
  | inl same ↦ inr (λ keys.
      let one : y.schema ≡ x.schema = one_found y.schema x.schema y.there (ap (slice_get schemas) same ∙ x.there) in
      let value = one_value x.schema other.key place.key key (subst (λ (k : List ℕ). IsKeyAt x.schema other.key k) keys
      (subst (λ (s : Schema). IsKeyAt s other.key also) one y.at)) x.at in
      let is : other ≡ place = λ i. record { table = same i; key = value i } in
      true≢false (sym (place_itself place) ∙ ap (is_same_place place) (sym is) ∙ apart))
  | inr differs ↦ inl differs
]
  where
    cases_table : (a b : ℕ) → (a ≡ b) ⊎ (a ≢ b)
    cases_table a b = cases_eq a b

-- whoever leaves all rows but one leaves each at another place
pub other_rows_leave : {table : ℕ} {key : List ℕ} {old new : WorldState} → LeavesOtherRows table key old new → IsTold new → (other : ℕ) (also : List ℕ)
    → (other ≢ table) ⊎ (also ≢ key) → LeavesRow other also old new
other_rows_leave leaves tells other also apart = record { same = leaves.records tells other also apart; kept = leaves.kept tells other also apart }

pub leaves_then : {table : ℕ} {key : List ℕ} {old mid new : WorldState} → LeavesRow table key old mid → LeavesRow table key mid new
    → LeavesRow table key old new
leaves_then one two = record { same = two.same ∙ one.same; kept = λ pointer found is. two.kept pointer found (one.kept pointer found is) }

-- ---- entries

-- each table has few keys
abbrev pub HaveFewKeys : List Schema → Type 0
HaveFewKeys schemas = (table : ℕ) (schema : Schema) → slice_get schemas table ≡ Some schema → length schema.keys ≤ 4

few_here : (schemas : List Schema) → HaveFewKeys schemas → (place : Place) (key : List ℕ) (is : IsKeyOf place schemas key) (which : ℕ) (entry : List ℕ)
    → IsEntryAt is.schema which key entry → which < 4
few_here schemas few place key is which entry at =
    let inside = slice_get_within is.schema.keys which at.key at.key_is in
    let most = few place.table is.schema is.there in
    omega (arith, inside, most)

-- whoever leaves all pairs leaves all entries
pub all_entries : (old new : WorldState) → ((index : ℕ) → AreKept (old.indexes index).pairs (new.indexes index).pairs) → IsTold new → (place : Place)
    → LeavesEntries place old new
all_entries old new kept tells place key is which entry at =
    let index = key_index place.table which in
    ap (value_of entry) (went (λ pairs. pairs) (old.indexes index).pairs (new.indexes index).pairs (kept index) (tells.pairs index))

-- and so does who changes records alone
pub records_apart : (old new : WorldState) (table : ℕ) → HaveFewKeys old.schemas
    → ((index : ℕ) → index ≢ clustered_index table → AreKept (old.indexes index).pairs (new.indexes index).pairs) → IsTold new → (place : Place)
    → LeavesEntries place old new
records_apart old new table few kept tells place key is which entry at =
    let index = key_index place.table which in
    let apart = no_key table place.table which (few_here old.schemas few place key is which entry at) in
    ap (value_of entry) (went (λ pairs. pairs) (old.indexes index).pairs (new.indexes index).pairs (kept index apart) (tells.pairs index))

-- whoever changes an entry of one row leaves those of each other
pub other_entries : (place other : Place) (old new : WorldState) (primary : List ℕ) (x : IsKeyOf place old.schemas primary) → HaveFewKeys old.schemas
    → IsTold old → IsTold new → is_same_place place other ≡ false → ChangesItsEntry x.schema place.table primary old new → LeavesEntries other old new
other_entries place other old new primary x few told tells apart (inl stays) = all_entries old new stays.pairs tells other
other_entries place other old new primary x few told tells apart (inr (which, within, entry, value, puts, its)) = λ key is at_which at_entry at.
    let index = key_index other.table at_which in
    let there = key_index place.table which in
    let e = its told in
    elim (cases_eq index there) [
      | inl same ↦
          let few_at = few_here old.schemas few other key is at_which at_entry at in
          let few_its = few_here old.schemas few place primary x which entry e in
          let one = one_key place.table other.table at_which which few_at few_its same in
          let schema : is.schema ≡ x.schema = one_found is.schema x.schema is.there (ap (slice_get old.schemas) one.0 ∙ x.there) in
          let keys : at.key ≡ e.key =
          one_key_found at.key e.key at.key_is (ap (λ (s : Schema). slice_get s.keys at_which) schema ∙ ap (slice_get x.schema.keys) one.1 ∙ e.key_is) in
          let columns : at.indexed ≡ e.indexed =
          one_column at.indexed e.indexed at.indexed_is
          (ap (λ (s : Schema). slice_get s.columns at.key.column) schema ∙ ap (λ (k : Key). slice_get x.schema.columns k.column) keys ∙ e.indexed_is) in
          let has : HasEntry at.indexed.kind e.value = subst (λ (c : Column). HasEntry c.kind e.value) (sym columns) e.has in
          let differs : at_entry ≢ entry = λ (bytes : at_entry ≡ entry).
          let codes : entry_code at.indexed.kind at.value key ≡ entry_code at.indexed.kind e.value primary =
          sym at.spelled ∙ bytes ∙ e.spelled ∙ ap (λ (c : Column). entry_code c.kind e.value primary) (sym columns) in
          let parts = same_entry at.indexed.kind at.value e.value key primary at.has.0 has.0 at.has.1 has.1 codes in
          ⊎_elim (λ tables. tables one.0) (λ keys_differ. keys_differ parts.1) (other_key place other old.schemas primary key x is apart) in
          ap (λ (n : ℕ). value_of at_entry (pairs_of new n)) same
          ∙ ap (value_of at_entry) (at_index (pairs_of old) (pairs_of new) there entry value (put_pairs there entry value old new puts tells))
          ∙ others_now entry value at_entry (pairs_of old there) differs ∙ sym (ap (λ (n : ℕ). value_of at_entry (pairs_of old n)) same)
      | inr differs ↦
          ap (value_of at_entry) (went (λ pairs. pairs) (old.indexes index).pairs (new.indexes index).pairs (puts.elsewhere index differs) (tells.pairs index))
    ]
  where
    one_key_found : (a b : Key) {found : Option Key} → found ≡ Some a → found ≡ Some b → a ≡ b
    one_key_found a b first second = cc

    one_column : (a b : Column) {found : Option Column} → found ≡ Some a → found ≡ Some b → a ≡ b
    one_column a b first second = cc

-- where pairs stay behind a step, entries are left as they were by it
pub entries_then : (place : Place) (old mid new : WorldState) → ((index : ℕ) → pairs_of new index ≡ pairs_of mid index) → LeavesEntries place old mid
    → LeavesEntries place old new
entries_then place old mid new same leaves key is which entry at =
    ap (value_of entry) (same (key_index place.table which)) ∙ leaves key is which entry at
