-- The steps of a change and of a taking back: what each makes of the rows, and of what its key says of the place.
use Rattle.std.proofs.Common.{◌≡◌, ◌≢◌, ◌∙◌, sym, subst, ℕ, true, false, List, [], ◌∷◌, Option, None, Some, slice_get, inl, inr}
use Rattle.std.proofs.lemmas.Bool.{cases_eq}
use Rattle.inno_types.specs.{declared.value.Value.Value, declared.value.Schema.Schema}
use Rattle.inno_db.specs.Database.{key_of}
use Rattle.store_api.specs.declared.answers.Version.{Version as Coded}
use Rattle.entries.specs.Pairs.{Pair, value_of}
use Rattle.row_versions.specs.{declared.kept.Kept.Kept, declared.place.Place.Place, declared.version.Version.Version}
use Rattle.row_versions.specs.Chains.{Chains, versions_at, newest, older, Pushes, Pops}
use Rattle.law_stored_rows.specs.{Edits.clustered_index, Edits.key_index, Entries.is_same_value, Entries.value_in, Entries.has_value, Entries.entry_of}
use Rattle.law_stored_rows.specs.{Entries.TellAlikeBut, Steps.PutsRecord, Steps.PutsEntry, Tables.place_in, Tables.in_table, Tables.Said, Tables.AreCodedAs}
use Rattle.law_stored_rows.specs.{Tables.SaysNow, Records.row_shown, Records.shown, Records.IsCodeOf, Records.IsRecordWith, Records.LeadTo, Records.IsClustered}
use Rattle.law_stored_rows.specs.Records.{kept_of}
use Rattle.law_stored_rows.proofs.KeptRows.{kept_along}
use Rattle.law_stored_rows.proofs.{Values.in_one_table, Values.in_other_table, Values.key_there, Values.value_itself, Keys.entry_changed}
use Rattle.law_stored_rows.proofs.Pairs.{at_index, at_others, other_rows, no_key}
use Rattle.law_stored_rows.proofs.RowRecords.{first_record, next_record, record_read, record_back, nothing_back, clustered_after}
use Rattle.law_stored_rows.proofs.Entries.{marked, is_marked, put, is_put, taken}
use Rattle.law_stored_rows.proofs.Tables.{at, few_of, StaysElsewhere, pushed_here, pushed_elsewhere, popped_here, popped_elsewhere}

-- ---- records

module _ (schemas : List Schema) (old new : ℕ → List Pair) (kept : ℕ → Option Kept) (before after : Chains) (said : Said) (table : ℕ)
    (schema : Schema) (key bytes : List ℕ) (coded : Coded)
    (is : AreCodedAs schemas old kept before said) where
  abbrev With : Option (List ℕ) → List Version → Type 0
  With found versions = IsRecordWith schema key (kept_of kept table key) found versions

  abbrev home : Place
  home = place_in table schema coded.row

  abbrev pairs : List Pair
  pairs = old (clustered_index table)

  -- the record at the key is changed, and the versions of its place with it
  module _ (found : Option (List ℕ)) (step : PutsRecord schemas old new table schema key bytes coded found)
      (elsewhere : StaysElsewhere before after home) where
    stays_in : (other : ℕ) (value : Value) → other ≢ table → in_table other after value ≡ in_table other before value
    stays_in other value differ = elsewhere (at other value) (in_other_table home (at other value) (λ same. differ (sym same)))

    made : (With (value_of key pairs) (versions_at home before) → With found (versions_at home after))
        → IsClustered table schema kept (new (clustered_index table)) (in_table table after)
    made makes =
        let here = key_of schema coded.row in
        let was = is.clustered.tables table schema step.there in
        let both = key_there schema key bytes coded was.primary was.primary_is step.code_is in
        let record_now = rw both.1 at (makes (rw both.1 (was.records here both.0))) in
        let stays : (other : Value) → is_same_value here other ≡ false → in_table table after other ≡ in_table table before other =
        λ other apart. elsewhere (at table other) (in_one_table table here other ∙ apart) in
        rw (at_index old new (clustered_index table) key found step.puts, both.1)
        (clustered_after table schema kept pairs (in_table table before) (in_table table after) was here both.0 found stays record_now)

    changed : (With (value_of key pairs) (versions_at home before) → With found (versions_at home after)) → AreCodedAs schemas new kept after said
    changed makes = record {
      clustered = record {
        tables = λ other s there. elim (cases_eq other table) [
          | inl same ↦
              let also : slice_get schemas table ≡ Some s = rw same at there in
              let one : s ≡ schema = cc (step.there, also) in
              rw (same, one) (made makes)
          | inr differ ↦
              let same_rows : in_table other before ≡ in_table other after = λ i value. sym (stays_in other value differ) i in
              subst (λ (f : Value → List Version). IsClustered other s kept (new (clustered_index other)) f) same_rows
              (rw (at_others old new (clustered_index table) key found (clustered_index other) step.puts (other_rows table other differ))
              (is.clustered.tables other s there))
        ];
        nowhere_else = λ other value none. elim (cases_eq other table) [
          | inl same ↦ let also : slice_get schemas table ≡ None = rw same at none in absurd (cc (step.there, also))
          | inr differ ↦ stays_in other value differ ∙ is.clustered.nowhere_else other value none
        ];
      };
      keyed = record {
        few = is.keyed.few;
        keys = λ other which s k there also.
            rw (at_others old new (clustered_index table) key found (key_index other which) step.puts
            (no_key table other which (few_of s which k (is.keyed.few other s there) also))) (is.keyed.keys other which s k there also);
      };
    }

  pub new_record : PutsRecord schemas old new table schema key bytes coded (Some bytes) → value_of key pairs ≡ None → coded.pointer ≡ 0
      → Pushes before after home (shown coded) → AreCodedAs schemas new kept after said
  new_record step none nowhere pushes =
      changed (Some bytes) step (pushed_elsewhere before after home (shown coded) pushes) (λ was. rw (pushed_here before after home (shown coded) pushes)
      (first_record schema key (kept_of kept table key) bytes coded (versions_at home before) (rw none at was) step.code_is nowhere))

  pub replaced_record : (former : Kept) → PutsRecord schemas old new table schema key bytes coded (Some bytes)
      → value_of key pairs ≡ Some former.bytes → IsCodeOf schema key former.bytes former.version
      → coded.pointer ≢ 0 → kept_of kept table key coded.pointer ≡ Some former → Pushes before after home (shown coded) → AreCodedAs schemas new kept after said
  replaced_record former step some former_is leads keeps pushes =
      changed (Some bytes) step (pushed_elsewhere before after home (shown coded) pushes) (λ was. rw (pushed_here before after home (shown coded) pushes)
      (next_record schema key (kept_of kept table key) bytes coded former (versions_at home before) (rw some at was) former_is step.code_is leads keeps))

  -- what the pointer of the record that was there leads to
  led : IsCodeOf schema key bytes coded → value_of key pairs ≡ Some bytes → With (value_of key pairs) (versions_at home before)
      → LeadTo schema key (kept_of kept table key) coded.pointer (older (versions_at home before))
  led code some was = (record_read schema key bytes (kept_of kept table key) (versions_at home before) coded (rw some at was) code).1

  pub record_taken_back : (found : Kept) → PutsRecord schemas old new table schema key bytes coded (Some found.bytes)
      → value_of key pairs ≡ Some bytes → coded.pointer ≢ 0 → kept coded.pointer ≡ Some found
      → Pops before after home → AreCodedAs schemas new kept after said
  record_taken_back found step some leads keeps pops =
      changed (Some found.bytes) step (popped_elsewhere before after home pops) (λ was. rw (popped_here before after home pops)
      (let rest = older (versions_at home before) in
      let back = led step.code_is some was in
      record_back schema key (kept_of kept table key) coded.pointer found rest back leads
      (kept_along kept table key schema coded.pointer rest found back leads keeps)))

  pub record_removed : PutsRecord schemas old new table schema key bytes coded None → value_of key pairs ≡ Some bytes
      → coded.pointer ≡ 0 → Pops before after home → AreCodedAs schemas new kept after said
  record_removed step some nowhere pops =
      changed None step (popped_elsewhere before after home pops) (λ was. rw (popped_here before after home pops)
      (nothing_back schema key (kept_of kept table key) coded.pointer (older (versions_at home before)) (led step.code_is some was) nowhere))

-- ---- entries

module _ (schemas : List Schema) (old new : ℕ → List Pair) (kept : ℕ → Option Kept) (chains : Chains) (was now : Said) (table : ℕ) (schema : Schema)
    (which column : ℕ) (coded : Coded)
    (is : AreCodedAs schemas old kept chains was) where
  abbrev value : Value
  value = value_in column coded.row

  abbrev place : Place
  place = place_in table schema coded.row

  abbrev told : List Version
  told = was table which (key_of schema coded.row)

  entry_step : (before versions : List Version) (now_is : Option (List ℕ)) → told ≡ before
      → PutsEntry schemas old new table schema which column coded now_is → TellAlikeBut value column before versions → entry_of column value versions ≡ now_is
      → SaysNow was now place which versions → AreCodedAs schemas new kept chains now
  entry_step before versions now_is told_is step alike marked_is says =
      entry_changed schemas old new kept chains table schema which step.key step.indexed step.primary step.bytes coded was now versions is step.there
      step.key_is (rw step.column_is step.indexed_is) step.code_is (rw (step.column_is, told_is) alike) (rw (step.column_is, marked_is) step.puts) says

  pub old_marked : (gone : Version) (versions : List Version) → PutsEntry schemas old new table schema which column coded (Some (1 ∷ []))
      → told ≡ versions → newest versions ≡ Some coded.row → gone.row ≡ None
      → SaysNow was now place which (gone ∷ versions) → AreCodedAs schemas new kept chains now
  old_marked gone versions step told_is first none says =
      let has : has_value column value (newest versions) ≡ true = rw first (value_itself value) in
      entry_step versions (gone ∷ versions) (Some (1 ∷ [])) told_is step (marked column value gone versions has none)
      (is_marked column value gone versions has none) says

  pub new_put : (gone : Version) (versions : List Version) → PutsEntry schemas old new table schema which column coded (Some (0 ∷ []))
      → coded.marked ≡ false → told ≡ gone ∷ versions → gone.row ≡ None
      → SaysNow was now place which (shown coded ∷ versions) → AreCodedAs schemas new kept chains now
  new_put gone versions step plain told_is none says =
      let has : has_value column value (row_shown coded.marked coded.row) ≡ true = rw plain (value_itself value) in
      entry_step (gone ∷ versions) (shown coded ∷ versions) (Some (0 ∷ [])) told_is step
      (λ other apart. sym (taken column value (shown coded) gone versions has none other apart)) (is_put column value (shown coded) versions has) says

  pub first_put : (versions : List Version) → PutsEntry schemas old new table schema which column coded (Some (0 ∷ [])) → coded.marked ≡ false
      → told ≡ versions → newest versions ≡ None
      → SaysNow was now place which (shown coded ∷ versions) → AreCodedAs schemas new kept chains now
  first_put versions step plain told_is none says =
      let has : has_value column value (row_shown coded.marked coded.row) ≡ true = rw plain (value_itself value) in
      entry_step versions (shown coded ∷ versions) (Some (0 ∷ [])) told_is step (put column value (shown coded) versions has none)
      (is_put column value (shown coded) versions has) says
