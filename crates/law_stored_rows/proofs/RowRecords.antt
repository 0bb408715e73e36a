-- What a record says of its row, and what a change of it makes of the rows of its table.
use Rattle.std.proofs.Common.{◌≡◌, ◌≢◌, ◌∙◌, sym, ap, subst, refl, ℕ, true, false, List, [], ◌∷◌, Option, None, Some, ◌⊎◌, inl, inr}
use Rattle.std.specs.Prelude.{is_some}
use Rattle.std.proofs.lemmas.Bool.{cases_Bool}
use Rattle.inno_types.specs.{declared.value.Value.Value, declared.value.Schema.Schema}
use Rattle.store_api.specs.declared.answers.Version.{Version as Coded}
use Rattle.key_codec.specs.Keys.{HasKey, key_code}
use Rattle.row_codec.proofs.Once.{same_version}
use Rattle.entries.specs.Pairs.{Pair, value_of}
use Rattle.row_versions.specs.{declared.kept.Kept.Kept, declared.version.Version.Version, Chains.older}
use Rattle.law_stored_rows.specs.{Edits.with_value, Entries.is_same_value}
use Rattle.law_stored_rows.specs.Records.{shown, IsCodeOf, LeadTo, IsRecordWith, IsClustered, KeepsMore, kept_of}
use Rattle.law_stored_rows.proofs.KeptRows.{found_of, more_of}
use Rattle.law_stored_rows.proofs.Pairs.{same_or_not, nothing_or_more, rising_now, value_now, others_now}
use Rattle.law_stored_rows.proofs.Values.{same_value, apart_by_keys, one_key}

-- ---- more is kept

module _ (schema : Schema) (key : List ℕ) (old new : ℕ → Option Kept) where
  pub leads_still : (pointer : ℕ) (versions : List Version) → KeepsMore old new → LeadTo schema key old pointer versions
      → LeadTo schema key new pointer versions
  leads_still pointer [] more is = is
  leads_still pointer (version ∷ rest) more is = (
    is.0,
    record { leads = is.1.leads; there = more pointer is.0 is.1.there; code_is = is.1.code_is; shown_is = is.1.shown_is },
    leads_still is.0.version.pointer rest more is.2,
  )

  pub record_still : (found : Option (List ℕ)) (versions : List Version) → KeepsMore old new → IsRecordWith schema key old found versions
      → IsRecordWith schema key new found versions
  record_still (Some bytes) (version ∷ rest) more is = (is.0, is.1, is.2, leads_still is.0.pointer rest more is.3)
  record_still None [] more is = tt
  record_still found versions more is = absurd is

pub record_of : (schema : Schema) (key : List ℕ) (kept : ℕ → Option Kept) (table : ℕ) (found : Option (List ℕ)) (versions : List Version)
    → IsRecordWith schema key (kept_of kept table key) found versions → IsRecordWith schema key kept found versions
record_of schema key kept table found versions is = record_still schema key (kept_of kept table key) kept found versions (found_of kept table key) is

pub clustered_still : (table : ℕ) (schema : Schema) (old new : ℕ → Option Kept) (pairs : List Pair) (versions_at : Value → List Version)
    → KeepsMore old new → IsClustered table schema old pairs versions_at → IsClustered table schema new pairs versions_at
clustered_still table schema old new pairs versions_at more is = record {
  primary = is.primary;
  primary_is = is.primary_is;
  rising = is.rising;
  keys = is.keys;
  records = λ value has. let key = key_code is.primary.kind value in
      record_still schema key (kept_of old table key) (kept_of new table key) (value_of key pairs) (versions_at value) (more_of old new table key more)
      (is.records value has);
  nowhere_else = is.nowhere_else;
}

-- ---- what is read

-- What is decoded from a record is the newest version, and its pointer leads to the others.
pub record_read : (schema : Schema) (key bytes : List ℕ) (kept : ℕ → Option Kept) (versions : List Version) (coded : Coded)
    → IsRecordWith schema key kept (Some bytes) versions → IsCodeOf schema key bytes coded
    → (versions ≡ shown coded ∷ older versions) × LeadTo schema key kept coded.pointer (older versions)
record_read schema key bytes kept [] coded is code = absurd is
record_read schema key bytes kept (version ∷ rest) coded is code =
    let one : is.0 ≡ coded = same_version schema is.0 coded key bytes is.1.numbers code.numbers is.1.record_is code.record_is in
    (ap (λ (v : Version). v ∷ rest) (sym is.2 ∙ ap shown one), subst (λ (c : Coded). LeadTo schema key kept c.pointer rest) one is.3)

module _ (schema : Schema) (key : List ℕ) (kept : ℕ → Option Kept) where
  pub no_record : (versions : List Version) → IsRecordWith schema key kept None versions → versions ≡ []
  no_record [] is = refl
  no_record (version ∷ rest) is = absurd is

  there_is : (found : Option (List ℕ)) (versions : List Version) → versions ≢ [] → IsRecordWith schema key kept found versions → is_some found ≡ true
  there_is (Some bytes) versions some is = refl
  there_is None versions some is = absurd (some (no_record versions is))

  pub leads_nowhere : (pointer : ℕ) (versions : List Version) → LeadTo schema key kept pointer versions → pointer ≡ 0 → versions ≡ []
  leads_nowhere pointer [] is zero_is = refl
  leads_nowhere pointer (version ∷ rest) is zero_is = absurd (is.1.leads zero_is)

  -- A pointer that isn't 0 leads to something.
  pub pointer_leads : (pointer : ℕ) (versions : List Version) → LeadTo schema key kept pointer versions → pointer ≢ 0 → is_some (kept pointer) ≡ true
  pointer_leads pointer [] is leads = absurd (leads is)
  pointer_leads pointer (version ∷ rest) is leads = ap is_some is.1.there

  -- What is kept for a pointer is the newest of the versions that it leads to.
  pub pointer_followed : (pointer : ℕ) (versions : List Version) (found : Kept) → LeadTo schema key kept pointer versions → pointer ≢ 0
      → kept pointer ≡ Some found
      → IsCodeOf schema key found.bytes found.version × (versions ≡ shown found.version ∷ older versions)
      × LeadTo schema key kept found.version.pointer (older versions)
  pointer_followed pointer [] found is leads there = absurd (leads is)
  pointer_followed pointer (version ∷ rest) found is leads there =
      let one : is.0 ≡ found = cc (is.1.there, there) in (
        rw one at is.1.code_is,
        ap (λ (v : Version). v ∷ rest) (sym is.1.shown_is ∙ ap (λ (k : Kept). shown k.version) one),
        subst (λ (k : Kept). LeadTo schema key kept k.version.pointer rest) one is.2,
      )

  -- A pointer leads to one list of versions.
  pub one_lead : (pointer : ℕ) (versions others : List Version) → LeadTo schema key kept pointer versions → LeadTo schema key kept pointer others
      → versions ≡ others
  one_lead pointer [] others is also = sym (leads_nowhere pointer others also is)
  one_lead pointer (version ∷ versions) others is also =
      let read = pointer_followed pointer others is.0 also is.1.leads is.1.there in
      cc (is.1.shown_is, read.1, one_lead is.0.version.pointer versions (older others) is.2 read.2)

  pub one_record : (found : Option (List ℕ)) (versions others : List Version) → IsRecordWith schema key kept found versions
      → IsRecordWith schema key kept found others → versions ≡ others
  one_record None versions others is also = no_record versions is ∙ sym (no_record others also)
  one_record (Some bytes) [] others is also = absurd is
  one_record (Some bytes) (version ∷ versions) others is also =
      let read = record_read schema key bytes kept others is.0 also is.1 in
      cc (is.2, read.0, one_lead is.0.pointer versions (older others) is.3 read.1)

  -- ---- what is put, replaced and taken back

  pub first_record : (bytes : List ℕ) (coded : Coded) (versions : List Version) → IsRecordWith schema key kept None versions
      → IsCodeOf schema key bytes coded → coded.pointer ≡ 0 → IsRecordWith schema key kept (Some bytes) (shown coded ∷ versions)
  first_record bytes coded versions is code nowhere = (coded, code, refl, rw (no_record versions is) nowhere)

  pub next_record : (bytes : List ℕ) (coded : Coded) (former : Kept) (versions : List Version)
      → IsRecordWith schema key kept (Some former.bytes) versions → IsCodeOf schema key former.bytes former.version
      → IsCodeOf schema key bytes coded → coded.pointer ≢ 0 → kept coded.pointer ≡ Some former
      → IsRecordWith schema key kept (Some bytes) (shown coded ∷ versions)
  next_record bytes coded former versions is was code leads there =
      let read = record_read schema key former.bytes kept versions former.version is was in
      (coded, code, refl, rw read.0 (former, record { leads = leads; there = there; code_is = was; shown_is = refl }, read.1))

  pub record_back : (pointer : ℕ) (found : Kept) (versions : List Version) → LeadTo schema key kept pointer versions → pointer ≢ 0
      → kept pointer ≡ Some found → IsRecordWith schema key kept (Some found.bytes) versions
  record_back pointer found versions is leads there =
      let read = pointer_followed pointer versions found is leads there in
      rw read.1 (found.version, read.0, refl, read.2)

  pub nothing_back : (pointer : ℕ) (versions : List Version) → LeadTo schema key kept pointer versions → pointer ≡ 0
      → IsRecordWith schema key kept None versions
  nothing_back pointer versions is nowhere = rw (leads_nowhere pointer versions is nowhere) tt

-- ---- a clustered index

-- A value has no versions, or a key at which there is a record.
pub nothing_or_there : {table : ℕ} {schema : Schema} {kept : ℕ → Option Kept} {pairs : List Pair} {rows : Value → List Version}
    (is : IsClustered table schema kept pairs rows)
    (value : Value) → (rows value ≡ []) ⊎ (HasKey is.primary.kind value × (is_some (value_of (key_code is.primary.kind value) pairs) ≡ true))
nothing_or_there {table = table} {schema = schema} {kept = kept} {pairs = pairs} {rows = rows} is value = elim (nothing_or_more (rows value)) [
  | inl none ↦ inl none
  | inr some ↦
      let has = is.nowhere_else value some in
      let code = key_code is.primary.kind value in
      inr (has, there_is schema code (kept_of kept table code) (value_of code pairs) (rows value) some (is.records value has))
]

-- what a change of the record at one key makes of it

module _ (table : ℕ) (schema : Schema) (kept : ℕ → Option Kept) (pairs : List Pair) (was now : Value → List Version)
    (is : IsClustered table schema kept pairs was)
    (here : Value) (has : HasKey is.primary.kind here) (found : Option (List ℕ))
    (elsewhere : (other : Value) → is_same_value here other ≡ false → now other ≡ was other) where
  abbrev code : Value → List ℕ
  code value = key_code is.primary.kind value

  abbrev edited : List Pair
  edited = with_value (code here) found pairs

  pub clustered_after : IsRecordWith schema (code here) (kept_of kept table (code here)) found (now here) → IsClustered table schema kept edited now
  clustered_after new = record {
    primary = is.primary;
    primary_is = is.primary_is;
    rising = rising_now (code here) found pairs is.rising;
    keys = λ other there. elim (same_or_not other (code here)) [
      | inl same ↦ (here, has, same)
      | inr differ ↦ is.keys other (rw (others_now (code here) found other pairs differ) at there)
    ];
    records = λ value has_too. elim (same_or_not (code value) (code here)) [
      | inl same ↦ rw (one_key is.primary.kind value here has_too has same, value_now (code here) found pairs is.rising) new
      | inr differ ↦ rw (others_now (code here) found (code value) pairs differ, elsewhere value (apart_by_keys is.primary.kind here value differ))
          (is.records value has_too)
    ];
    nowhere_else = λ value there. elim (cases_Bool (is_same_value here value)) [
      | inl same ↦ subst (λ (v : Value). HasKey is.primary.kind v) (same_value here value same) has
      | inr apart ↦ is.nowhere_else value (λ none. there (elsewhere value apart ∙ none))
    ];
  }
