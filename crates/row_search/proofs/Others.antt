-- What was found stays found as others step; and where the keys of rows are.
use Rattle.std.proofs.Common.{◌≡◌, ◌∙◌, sym, ap, subst, refl, ℕ, zero, suc, ◌+◌, true, List, [], ◌∷◌, Option, None, Some, slice_get, arith}
use Rattle.std.specs.{Prelude.IsTrue, Prelude.is_some, Prelude.All, List.list_any}
use Rattle.std.proofs.{lemmas.Bool.or_left, lemmas.Bool.or_right, lemmas.Bool.cond_both, lemmas.List.Elements.All-head, lemmas.List.Elements.All-tail}
use Rattle.inno_types.specs.{declared.value.Value.Value, declared.value.Kind.Kind, declared.value.Key.Key, declared.value.Schema.Schema}
use Rattle.key_codec.specs.Keys.{HasKey, HasEntry, Has64Bits, key_code, entry_code}
use Rattle.entries.specs.{Pairs.Pair, Pairs.value_of, Calls.HasKey as IsAtKey}
use Rattle.row_versions.specs.{declared.kept.Kept.Kept, declared.version.Version.Version, Chains.first_seen, Chains.newest}
use Rattle.law_stored_rows.specs.{Entries.value_in, Entries.has_value, Entries.entry_of, Entries.HasEntries, Records.IsRecordWith, Records.IsClustered}
use Rattle.law_stored_rows.specs.{Records.KeepsMore}
use Rattle.law_stored_rows.specs.Records.{kept_of}
use Rattle.law_stored_rows.proofs.{Entries.holds_said, Values.value_itself, RowRecords.leads_still, RowRecords.no_record}
use Rattle.sql_plan.specs.Visits.{kind_if, kind_at, index_key}
use Rattle.world.specs.State.{WorldState}
use Rattle.row_search.specs.declared.phase.Phase.TheVariants.{Follow, Fetch, Look, Walk, Keep}
use Rattle.row_search.specs.{declared.sight.Sight.Sight, declared.scan.Scan.Scan, declared.phase.Phase.Phase, declared.search.RowSearch.RowSearch}
use Rattle.row_search.specs.{Sights.sees_by, Sights.rows_seen, Ranges.primary_part, Tables.HaveKeys, Others.KeepsWay, Searches.IsSearching}
use Rattle.row_search.specs.{Searches.PhaseHolds, Searches.PhaseFinds, Searches.Finds, Searches.place_in}
use Rattle.row_search.proofs.Keys.{home, key_is_value, keyed_is, fits_in}

-- ---- what was found

way_on : (schema : Schema) (scan : Scan) (row_at : Value → Option (List Value)) (old new : ℕ → Option Kept) (place : Option Pair) (phase : Phase)
    → KeepsWay schema scan.sight old new phase → PhaseFinds schema scan row_at old place phase → PhaseFinds schema scan row_at new place phase
way_on schema scan row_at old new place (Look entry bytes) keeps f =
    let k = keeps f.1 f.2 in
    (f.0, k.0, k.1, record { value = f.3.value; has_key = f.3.has_key; key_is = f.3.key_is; seen = f.3.seen ∙ sym k.2 })
way_on schema scan row_at old new place (Walk entry pointer) keeps f =
    let k = keeps f.1 f.2 in
    (f.0, k.0, k.1, record { value = f.3.value; has_key = f.3.has_key; key_is = f.3.key_is; seen = f.3.seen ∙ sym k.2 })
way_on schema scan row_at old new place other keeps f = f

pub found_still : (schema : Schema) (old new : ℕ → Option Kept) (place : Option Pair) (was now : Value → List Version) (search : RowSearch)
    → ((value : Value) → rows_seen search.scan.sight now value ≡ rows_seen search.scan.sight was value)
    → KeepsWay schema search.scan.sight old new search.phase → Finds schema old place was search → Finds schema new place now search
found_still schema old new place was now search same keeps found =
    let seen : rows_seen search.scan.sight was ≡ rows_seen search.scan.sight now = λ i value. sym (same value) i in
    subst (λ (row_at : Value → Option (List Value)). PhaseFinds schema search.scan row_at new place search.phase) seen
    (way_on schema search.scan (rows_seen search.scan.sight was) old new place search.phase keeps found)

record_still : (schema : Schema) (key : List ℕ) (old new : ℕ → Option Kept) (bytes : List ℕ) (versions : List Version) → KeepsMore old new
    → IsRecordWith schema key old (Some bytes) versions → IsRecordWith schema key new (Some bytes) versions
record_still schema key old new bytes [] more is = is
record_still schema key old new bytes (version ∷ versions) more is = (is.0, is.1, is.2, leads_still schema key old new is.0.pointer versions more is.3)

pub way_still : (schema : Schema) (sight : Sight) (old new : ℕ → Option Kept) (phase : Phase) → KeepsMore old new → KeepsWay schema sight old new phase
way_still schema sight old new (Look entry bytes) more =
    λ versions is. (versions, record_still schema (primary_part schema entry) old new bytes versions more is, refl, omega arith)
way_still schema sight old new (Walk entry pointer) more =
    λ versions is. (versions, leads_still schema (primary_part schema entry) old new pointer versions more is, refl, omega arith)
way_still schema sight old new other more = tt

pub holds_still : (actor : ℕ) (schema : Schema) (scan : Scan) (old new : WorldState) → place_in actor scan new ≡ place_in actor scan old
    → (IsTrue new.versions.told → IsTrue old.versions.told) → (phase : Phase)
    → (IsTrue new.versions.told → KeepsWay schema scan.sight old.versions.kept_at new.versions.kept_at phase) → PhaseHolds actor schema scan old phase
    → PhaseHolds actor schema scan new phase
holds_still actor schema scan old new place told Follow keeps h = ap is_some place ∙ h
holds_still actor schema scan old new place told (Fetch entry) keeps h = subst (λ (o : Option Pair). IsAtKey entry o) (sym place) h
holds_still actor schema scan old new place told (Look entry bytes) keeps h = (
  subst (λ (o : Option Pair). IsAtKey entry o) (sym place) h.0,
  λ t. let was = h.1 (told t) in let k = keeps t was.0 was.1 in (k.0, k.1, omega (arith, k.3, was.2)),
)
holds_still actor schema scan old new place told (Walk entry pointer) keeps h = (
  subst (λ (o : Option Pair). IsAtKey entry o) (sym place) h.0,
  λ t. let was = h.1 (told t) in let k = keeps t was.0 was.1 in (k.0, k.1, omega (arith, k.3, was.2)),
)
holds_still actor schema scan old new place told (Keep entry row) keeps h = subst (λ (o : Option Pair). IsAtKey entry o) (sym place) h
holds_still actor schema scan old new place told other keeps h = tt

pub searching_still : (actor : ℕ) (schema : Schema) (old new : WorldState) (search : RowSearch) → IsSearching actor schema old search
    → slice_get new.schemas search.scan.table ≡ Some schema → place_in actor search.scan new ≡ place_in actor search.scan old
    → (IsTrue new.versions.told → IsTrue old.versions.told)
    → (IsTrue new.versions.told → KeepsWay schema search.scan.sight old.versions.kept_at new.versions.kept_at search.phase)
    → IsSearching actor schema new search
searching_still actor schema old new search is there place told keeps =
    record { there = there; key = is.key; few = is.few; phase = holds_still actor schema search.scan old new place told search.phase keeps is.phase }

-- ---- keys of rows that are seen

pub in_clustered : (table : ℕ) (schema : Schema) (kept : ℕ → Option Kept) (pairs : List Pair) (versions_at : Value → List Version) (sight : Sight)
    → IsClustered table schema kept pairs versions_at → HaveKeys schema 0 pairs (rows_seen sight versions_at)
in_clustered table schema kept pairs versions_at sight is value row seen =
    let h = home table schema kept pairs versions_at (sees_by sight) value row is seen in
    let kind : kind_at schema.columns schema.primary ≡ is.primary.kind = ap kind_if is.primary_is in
    let key : index_key schema 0 row ≡ key_code is.primary.kind value = key_is_value schema value row h ∙ ap (λ (k : Kind). key_code k value) kind in
    let has : HasKey is.primary.kind value = subst (λ (k : Kind). HasKey k value) kind h.has_key in
    ap (λ k. is_some (value_of k pairs)) key ∙ there (value_of (key_code is.primary.kind value) pairs) (is.records value has) where
      kept_here : ℕ → Option Kept
      kept_here = kept_of kept table (key_code is.primary.kind value)

      there : (o : Option (List ℕ)) → IsRecordWith schema (key_code is.primary.kind value) kept_here o (versions_at value) → is_some o ≡ true
      there None held =
          let empty : first_seen (sees_by sight) (versions_at value) ≡ None =
          ap (first_seen (sees_by sight)) (no_record schema (key_code is.primary.kind value) kept_here (versions_at value) held) in
          cc
      there (Some bytes) held = refl

pub bits_in : (row : List Value) (at : ℕ) → All Has64Bits row → Has64Bits (value_in at row)
bits_in [] at all = tt
bits_in (value ∷ row) zero all = All-head Has64Bits value row all
bits_in (value ∷ row) (suc at) all = bits_in row at (All-tail Has64Bits value row all)

pub in_keyed : (table : ℕ) (schema : Schema) (kept : ℕ → Option Kept) (pairs entries : List Pair) (versions_at said : Value → List Version)
    (sight : Sight) (at : ℕ) (key : Key) → IsClustered table schema kept pairs versions_at → slice_get schema.keys at ≡ Some key
    → HasEntries schema key.column entries said
    → ((value : Value) (row : List Value) → rows_seen sight versions_at value ≡ Some row → list_any
    (λ told. has_value key.column (value_in key.column row) told.row) (said value) ≡ true) → HaveKeys schema (1 + at) entries (rows_seen sight versions_at)
in_keyed table schema kept pairs entries versions_at said sight at key is there e says value row seen =
    let h = home table schema kept pairs versions_at (sees_by sight) value row is seen in
    let kind : kind_at schema.columns schema.primary ≡ e.primary.kind = ap kind_if e.primary_is in
    let has : HasKey e.primary.kind value = subst (λ (k : Kind). HasKey k value) kind h.has_key in
    let has_entry : HasEntry e.indexed.kind (value_in key.column row) =
    (fits_in schema.columns row key.column e.indexed h.at.fits e.indexed_is, bits_in row key.column h.at.bits) in
    let code : index_key schema (1 + at) row ≡ entry_code e.indexed.kind (value_in key.column row) (key_code e.primary.kind value)
    =
    (let one : 1 + at ≡ suc at = omega arith in ap (λ n. index_key schema n row) one)
    ∙ (keyed_is schema at row key e.indexed there e.indexed_is
    ∙ ap (entry_code e.indexed.kind (value_in key.column row)) (key_is_value schema value row h ∙ ap (λ (k : Kind). key_code k value) kind)) in
    ap (λ k. is_some (value_of k entries)) code
    ∙ (let some : is_some (entry_of key.column (value_in key.column row) (said value)) ≡ true = rw (says value row seen) refl in
    ap is_some (holds_said (e.marks value (value_in key.column row) has has_entry) some) ∙ some)

pub seen_among : (column : ℕ) (sight : Sight) (versions : List Version) (row : List Value) → first_seen (sees_by sight) versions ≡ Some row
    → list_any (λ told. has_value column (value_in column row) told.row) versions ≡ true
seen_among column sight [] row is = cc
seen_among column sight (version ∷ versions) row is =
    let has = λ (told : Version). has_value column (value_in column row) told.row in
    cond_both (sees_by sight version.writer) version.row (first_seen (sees_by sight) versions)
    (λ (o : Option (List Value)). o ≡ Some row → list_any has (version ∷ versions) ≡ true)
    (λ own e. or_left (has version) (list_any has versions) (ap (has_value column (value_in column row)) e ∙ value_itself (value_in column row)))
    (λ own e. or_right (has version) (list_any has versions) (seen_among column sight versions row e)) is

pub newest_seen : (versions : List Version) → first_seen (λ id. true) versions ≡ newest versions
newest_seen [] = refl
newest_seen (version ∷ versions) = refl
