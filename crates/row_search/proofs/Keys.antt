-- Keys of rows in the indexes of their table.
use Rattle.std.proofs.Common.{◌≡◌, ◌∙◌, sym, ap, subst, ⊎_elim, ℕ, zero, suc, ◌+◌, ◌-◌, ◌==◌, ◌≤◌, Bool, false, List, [], ◌∷◌, ◌++◌, length, slice_get, refl}
use Rattle.std.proofs.Common.{Option, None, Some, arith, length-append}
use Rattle.std.specs.{Prelude.IfSome, List.AllByRecursion}
use Rattle.std.proofs.{lemmas.Bool.cond_both, lemmas.Bool.Decides.nat_tests, lemmas.List.drop_at, lemmas.List.Elements.recursion_from_All}
use Rattle.std.proofs.lemmas.Option.{slice_get_cases}
use Rattle.inno_types.specs.{declared.value.Value.Value, declared.value.Column.Column, declared.value.Key.Key, declared.value.Kind.Kind}
use Rattle.inno_types.specs.{declared.value.Schema.Schema}
use Rattle.key_codec.specs.Keys.{HasKey, IsOfKindOrNull, key_code, key_width, entry_front, entry_code}
use Rattle.row_codec.specs.Rows.{IsRowOf}
use Rattle.key_codec.proofs.Lengths.{length-key_code}
use Rattle.entries.specs.Pairs.{Pair}
use Rattle.row_versions.specs.{declared.kept.Kept.Kept, declared.version.Version.Version, Chains.first_seen}
use Rattle.law_stored_rows.specs.{Entries.value_in, Records.IsClustered, Records.IsRowAt, Records.IsSomeKey}
use Rattle.law_stored_rows.proofs.{Values.one_key, Found.rows_at_home, Coding.value_in-kind}
use Rattle.sql_plan.specs.Visits.{kind_if, kind_at, primary_key, index_key}
use Rattle.row_search.specs.Ranges.{primary_part}

-- ---- rows that are seen stand at their places

first_passes : (seen : ℕ → Bool) (P : List Value → Type 0) (versions : List Version) → AllByRecursion (λ version. IfSome version.row P) versions
    → IfSome (first_seen seen versions) P
first_passes seen P [] all = tt
first_passes seen P (version ∷ versions) all =
    cond_both (seen version.writer) version.row (first_seen seen versions) (λ (o : Option (List Value)). IfSome o P) (λ is. all.0)
    (λ is. first_passes seen P versions all.1)

-- The row is one of the table, at this value of its primary key.
pub record IsHome (schema : Schema) (value : Value) (row : List Value) : Type 0 where
  pub has_key : HasKey (kind_at schema.columns schema.primary) value
  pub at : IsRowAt schema value row

pub home : (table : ℕ) (schema : Schema) (kept : ℕ → Option Kept) (pairs : List Pair) (versions_at : Value → List Version) (seen : ℕ → Bool)
    (value : Value) (row : List Value)
    → IsClustered table schema kept pairs versions_at → first_seen seen (versions_at value) ≡ Some row → IsHome schema value row
home table schema kept pairs versions_at seen value row is some =
    let rows =
    recursion_from_All (λ (version : Version). IfSome version.row (IsRowAt schema value)) (versions_at value)
    (rows_at_home table schema kept pairs versions_at is value) in
    let has : HasKey is.primary.kind value =
    is.nowhere_else value (λ empty. let none : first_seen seen (versions_at value) ≡ None = ap (first_seen seen) empty in cc) in
    record {
      has_key = subst (λ (k : Kind). HasKey k value) (sym (ap kind_if is.primary_is)) has;
      at = subst (λ (o : Option (List Value)). IfSome o (IsRowAt schema value)) some (first_passes seen (IsRowAt schema value) (versions_at value) rows);
    }

pub key_is_value : (schema : Schema) (value : Value) (row : List Value) → IsHome schema value row
    → primary_key schema row ≡ key_code (kind_at schema.columns schema.primary) value
key_is_value schema value row h = ap (key_code (kind_at schema.columns schema.primary)) h.at.key_is

-- ---- the end of a key is the primary key

end_of : (schema : Schema) (front key : List ℕ) → length key ≡ key_width (kind_at schema.columns schema.primary) → primary_part schema (front ++ key) ≡ key
end_of schema front key width =
    drop_at front key (length (front ++ key) - key_width (kind_at schema.columns schema.primary))
    (let both : length (front ++ key) ≡ length front + length key = length-append front key in omega arith)

-- a key of the clustered index is a primary key
pub whole_key : (schema : Schema) (primary : Column) (key : List ℕ) → slice_get schema.columns schema.primary ≡ Some primary → IsSomeKey primary.kind key
    → primary_part schema key ≡ key
whole_key schema primary key is some =
    end_of schema [] key (ap length some.2 ∙ (length-key_code primary.kind some.0 some.1.0 ∙ ap key_width (sym (ap kind_if is))))

pub key_there_at : (schema : Schema) (at : ℕ) → suc at ≤ length schema.keys → (key : Key) × (slice_get schema.keys at ≡ Some key)
key_there_at schema at le =
    ⊎_elim (λ some. (some.0, some.2)) (λ none. absurd (omega (arith, none.0))) (slice_get_cases schema.keys at).1

-- the key of a row in the index of its table's key at this place
entry_is : (schema : Schema) (at : ℕ) (row : List Value) (key : Key) → slice_get schema.keys at ≡ Some key
    → index_key schema (suc at) row ≡ entry_code (kind_at schema.columns key.column) (value_in key.column row) (primary_key schema row)
entry_is schema at row key some =
    let less : suc at - 1 ≡ at = omega arith in
    let apart : (suc at == 0) ≡ false = grind (arith, nat_tests) in
    rw (apart, less, some)

pub keyed_is : (schema : Schema) (at : ℕ) (row : List Value) (key : Key) (indexed : Column) → slice_get schema.keys at ≡ Some key
    → slice_get schema.columns key.column ≡ Some indexed
    → index_key schema (suc at) row ≡ entry_code indexed.kind (value_in key.column row) (primary_key schema row)
keyed_is schema at row key indexed some column =
    entry_is schema at row key some ∙ ap (λ (k : Kind). entry_code k (value_in key.column row) (primary_key schema row)) (ap kind_if column)

-- it is something, and then the row's primary key
ends_in_primary : (schema : Schema) (which : ℕ) (row : List Value) → which ≤ length schema.keys
    → (front : List ℕ) × (index_key schema which row ≡ front ++ primary_key schema row)
ends_in_primary schema zero row le = ([], refl)
ends_in_primary schema (suc n) row le =
    let key = key_there_at schema n le in
    (entry_front (kind_at schema.columns key.0.column) (value_in key.0.column row), entry_is schema n row key.0 key.1)

pub part_is : (schema : Schema) (which : ℕ) (value : Value) (row : List Value) → which ≤ length schema.keys → IsHome schema value row
    → primary_part schema (index_key schema which row) ≡ key_code (kind_at schema.columns schema.primary) value
part_is schema which value row le h =
    let ends = ends_in_primary schema which row le in
    let is_value = key_is_value schema value row h in
    ap (primary_part schema) ends.1
    ∙ (end_of schema ends.0 (primary_key schema row)
    (ap length is_value ∙ length-key_code (kind_at schema.columns schema.primary) value h.has_key.0) ∙ is_value)

-- two rows with one key in an index stand at one place
pub one_place : (schema : Schema) (which : ℕ) (value other : Value) (row also : List Value) → which ≤ length schema.keys → IsHome schema value row
    → IsHome schema other also → index_key schema which row ≡ index_key schema which also → value ≡ other
one_place schema which value other row also le h k same =
    one_key (kind_at schema.columns schema.primary) value other h.has_key k.has_key
    (sym (part_is schema which value row le h) ∙ (ap (primary_part schema) same ∙ part_is schema which other also le k))

-- ---- values in columns

pub fits_in : (columns : List Column) (row : List Value) (at : ℕ) (column : Column) → IsRowOf columns row → slice_get columns at ≡ Some column
    → IsOfKindOrNull column.kind (value_in at row)
fits_in = value_in-kind
