-- Rows that were found among those that a reader sees.
use Rattle.std.specs.Prelude.{◌≡◌, ℕ, Bool, List, [], ◌∷◌, Option, None, Some, if◌then◌else◌, map, filter}
use Rattle.std.specs.List.{AllByRecursion, count_by}
use Rattle.std.specs.declared.cmp.Ordering.TheVariants.{Less}
use Rattle.inno_types.specs.{declared.value.Value.Value, declared.value.Schema.Schema, declared.stmt.Filter.Filter}
use Rattle.inno_db.specs.{Database.key_of, Conditions.matches}
use Rattle.entries.specs.Pairs.{key_cmp}
use Rattle.sql_plan.specs.Visits.{primary_key}
use Rattle.law_stored_rows.specs.Entries.{is_same_value}
use Rattle.row_search.specs.declared.found.FoundRow.{FoundRow}

-- The row is what the reader sees at its own primary value, and stands behind that value's key.
pub record IsSeenRow (schema : Schema) (row_at : Value → Option (List Value)) (found : FoundRow) : Type 0 where
  pub seen : row_at (key_of schema found.row) ≡ Some found.row
  pub key_is : found.key ≡ primary_key schema found.row

-- how many of the rows have this primary value
abbrev pub times_found : Schema → Value → List FoundRow → ℕ
times_found schema value rows = count_by (λ found. is_same_value value (key_of schema found.row)) rows

abbrev pub once_if : (List Value → Bool) → Option (List Value) → ℕ
once_if passes None = 0
once_if passes (Some row) = if passes row then 1 else 0

-- each key is below all keys behind it
abbrev pub RiseByKey : List FoundRow → Type 0
RiseByKey [] = Unit {0}
RiseByKey (found ∷ rows) = AllByRecursion (λ later. key_cmp found.key later.key ≡ Less) rows × RiseByKey rows

-- Of the rows that the reader sees those that pass are found, each once, and nothing else. The clustered index, whose
-- number among its table's is 0, gives them in the order of their keys.
pub record AreFound (schema : Schema) (which : ℕ) (row_at : Value → Option (List Value)) (passes : List Value → Bool) (rows : List FoundRow) : Type 0 where
  pub seen : AllByRecursion (IsSeenRow schema row_at) rows
  pub once : (value : Value) → times_found schema value rows ≡ once_if passes (row_at value)
  pub order : which ≡ 0 → RiseByKey rows

-- the rows among them that meet a condition
abbrev pub matching : Schema → Filter → List FoundRow → List (List Value)
matching schema condition rows = map (λ found. found.row) (filter (λ found. matches schema.columns (Some condition) found.row) rows)
