-- A table's list of rows, in the order of their keys, with a row put at its key or removed.
use Rattle.std.specs.Prelude.{◌≡◌, ◌<◌, not, List, [], ◌∷◌, ℕ, length, filter, slice_set, slice_index_or}
use Rattle.std.specs.FinMap.Entries.{by_order}
use Rattle.std.specs.Ordering.{is_eq}
use Rattle.std.specs.List.{AllByRecursion}
use Rattle.std.specs.declared.cmp.Ordering.TheVariants.{Less}
use Rattle.inno_types.specs.declared.value.Value.{Value}
use Rattle.inno_types.specs.declared.value.Schema.{Schema}
use Rattle.inno_db.specs.declared.change.Change.{Change}
use Rattle.inno_db.specs.declared.change.Change.TheVariants.{Create, Put, Remove}
use Rattle.inno_db.specs.declared.limits.TheConstants.{MOST_TABLES}
use Rattle.inno_db.specs.Database.{Database, value_cmp, key_of}

-- each row's key is below those of the rows after it
abbrev pub AreRising : Schema → List (List Value) → Type 0
AreRising schema [] = Unit {0}
AreRising schema (row ∷ rows) = AllByRecursion (λ after. value_cmp (key_of schema row) (key_of schema after) ≡ Less) rows × AreRising schema rows

-- a row stands before those of greater keys, and in place of one of the same key
abbrev pub with_row : Schema → List Value → List (List Value) → List (List Value)
with_row schema row [] = row ∷ []
with_row schema row (r ∷ rows) = by_order (value_cmp (key_of schema row) (key_of schema r)) (row ∷ r ∷ rows) (row ∷ rows) (r ∷ with_row schema row rows)

abbrev pub without_key : Schema → Value → List (List Value) → List (List Value)
without_key schema key rows = filter (λ row. not (is_eq (value_cmp key (key_of schema row)))) rows

-- the tables with a row put into one of them
abbrev pub tables_with : Schema → ℕ → List Value → List (List (List Value)) → List (List (List Value))
tables_with schema table row tables = slice_set tables table (with_row schema row (slice_index_or tables table []))

abbrev pub tables_without : Schema → ℕ → Value → List (List (List Value)) → List (List (List Value))
tables_without schema table key tables = slice_set tables table (without_key schema key (slice_index_or tables table []))

-- a change that a database has room for, and the table of: there are few tables
abbrev pub CanApply : Database → Change → Type 0
CanApply db (Create schema) = length db.schemas < MOST_TABLES
CanApply db (Put table row) = table < length db.schemas
CanApply db (Remove table key) = table < length db.schemas
