-- Columns and tables by their names.
use Rattle.std.specs.Prelude.{ℕ, List, Option, Some, None, position, bytes_eq, slice_get, slice_index_or}
use Rattle.std.specs.Str.{str_eq_ignore_ascii_case}
use Rattle.inno_types.specs.declared.value.Value.{Value}
use Rattle.inno_types.specs.declared.value.Value.TheVariants.{Null}
use Rattle.inno_types.specs.declared.value.Column.{Column}
use Rattle.inno_types.specs.declared.value.Schema.{Schema}

-- the place of a column of this name, in any case of ASCII letters
abbrev pub column_place : List Column → List ℕ → Option ℕ
column_place columns name = position (λ c. str_eq_ignore_ascii_case c.name name) columns

-- the place of a column's name in a list of names
abbrev pub name_place : List (List ℕ) → List ℕ → Option ℕ
name_place names name = position (λ n. str_eq_ignore_ascii_case n name) names

-- the number of the table of this name, byte for byte
abbrev pub table_place : List Schema → List ℕ → Option ℕ
table_place schemas name = position (λ s. bytes_eq s.name name) schemas

abbrev pub column_at : List Column → Option ℕ → Option Column
column_at columns None = None
column_at columns (Some place) = slice_get columns place

-- the value of a row at a place, or NULL where there is no such place
abbrev pub value_at : List Value → Option ℕ → Value
value_at row None = Null
value_at row (Some place) = slice_index_or row place Null

-- the value of a row in the column of this name
abbrev pub column_value : List Column → List Value → List ℕ → Value
column_value columns row name = value_at row (column_place columns name)
