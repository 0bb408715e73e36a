-- Rows that fit their table's columns.
use Rattle.std.specs.Prelude.{◌≡◌, ◌≤◌, ℕ, false, List, [], ◌∷◌, length, Some, slice_get}
use Rattle.inno_types.specs.declared.value.Value.{Value}
use Rattle.inno_types.specs.declared.value.Value.TheVariants.{Null, Int, Text}
use Rattle.inno_types.specs.declared.value.Kind.{Kind}
use Rattle.inno_types.specs.declared.value.Kind.TheVariants.{BigInt, VarBinary}
use Rattle.inno_types.specs.declared.value.Column.{Column}
use Rattle.inno_types.specs.declared.value.Schema.{Schema}
use Rattle.inno_db.specs.declared.change.Change.{Change}
use Rattle.inno_db.specs.declared.change.Change.TheVariants.{Create, Put, Remove}

abbrev pub IsTextOf : Kind → List ℕ → Type 0
IsTextOf BigInt text = ⊥
IsTextOf (VarBinary size) text = length text ≤ size

-- NULL where the column may be NULL, a number in a BIGINT, a text that is not too long in a VARBINARY
abbrev pub IsValueOf : Column → Value → Type 0
IsValueOf column Null = column.not_null ≡ false
IsValueOf column (Int n) = column.kind ≡ BigInt
IsValueOf column (Text text) = IsTextOf column.kind text

-- one such value for each column
abbrev pub IsRowOf : List Column → List Value → Type 0
IsRowOf [] [] = Unit {0}
IsRowOf [] (value ∷ row) = ⊥
IsRowOf (column ∷ columns) [] = ⊥
IsRowOf (column ∷ columns) (value ∷ row) = IsValueOf column value × IsRowOf columns row

abbrev pub AreRowsOf : List Column → List (List Value) → Type 0
AreRowsOf columns [] = Unit {0}
AreRowsOf columns (row ∷ rows) = IsRowOf columns row × AreRowsOf columns rows

abbrev pub IsRowIn : List Schema → ℕ → List Value → Type 0
IsRowIn schemas table row = (schema : Schema) → slice_get schemas table ≡ Some schema → IsRowOf schema.columns row

-- each row that is put fits the columns of its table
abbrev pub AllFit : List Schema → List Change → Type 0
AllFit schemas [] = Unit {0}
AllFit schemas (Create schema ∷ changes) = AllFit schemas changes
AllFit schemas (Put table row ∷ changes) = IsRowIn schemas table row × AllFit schemas changes
AllFit schemas (Remove table key ∷ changes) = AllFit schemas changes
