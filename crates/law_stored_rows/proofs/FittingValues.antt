-- The values of a row that fits its columns, and its key.
use Rattle.std.proofs.Common.{◌≡◌, ◌∙◌, ℕ, zero, suc, true, false, List, [], ◌∷◌, Some, sym, subst}
use Rattle.std.specs.Prelude.{slice_get, slice_index_or, All}
use Rattle.std.proofs.lemmas.List.Elements.{All-head, All-tail}
use Rattle.inno_types.specs.{declared.value.Value.Value, declared.value.Value.TheVariants.Null, declared.value.Value.TheVariants.Int}
use Rattle.inno_types.specs.{declared.value.Value.TheVariants.Text, declared.value.Kind.Kind, declared.value.Kind.TheVariants.BigInt}
use Rattle.inno_types.specs.{declared.value.Kind.TheVariants.VarBinary, declared.value.Column.Column, declared.value.Schema.Schema}
use Rattle.inno_db.specs.Database.{key_of}
use Rattle.key_codec.specs.Keys.{IsOfKind, IsOfKindOrNull}
use Rattle.row_codec.specs.Rows.{FitsColumn, IsRowOf}
use Rattle.law_db.specs.Fitting.{IsTextOf, IsValueOf, IsRowOf as IsRowByType}
use Rattle.law_stored_rows.specs.{Storable.IsStorable, Fitting.FitsTable, FittingRecords.value_in}

-- ---- what a column takes, said in two ways

big_int : (kind : Kind) (n : _) → IsOfKind kind (Int n) → kind ≡ BigInt
big_int BigInt n is = cc
big_int (VarBinary size) n is = absurd is

same_text : (kind : Kind) (text : List ℕ) → (IsTextOf kind text → IsOfKind kind (Text text)) × (IsOfKind kind (Text text) → IsTextOf kind text)
same_text BigInt text = (λ is. is, λ is. is)
same_text (VarBinary size) text = (λ is. is, λ is. is)

value_fits : (column : Column) (value : Value) → IsValueOf column value → FitsColumn column value
value_fits column Null is = is
value_fits column (Int n) is = rw is tt
value_fits column (Text text) is = (same_text column.kind text).0 is

fits_value : (column : Column) (value : Value) → FitsColumn column value → IsValueOf column value
fits_value column Null is = is
fits_value column (Int n) is = big_int column.kind n is
fits_value column (Text text) is = (same_text column.kind text).1 is

pub row_fits : (columns : List Column) (row : List Value) → IsRowByType columns row → IsRowOf columns row
row_fits (column ∷ columns) (value ∷ row) is = (value_fits column value is.0, row_fits columns row is.1)
row_fits [] [] is = tt
row_fits columns row is = absurd is

pub fits_row : (columns : List Column) (row : List Value) → IsRowOf columns row → IsRowByType columns row
fits_row (column ∷ columns) (value ∷ row) is = (fits_value column value is.0, fits_row columns row is.1)
fits_row [] [] is = tt
fits_row columns row is = absurd is

-- ---- one value of a row

-- what holds of all items, and of the one that stands in where there is none
pub at_or : {A : Type 0} (P : A → Type 0) (other : A) (xs : List A) (place : ℕ) → P other → All P xs → P (slice_index_or xs place other)
at_or P other [] place holds all = holds
at_or P other (x ∷ xs) zero holds all = All-head P x xs all
at_or P other (x ∷ xs) (suc place) holds all = at_or P other xs place holds (All-tail P x xs all)

pub value-fits : (columns : List Column) (row : List Value) (place : ℕ) (column : Column) → IsRowOf columns row
    → slice_get columns place ≡ Some column → FitsColumn column (value_in place row)
value-fits [] row place column fits there = cc
value-fits (c ∷ columns) [] place column fits there = absurd fits
value-fits (c ∷ columns) (value ∷ row) zero column fits there = let same : c ≡ column = cc in subst (λ (k : Column). FitsColumn k value) same fits.0
value-fits (c ∷ columns) (value ∷ row) (suc place) column fits there = value-fits columns row place column fits.1 there

pub of_kind_or_null : (column : Column) (value : Value) → FitsColumn column value → IsOfKindOrNull column.kind value
of_kind_or_null column Null fits = tt
of_kind_or_null column value fits = fits

of_kind : (column : Column) (value : Value) → column.not_null ≡ true → FitsColumn column value → IsOfKind column.kind value
of_kind column Null barred fits = let both : true ≡ false = sym barred ∙ fits in cc
of_kind column value barred fits = fits

-- ---- its key

-- a row of a table that can be stored has a key
pub FitsTable-from_row : (schema : Schema) (row : List Value) → IsStorable schema → IsRowOf schema.columns row → FitsTable schema row
FitsTable-from_row schema row storable fits = record {
  columns = fits;
  key = record {
    column = storable.column;
    primary = storable.primary;
    of_kind = of_kind storable.column (key_of schema row) storable.not_null
        (value-fits schema.columns row schema.primary storable.column fits storable.primary);
  };
}
