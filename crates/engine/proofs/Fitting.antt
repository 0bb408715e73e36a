-- A row is one of its columns where the values so far fit, and the rest is one of the columns that are left.
use Rattle.std.proofs.Common.{◌≡◌, ℕ, ◌+◌, ◌<◌, List, [], ◌∷◌, length, drop, get_or, sym, refl, ◌∙◌, ap, subst, arith}
use Rattle.std.proofs.lemmas.List.{drop_more}
use Rattle.inno_types.specs.declared.value.Value.{Value}
use Rattle.inno_types.specs.declared.value.Column.{Column}
use Rattle.row_codec.specs.Rows.{FitsColumn, IsRowOf}

-- as many values as columns
pub as_many : (columns : List Column) (row : List Value) → IsRowOf columns row → length columns ≡ length row
as_many [] [] is = refl
as_many [] (value ∷ row) is = absurd is
as_many (column ∷ columns) [] is = absurd is
as_many (column ∷ columns) (value ∷ row) is = omega (arith, as_many columns row is.1)

module _ (columns : List Column) (row : List Value) (place : ℕ) (column : Column) (value : Value)
    (many : length columns ≡ length row) (below : place < length row)
    (column_is : column ≡ get_or columns place column) (value_is : value ≡ get_or row place value) where
  here : drop place columns ≡ column ∷ drop (place + 1) columns
  here = drop_more columns place column (omega arith) ∙ ap (λ (c : Column). c ∷ drop (place + 1) columns) (sym column_is)

  there : drop place row ≡ value ∷ drop (place + 1) row
  there = drop_more row place value below ∙ ap (λ (v : Value). v ∷ drop (place + 1) row) (sym value_is)

  -- what is left begins with this value
  pub begins : IsRowOf (drop place columns) (drop place row) → FitsColumn column value × IsRowOf (drop (place + 1) columns) (drop (place + 1) row)
  begins left = subst (λ (cs : List Column). IsRowOf cs (value ∷ drop (place + 1) row)) here (subst (IsRowOf (drop place columns)) there left)

  pub goes_on : FitsColumn column value → IsRowOf (drop (place + 1) columns) (drop (place + 1) row) → IsRowOf (drop place columns) (drop place row)
  goes_on fits left =
      subst (IsRowOf (drop place columns)) (sym there) (subst (λ (cs : List Column). IsRowOf cs (value ∷ drop (place + 1) row)) (sym here) (fits, left))
