-- A part that is true of a row admits the row's value in the column that it bounds.
use Rattle.std.proofs.Common.{◌≡◌, ℕ, Bool, true, false, List, [], ◌∷◌, Option, Some, None, refl, sym, ap, ◌∙◌, subst, ◌⊎◌, inl, inr}
use Rattle.std.specs.Prelude.{◌&&◌, ◌||◌, slice_get, slice_index_or}
use Rattle.std.specs.List.{list_all}
use Rattle.std.specs.declared.cmp.Ordering.{Ordering}
use Rattle.std.specs.declared.cmp.Ordering.TheVariants.{Less, Equal, Greater}
use Rattle.std.specs.Ordering.{is_lt, is_le, is_gt, is_ge}
use Rattle.inno_db.specs.Database.{value_cmp}
use Rattle.std.proofs.lemmas.Option.{same_Some}
use Rattle.inno_types.specs.declared.value.Value.{Value}
use Rattle.inno_types.specs.declared.value.Value.TheVariants as value
use Rattle.inno_types.specs.declared.value.Column.{Column}
use Rattle.inno_types.specs.declared.stmt.Comparison.{Comparison}
use Rattle.inno_types.specs.declared.stmt.Comparison.TheVariants as is
use Rattle.inno_types.specs.declared.stmt.Literal.{Literal}
use Rattle.inno_types.specs.declared.stmt.Operand.{Operand}
use Rattle.inno_types.specs.declared.stmt.Operand.TheVariants as operand
use Rattle.inno_types.specs.declared.stmt.Filter.{Filter}
use Rattle.inno_types.specs.declared.stmt.Filter.TheVariants.{Compare, Between, In, IsNull, Not', And', Or'}
use Rattle.inno_db.specs.declared.data_type.DataType.{DataType}
use Rattle.inno_db.specs.declared.data_type.DataType.TheVariants.{Number, Text}
use Rattle.inno_db.specs.declared.truth.Truth.{Truth}
use Rattle.inno_db.specs.declared.truth.Truth.TheVariants.{True, False, Unknown}
use Rattle.inno_db.specs.Names.{column_place, value_at, column_value, column_at}
use Rattle.inno_db.specs.Conditions.{compared, literal_value, truth_of, and_of, is_in}
use Rattle.inno_db.specs.Typing.{type_of, type_if, column_type, is_same_type, is_of_type, literal_fits, all_fit, sides_fit, filter_fits}
use Rattle.sql_plan.specs.declared.interval.Limit.TheVariants.{With}
use Rattle.sql_plan.specs.declared.interval.Interval.{Interval}
use Rattle.sql_plan.specs.declared.part.Bounding.{Bounding}
use Rattle.sql_plan.specs.Intervals.{compared_with, turned, values_among, values_between, greatest, from_to}
use Rattle.sql_plan.specs.Parts.{at_place, on_column, range_of_comparison, range_of_part}
use Rattle.sql_plan.proofs.Order.{less_precedes, greater_precedes}
use Rattle.sql_plan.proofs.Admitted.{Admits, and_both, both_and, IsMet, is_met, met_turned, compared_admits, between_admits, typed_literal, has_type}
use Rattle.sql_plan.proofs.Extremes.{reached, among_present}

-- the part's column is there, and the part admits what the row has in it
pub record Allows (columns : List Column) (row : List Value) (part : Bounding Value) : Type 0 where
  pub column : Column
  pub there : slice_get columns part.place ≡ Some column
  pub admits : Admits (type_of column.kind) part.values (slice_index_or row part.place value.Null)

-- at which place a range is said of a name
said_at : (o : Option ℕ) (values : Interval Value) (part : Bounding Value) → at_place o values ≡ Some part → (o ≡ Some part.place) × (values ≡ part.values)
said_at None values part e = absurd cc
said_at (Some place) values part e =
    let same = same_Some (record { place = place; values = values }) part e in
    (ap (λ (b : Bounding Value). Some b.place) same, ap (λ (b : Bounding Value). b.values) same)

record IsThere (o : Option Column) (type : DataType) : Type 0 where
  pub column : Column
  pub is : o ≡ Some column
  pub typed : type_of column.kind ≡ type

same_type : (a b : DataType) → is_same_type a b ≡ true → a ≡ b
same_type Number Number e = refl
same_type Number Text e = absurd cc
same_type Text Number e = absurd cc
same_type Text Text e = refl

there : (o : Option Column) (type : DataType) → is_of_type type (type_if o) ≡ true → IsThere o type
there None type e = absurd cc
there (Some column) type e = record { column = column; is = refl; typed = same_type (type_of column.kind) type e }

-- the column of a name stands at its place, with its type and its value
allows_at : (columns : List Column) (row : List Value) (name : List ℕ) (type : DataType) (part : Bounding Value)
    → column_place columns name ≡ Some part.place → is_of_type type (column_type columns name) ≡ true → Admits type part.values (column_value columns row name)
    → Allows columns row part
allows_at columns row name type part placed typed admits =
    let found = there (slice_get columns part.place) type (ap (λ (o : Option ℕ). is_of_type type (type_if (column_at columns o))) (sym placed) ∙ typed) in
    let at_type = subst (λ (t : DataType). Admits t part.values (column_value columns row name)) (sym found.typed) admits in
    record {
      column = found.column;
      there = found.is;
      admits = subst (λ (v : Value). Admits (type_of found.column.kind) part.values v) (ap (value_at row) placed) at_type;
    }

either_side : (a b c d : Bool) → ((a && b) || (c && d)) ≡ true → ((a ≡ true) × (b ≡ true)) ⊎ ((c ≡ true) × (d ≡ true))
either_side true true c d e = inl (refl, refl)
either_side true false true true e = inr (refl, refl)
either_side true false true false e = absurd cc
either_side true false false d e = absurd cc
either_side false b true true e = inr (refl, refl)
either_side false b true false e = absurd cc
either_side false b false d e = absurd cc

-- a column compared with a literal of its type
column_allows : (columns : List Column) (row : List Value) (name : List ℕ) (comparison : Comparison) (l : Literal) (type : DataType) (part : Bounding Value)
    → IsMet comparison (column_value columns row name) (literal_value l) → is_of_type type (column_type columns name) ≡ true → literal_fits type l ≡ true
    → on_column columns name (compared_with comparison (literal_value l)) ≡ Some part → Allows columns row part
column_allows columns row name comparison l type part met typed fits e = by (compared_with comparison (literal_value l)) refl e
  where
    by : (o : Option (Interval Value)) → compared_with comparison (literal_value l) ≡ o → on_column columns name o ≡ Some part → Allows columns row part
    by None is_none said = absurd cc
    by (Some values) is_some said =
        let where_said = said_at (column_place columns name) values part said in
        let admits = compared_admits type comparison (column_value columns row name) (literal_value l) values met (typed_literal type l fits met.right) is_some in
        allows_at columns row name type part where_said.0 typed (subst (λ (i : Interval Value). Admits type i (column_value columns row name)) where_said.1 admits)

comparison_allows : (columns : List Column) (row : List Value) (left : Operand) (comparison : Comparison) (right : Operand) (part : Bounding Value)
    → truth_of columns row (Compare left comparison right) ≡ True → sides_fit columns left right ≡ true → range_of_comparison columns left comparison right ≡ Some part
    → Allows columns row part
comparison_allows columns row (operand.Literal l) comparison (operand.Literal m) part holds fits e = absurd cc
comparison_allows columns row (operand.Column name) comparison (operand.Column other) part holds fits e = absurd cc
comparison_allows columns row (operand.Column name) comparison (operand.Literal l) part holds fits e =
    let met = is_met comparison (column_value columns row name) (literal_value l) holds in
    elim (either_side (is_of_type Number (column_type columns name)) (literal_fits Number l) (is_of_type Text (column_type columns name)) (literal_fits Text l) fits) [
      | inl numbers ↦ column_allows columns row name comparison l Number part met numbers.0 numbers.1 e
      | inr texts ↦ column_allows columns row name comparison l Text part met texts.0 texts.1 e
    ]
comparison_allows columns row (operand.Literal l) comparison (operand.Column name) part holds fits e =
    let met = met_turned comparison (literal_value l) (column_value columns row name) (is_met comparison (literal_value l) (column_value columns row name) holds) in
    elim (either_side (literal_fits Number l) (is_of_type Number (column_type columns name)) (literal_fits Text l) (is_of_type Text (column_type columns name)) fits) [
      | inl numbers ↦ column_allows columns row name (turned comparison) l Number part met numbers.1 numbers.0 e
      | inr texts ↦ column_allows columns row name (turned comparison) l Text part met texts.1 texts.0 e
    ]

record HaveType (columns : List Column) (name : List ℕ) (literals : List Literal) : Type 0 where
  pub type : DataType
  pub column : is_of_type type (column_type columns name) ≡ true
  pub fit : list_all (literal_fits type) literals ≡ true

self_type : (type : DataType) → is_same_type type type ≡ true
self_type Number = refl
self_type Text = refl

have_type : (columns : List Column) (name : List ℕ) (literals : List Literal) → all_fit literals (column_type columns name) ≡ true → HaveType columns name literals
have_type columns name literals e = by (column_type columns name) refl e
  where
    by : (o : Option DataType) → column_type columns name ≡ o → all_fit literals o ≡ true → HaveType columns name literals
    by None is fit = absurd cc
    by (Some type) is fit = record { type = type; column = ap (is_of_type type) is ∙ self_type type; fit = fit }

pub both_true : (a b : Truth) → and_of a b ≡ True → (a ≡ True) × (b ≡ True)
both_true True True e = (refl, refl)
both_true True False e = absurd cc
both_true True Unknown e = absurd cc
both_true False b e = absurd cc
both_true Unknown True e = absurd cc
both_true Unknown False e = absurd cc
both_true Unknown Unknown e = absurd cc

between_allows : (columns : List Column) (row : List Value) (name : List ℕ) (low high : Literal) (part : Bounding Value)
    → truth_of columns row (Between name false low high) ≡ True → all_fit (low ∷ high ∷ []) (column_type columns name) ≡ true
    → range_of_part columns (Between name false low high) ≡ Some part → Allows columns row part
between_allows columns row name low high part holds fits e =
    let v = column_value columns row name in
    let have = have_type columns name (low ∷ high ∷ []) fits in
    let fit = and_both (literal_fits have.type low) (list_all (literal_fits have.type) (high ∷ [])) have.fit in
    let fit_high = and_both (literal_fits have.type high) true fit.1 in
    let sides = both_true (compared is.GreaterOrEqual v (literal_value low)) (compared is.LessOrEqual v (literal_value high)) holds in
    let above = is_met is.GreaterOrEqual v (literal_value low) sides.0 in
    let below = is_met is.LessOrEqual v (literal_value high) sides.1 in
    let admits = between_admits have.type v (literal_value low) (literal_value high) above below (typed_literal have.type low fit.0 above.right) (typed_literal have.type high fit_high.0 below.right) in
    let said = said_at (column_place columns name) _ part e in
    allows_at columns row name have.type part said.0 have.column (subst (λ (i : Interval Value). Admits have.type i v) said.1 admits)

lt_or_ge : (o : Ordering) → is_lt o ≡ false → is_ge o ≡ true
lt_or_ge Less e = absurd cc
lt_or_ge Equal e = refl
lt_or_ge Greater e = refl

gt_or_le : (o : Ordering) → is_gt o ≡ false → is_le o ≡ true
gt_or_le Less e = refl
gt_or_le Equal e = refl
gt_or_le Greater e = absurd cc

-- the interval from the least of some literals to the greatest admits what equals one of them
among_admits : (type : DataType) (v : Value) (literals : List Literal) → list_all (literal_fits type) literals ≡ true → is_in v literals ≡ True → Admits type (values_among literals) v
among_admits type v literals fit holds =
    let low = reached less_precedes type v None literals tt fit holds in
    let high = reached greater_precedes type v None literals tt fit holds in
    let is_between : values_among literals ≡ values_between (With low.first) (With high.first) = ap (λ (o : Option Value). from_to o (greatest literals)) low.is ∙ ap (from_to (Some low.first)) high.is in
    subst (λ (i : Interval Value). Admits type i v) (sym is_between) (record {
      present = among_present v literals holds;
      some = refl;
      low = both_and (has_type type low.first) (is_ge (value_cmp v low.first)) low.typed (lt_or_ge (value_cmp v low.first) low.not_before);
      high = both_and (has_type type high.first) (is_le (value_cmp v high.first)) high.typed (gt_or_le (value_cmp v high.first) high.not_before);
    })

in_allows : (columns : List Column) (row : List Value) (name : List ℕ) (literals : List Literal) (part : Bounding Value)
    → truth_of columns row (In name false literals) ≡ True → all_fit literals (column_type columns name) ≡ true
    → range_of_part columns (In name false literals) ≡ Some part → Allows columns row part
in_allows columns row name literals part holds fits e =
    let v = column_value columns row name in
    let have = have_type columns name literals fits in
    let said = said_at (column_place columns name) _ part e in
    allows_at columns row name have.type part said.0 have.column (subst (λ (i : Interval Value). Admits have.type i v) said.1 (among_admits have.type v literals have.fit holds))

pub part_allows : (columns : List Column) (row : List Value) (filter : Filter) (part : Bounding Value)
    → truth_of columns row filter ≡ True → filter_fits columns filter ≡ true → range_of_part columns filter ≡ Some part → Allows columns row part
part_allows columns row (Compare left comparison right) part holds fits e = comparison_allows columns row left comparison right part holds fits e
part_allows columns row (Between name false low high) part holds fits e = between_allows columns row name low high part holds fits e
part_allows columns row (Between name true low high) part holds fits e = absurd cc
part_allows columns row (In name false literals) part holds fits e = in_allows columns row name literals part holds fits e
part_allows columns row (In name true literals) part holds fits e = absurd cc
part_allows columns row (IsNull name negated) part holds fits e = absurd cc
part_allows columns row (Not' p filter) part holds fits e = absurd cc
part_allows columns row (And' p left q right) part holds fits e = absurd cc
part_allows columns row (Or' p left q right) part holds fits e = absurd cc
