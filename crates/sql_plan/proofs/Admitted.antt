-- Values that an interval admits, and whose limits are of one type.
use Rattle.std.proofs.Common.{◌≡◌, Bool, true, false, Some, refl, sym, ap, ◌∙◌, subst}
use Rattle.std.specs.Prelude.{not, ◌&&◌, ◌||◌, if◌then◌else◌}
use Rattle.std.proofs.lemmas.Option.{same_Some}
use Rattle.std.specs.declared.cmp.Ordering.{Ordering}
use Rattle.std.specs.declared.cmp.Ordering.TheVariants.{Less, Equal, Greater}
use Rattle.std.specs.Ordering.{ordering_reverse, is_lt, is_le, is_eq, is_gt, is_ge}
use Rattle.inno_types.specs.declared.value.Value.{Value}
use Rattle.inno_types.specs.declared.value.Value.TheVariants as value
use Rattle.inno_types.specs.declared.stmt.Comparison.{Comparison}
use Rattle.inno_types.specs.declared.stmt.Comparison.TheVariants as is
use Rattle.inno_types.specs.declared.stmt.Literal.{Literal}
use Rattle.inno_types.specs.declared.stmt.Literal.TheVariants as literal
use Rattle.inno_db.specs.declared.data_type.DataType.{DataType}
use Rattle.inno_db.specs.declared.data_type.DataType.TheVariants.{Number, Text}
use Rattle.inno_db.specs.declared.truth.Truth.TheVariants.{True, Unknown}
use Rattle.inno_db.specs.Database.{value_cmp}
use Rattle.inno_db.specs.Conditions.{is_null, holds, compared, truth_from, literal_value}
use Rattle.inno_db.specs.Typing.{is_same_type, literal_fits}
use Rattle.sql_plan.specs.declared.interval.Limit.{Limit}
use Rattle.sql_plan.specs.declared.interval.Limit.TheVariants.{Open, With, Without}
use Rattle.sql_plan.specs.declared.interval.Interval.{Interval}
use Rattle.sql_plan.specs.Intervals.{nothing, values_between, unless_null, compared_with, turned, meet, is_above, is_below, is_crossed, is_empty, whole}
use Rattle.sql_plan.proofs.Order.{reversed, equal_ge, equal_le, within_ge_le, within_ge_lt, within_gt_le, within_gt_lt}

abbrev pub has_type : DataType → Value → Bool
has_type type value.Null = false
has_type type (value.Int n) = is_same_type type Number
has_type type (value.Text text) = is_same_type type Text

abbrev pub low_admits : DataType → Limit Value → Value → Bool
low_admits type Open v = true
low_admits type (With w) v = has_type type w && is_ge (value_cmp v w)
low_admits type (Without w) v = has_type type w && is_gt (value_cmp v w)

abbrev pub high_admits : DataType → Limit Value → Value → Bool
high_admits type Open v = true
high_admits type (With w) v = has_type type w && is_le (value_cmp v w)
high_admits type (Without w) v = has_type type w && is_lt (value_cmp v w)

-- v lies in the interval, whose limits have the type
pub record Admits (type : DataType) (values : Interval Value) (v : Value) : Type 0 where
  pub present : is_null v ≡ false
  pub some : values.none ≡ false
  pub low : low_admits type values.low v ≡ true
  pub high : high_admits type values.high v ≡ true

pub and_both : (a b : Bool) → (a && b) ≡ true → (a ≡ true) × (b ≡ true)
and_both true true e = (refl, refl)
and_both true false e = absurd cc
and_both false b e = absurd cc

pub both_and : (a b : Bool) → a ≡ true → b ≡ true → (a && b) ≡ true
both_and true true p q = refl
both_and true false p q = q
both_and false b p q = p

neither_or : (a b : Bool) → a ≡ false → b ≡ false → (a || b) ≡ false
neither_or false false p q = refl
neither_or false true p q = q
neither_or true b p q = p

pick_low : (c : Bool) (type : DataType) (a b : Limit Value) (v : Value) → low_admits type a v ≡ true → low_admits type b v ≡ true → low_admits type (if c then a else b) v ≡ true
pick_low true type a b v in_a in_b = in_a
pick_low false type a b v in_a in_b = in_b

pick_high : (c : Bool) (type : DataType) (a b : Limit Value) (v : Value) → high_admits type a v ≡ true → high_admits type b v ≡ true → high_admits type (if c then a else b) v ≡ true
pick_high true type a b v in_a in_b = in_a
pick_high false type a b v in_a in_b = in_b

-- the meet admits what both admit
pub meet_admits : (type : DataType) (a b : Interval Value) (v : Value) → Admits type a v → Admits type b v → Admits type (meet a b) v
meet_admits type a b v in_a in_b = record {
  present = in_a.present;
  some = neither_or a.none b.none in_a.some in_b.some;
  low = pick_low (is_above a.low b.low) type a.low b.low v in_a.low in_b.low;
  high = pick_high (is_below a.high b.high) type a.high b.high v in_a.high in_b.high;
}

pub whole_admits : (type : DataType) (v : Value) → is_null v ≡ false → Admits type whole v
whole_admits type v present = record { present = present; some = refl; low = refl; high = refl }

not_crossed : (type : DataType) (low high : Limit Value) (v : Value) → low_admits type low v ≡ true → high_admits type high v ≡ true → is_crossed low high ≡ false
not_crossed type Open high v in_low in_high = refl
not_crossed type (With l) Open v in_low in_high = refl
not_crossed type (Without l) Open v in_low in_high = refl
not_crossed type (With l) (With h) v in_low in_high =
    within_ge_le l v h (and_both (has_type type l) (is_ge (value_cmp v l)) in_low).1 (and_both (has_type type h) (is_le (value_cmp v h)) in_high).1
not_crossed type (With l) (Without h) v in_low in_high =
    within_ge_lt l v h (and_both (has_type type l) (is_ge (value_cmp v l)) in_low).1 (and_both (has_type type h) (is_lt (value_cmp v h)) in_high).1
not_crossed type (Without l) (With h) v in_low in_high =
    within_gt_le l v h (and_both (has_type type l) (is_gt (value_cmp v l)) in_low).1 (and_both (has_type type h) (is_le (value_cmp v h)) in_high).1
not_crossed type (Without l) (Without h) v in_low in_high =
    within_gt_lt l v h (and_both (has_type type l) (is_gt (value_cmp v l)) in_low).1 (and_both (has_type type h) (is_lt (value_cmp v h)) in_high).1

-- an interval that admits a value is not empty
pub admits_some : (type : DataType) (values : Interval Value) (v : Value) → Admits type values v → is_empty values ≡ false
admits_some type values v admits = neither_or values.none (is_crossed values.low values.high) admits.some (not_crossed type values.low values.high v admits.low admits.high)

-- what a true comparison says of its sides
pub record IsMet (comparison : Comparison) (v w : Value) : Type 0 where
  pub left : is_null v ≡ false
  pub right : is_null w ≡ false
  pub met : holds comparison (value_cmp v w) ≡ true

true_if : (a b h : Bool) → (if a || b then Unknown else truth_from h) ≡ True → (a ≡ false) × (b ≡ false) × (h ≡ true)
true_if false false true e = (refl, refl, refl)
true_if false false false e = absurd cc
true_if false true h e = absurd cc
true_if true b h e = absurd cc

pub is_met : (comparison : Comparison) (v w : Value) → compared comparison v w ≡ True → IsMet comparison v w
is_met comparison v w e =
    let parts = true_if (is_null v) (is_null w) (holds comparison (value_cmp v w)) e in
    record { left = parts.0; right = parts.1; met = parts.2 }

turned_holds : (comparison : Comparison) (o : Ordering) → holds comparison (ordering_reverse o) ≡ holds (turned comparison) o
turned_holds is.Equal o = elim o as (λ r. is_eq (ordering_reverse r) ≡ is_eq r) [ Less ↦ refl | Equal ↦ refl | Greater ↦ refl ]
turned_holds is.NotEqual o = elim o as (λ r. not (is_eq (ordering_reverse r)) ≡ not (is_eq r)) [ Less ↦ refl | Equal ↦ refl | Greater ↦ refl ]
turned_holds is.Less o = elim o as (λ r. is_lt (ordering_reverse r) ≡ is_gt r) [ Less ↦ refl | Equal ↦ refl | Greater ↦ refl ]
turned_holds is.LessOrEqual o = elim o as (λ r. is_le (ordering_reverse r) ≡ is_ge r) [ Less ↦ refl | Equal ↦ refl | Greater ↦ refl ]
turned_holds is.Greater o = elim o as (λ r. is_gt (ordering_reverse r) ≡ is_lt r) [ Less ↦ refl | Equal ↦ refl | Greater ↦ refl ]
turned_holds is.GreaterOrEqual o = elim o as (λ r. is_ge (ordering_reverse r) ≡ is_le r) [ Less ↦ refl | Equal ↦ refl | Greater ↦ refl ]

-- a comparison that is met from the right
pub met_turned : (comparison : Comparison) (w v : Value) → IsMet comparison w v → IsMet (turned comparison) v w
met_turned comparison w v met = record {
  left = met.right;
  right = met.left;
  met = sym (turned_holds comparison (value_cmp v w)) ∙ ap (holds comparison) (sym (reversed w v)) ∙ met.met;
}

unless_present : (w : Value) (values : Interval Value) → is_null w ≡ false → unless_null w values ≡ values
unless_present w values present = ap (λ (b : Bool). if b then nothing else values) present

admits_at : (type : DataType) (a values : Interval Value) (v w : Value) → is_null w ≡ false → Some (unless_null w a) ≡ Some values → Admits type a v → Admits type values v
admits_at type a values v w present e admits =
    subst (λ (i : Interval Value). Admits type i v) (sym (unless_present w a present) ∙ same_Some (unless_null w a) values e) admits

-- the interval of a comparison admits what meets it
pub compared_admits : (type : DataType) (comparison : Comparison) (v w : Value) (values : Interval Value) → IsMet comparison v w → has_type type w ≡ true → compared_with comparison w ≡ Some values → Admits type values v
compared_admits type is.Equal v w values met typed e =
    admits_at type (values_between (With w) (With w)) values v w met.right e (record {
      present = met.left;
      some = refl;
      low = both_and (has_type type w) (is_ge (value_cmp v w)) typed (equal_ge (value_cmp v w) met.met);
      high = both_and (has_type type w) (is_le (value_cmp v w)) typed (equal_le (value_cmp v w) met.met);
    })
compared_admits type is.NotEqual v w values met typed e = absurd cc
compared_admits type is.Less v w values met typed e =
    admits_at type (values_between Open (Without w)) values v w met.right e (record {
      present = met.left;
      some = refl;
      low = refl;
      high = both_and (has_type type w) (is_lt (value_cmp v w)) typed met.met;
    })
compared_admits type is.LessOrEqual v w values met typed e =
    admits_at type (values_between Open (With w)) values v w met.right e (record {
      present = met.left;
      some = refl;
      low = refl;
      high = both_and (has_type type w) (is_le (value_cmp v w)) typed met.met;
    })
compared_admits type is.Greater v w values met typed e =
    admits_at type (values_between (Without w) Open) values v w met.right e (record {
      present = met.left;
      some = refl;
      low = both_and (has_type type w) (is_gt (value_cmp v w)) typed met.met;
      high = refl;
    })
compared_admits type is.GreaterOrEqual v w values met typed e =
    admits_at type (values_between (With w) Open) values v w met.right e (record {
      present = met.left;
      some = refl;
      low = both_and (has_type type w) (is_ge (value_cmp v w)) typed met.met;
      high = refl;
    })

-- so does that of BETWEEN
pub between_admits : (type : DataType) (v low high : Value) → IsMet is.GreaterOrEqual v low → IsMet is.LessOrEqual v high → has_type type low ≡ true → has_type type high ≡ true
    → Admits type (unless_null low (unless_null high (values_between (With low) (With high)))) v
between_admits type v low high above below low_typed high_typed =
    let inner = values_between (With low) (With high) in
    let is_inner : unless_null low (unless_null high inner) ≡ inner = unless_present low (unless_null high inner) above.right ∙ unless_present high inner below.right in
    subst (λ (i : Interval Value). Admits type i v) (sym is_inner) (record {
      present = above.left;
      some = refl;
      low = both_and (has_type type low) (is_ge (value_cmp v low)) low_typed above.met;
      high = both_and (has_type type high) (is_le (value_cmp v high)) high_typed below.met;
    })

-- a literal that fits a type, and is not NULL, has it
pub typed_literal : (type : DataType) (l : Literal) → literal_fits type l ≡ true → is_null (literal_value l) ≡ false → has_type type (literal_value l) ≡ true
typed_literal type literal.Null fits present = absurd cc
typed_literal type (literal.Int n) fits present = fits
typed_literal type literal.TooBig fits present = absurd cc
typed_literal type (literal.Text text) fits present = fits
