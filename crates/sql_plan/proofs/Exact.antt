-- Intervals hold exactly the values that they are said to hold.
use Rattle.std.proofs.Common.{◌≡◌, Bool, true, false, Some, refl, sym, ap, ◌∙◌}
use Rattle.std.specs.Prelude.{not, ◌&&◌, ◌||◌, if◌then◌else◌}
use Rattle.std.proofs.lemmas.Option.{same_Some}
use Rattle.std.proofs.lemmas.Cmp.{upto, alike_right}
use Rattle.std.specs.BTreeMap.Comparable.{le_lt_trans}
use Rattle.std.specs.declared.cmp.Ordering.{Ordering}
use Rattle.std.specs.declared.cmp.Ordering.TheVariants.{Less, Equal, Greater}
use Rattle.std.specs.Ordering.{ordering_reverse, is_lt, is_le, is_eq, is_gt, is_ge}
use Rattle.inno_types.specs.declared.value.Value.{Value}
use Rattle.inno_types.specs.declared.stmt.Comparison.{Comparison}
use Rattle.inno_types.specs.declared.stmt.Comparison.TheVariants as is
use Rattle.inno_db.specs.declared.truth.Truth.TheVariants.{Unknown}
use Rattle.inno_db.specs.Database.{value_cmp}
use Rattle.inno_db.specs.Conditions.{is_null, holds, compared, truth_from, is_true}
use Rattle.sql_plan.specs.declared.interval.Limit.{Limit}
use Rattle.sql_plan.specs.declared.interval.Limit.TheVariants.{Open, With, Without}
use Rattle.sql_plan.specs.declared.interval.Interval.{Interval}
use Rattle.sql_plan.specs.Intervals.{nothing, values_between, unless_null, compared_with, meet, higher, lower, is_crossed, is_empty, is_over, is_under, contains}
use Rattle.sql_plan.proofs.Order.{value_total, reversed, within_ge_le, within_ge_lt, within_gt_le, within_gt_lt}

-- of two tests the one that implies the other is the tests' and
first_alone : (p q : Bool) → (p ≡ true → q ≡ true) → p ≡ (p && q)
first_alone true q implies = sym (implies refl)
first_alone false q implies = refl

second_alone : (p q : Bool) → (q ≡ true → p ≡ true) → q ≡ (p && q)
second_alone true q implies = refl
second_alone false true implies = sym (implies refl)
second_alone false false implies = refl

and_true : (p : Bool) → p ≡ (p && true)
and_true true = refl
and_true false = refl

ge_back : (o : Ordering) → is_ge o ≡ true → is_gt (ordering_reverse o) ≡ false
ge_back Less e = absurd cc
ge_back Equal e = refl
ge_back Greater e = refl

gt_less : (o : Ordering) → is_gt o ≡ true → ordering_reverse o ≡ Less
gt_less Less e = absurd cc
gt_less Equal e = absurd cc
gt_less Greater e = refl

less_gt : (o : Ordering) → ordering_reverse o ≡ Less → is_gt o ≡ true
less_gt Less e = absurd cc
less_gt Equal e = absurd cc
less_gt Greater e = refl

not_gt_ge : (o : Ordering) → is_gt (ordering_reverse o) ≡ false → is_ge o ≡ true
not_gt_ge Less e = absurd cc
not_gt_ge Equal e = refl
not_gt_ge Greater e = refl

not_gt_le : (o : Ordering) → is_gt o ≡ false → is_le o ≡ true
not_gt_le Less e = refl
not_gt_le Equal e = refl
not_gt_le Greater e = absurd cc

less_not_gt : (o : Ordering) → o ≡ Less → is_gt o ≡ false
less_not_gt o e = ap is_gt e

not_ge_less : (o : Ordering) → is_ge o ≡ false → o ≡ Less
not_ge_less Less e = refl
not_ge_less Equal e = absurd cc
not_ge_less Greater e = absurd cc

le_not_gt : (o : Ordering) → is_le o ≡ true → is_gt o ≡ false
le_not_gt Less e = refl
le_not_gt Equal e = refl
le_not_gt Greater e = absurd cc

lt_less : (o : Ordering) → is_lt o ≡ true → o ≡ Less
lt_less Less e = refl
lt_less Equal e = absurd cc
lt_less Greater e = absurd cc

-- x <= y
abbrev AtMost : Value → Value → Type 0
AtMost x y = is_gt (value_cmp x y) ≡ false

abbrev Below : Value → Value → Type 0
Below x y = value_cmp x y ≡ Less

at_most_all : (x y z : Value) → AtMost x y → AtMost y z → AtMost x z
at_most_all x y z p q = upto value_total x y z p q

below_last : (x y z : Value) → AtMost x y → Below y z → Below x z
below_last x y z p q = le_lt_trans value_total x y z (not_gt_le (value_cmp x y) p) q

below_first : (x y z : Value) → Below x y → AtMost y z → Below x z
below_first x y z p q = by (value_cmp y z) refl
  where
    by : (o : Ordering) → value_cmp y z ≡ o → Below x z
    by Less e = value_total.trans x y z p e
    by Equal e = sym (alike_right value_total y z x e) ∙ p
    by Greater e = absurd (never (sym (ap is_gt e) ∙ q))
      where
        never : true ≡ false → ⊥
        never e = cc

weaken : (x y : Value) → Below x y → AtMost x y
weaken x y p = less_not_gt (value_cmp x y) p

-- a low limit, and a value over it
over_with : (w v : Value) → is_ge (value_cmp v w) ≡ true → AtMost w v
over_with w v e = ap is_gt (reversed w v) ∙ ge_back (value_cmp v w) e

with_over : (w v : Value) → AtMost w v → is_ge (value_cmp v w) ≡ true
with_over w v p = not_gt_ge (value_cmp v w) (sym (ap is_gt (reversed w v)) ∙ p)

over_without : (w v : Value) → is_gt (value_cmp v w) ≡ true → Below w v
over_without w v e = reversed w v ∙ gt_less (value_cmp v w) e

without_over : (w v : Value) → Below w v → is_gt (value_cmp v w) ≡ true
without_over w v p = less_gt (value_cmp v w) (sym (reversed w v) ∙ p)

-- the higher of two low limits is both
over_higher : (a b : Limit Value) (v : Value) → is_over (higher a b) v ≡ (is_over a v && is_over b v)
over_higher Open b v = refl
over_higher (With x) Open v = and_true (is_ge (value_cmp v x))
over_higher (Without x) Open v = and_true (is_gt (value_cmp v x))
over_higher (With x) (With y) v = by (is_gt (value_cmp x y)) refl
  where
    by : (c : Bool) → is_gt (value_cmp x y) ≡ c → is_over (if c then With x else With y) v ≡ (is_ge (value_cmp v x) && is_ge (value_cmp v y))
    by true e = first_alone _ _ (λ p. with_over y v (at_most_all y x v (weaken y x (over_without y x e)) (over_with x v p)))
    by false e = second_alone _ _ (λ p. with_over x v (at_most_all x y v e (over_with y v p)))
over_higher (With x) (Without y) v = by (is_gt (value_cmp x y)) refl
  where
    by : (c : Bool) → is_gt (value_cmp x y) ≡ c → is_over (if c then With x else Without y) v ≡ (is_ge (value_cmp v x) && is_gt (value_cmp v y))
    by true e = first_alone _ _ (λ p. without_over y v (below_first y x v (over_without y x e) (over_with x v p)))
    by false e = second_alone _ _ (λ p. with_over x v (weaken x v (below_last x y v e (over_without y v p))))
over_higher (Without x) (With y) v = by (is_ge (value_cmp x y)) refl
  where
    by : (c : Bool) → is_ge (value_cmp x y) ≡ c → is_over (if c then Without x else With y) v ≡ (is_gt (value_cmp v x) && is_ge (value_cmp v y))
    by true e = first_alone _ _ (λ p. with_over y v (weaken y v (below_last y x v (over_with y x e) (over_without x v p))))
    by false e = second_alone _ _ (λ p. without_over x v (below_first x y v (not_ge_less (value_cmp x y) e) (over_with y v p)))
over_higher (Without x) (Without y) v = by (is_gt (value_cmp x y)) refl
  where
    by : (c : Bool) → is_gt (value_cmp x y) ≡ c → is_over (if c then Without x else Without y) v ≡ (is_gt (value_cmp v x) && is_gt (value_cmp v y))
    by true e = first_alone _ _ (λ p. without_over y v (below_last y x v (weaken y x (over_without y x e)) (over_without x v p)))
    by false e = second_alone _ _ (λ p. without_over x v (below_last x y v e (over_without y v p)))

less_lt : (o : Ordering) → o ≡ Less → is_lt o ≡ true
less_lt o e = ap is_lt e

not_le_back : (o : Ordering) → is_le o ≡ false → ordering_reverse o ≡ Less
not_le_back Less e = absurd cc
not_le_back Equal e = absurd cc
not_le_back Greater e = refl

not_lt_back : (o : Ordering) → is_lt o ≡ false → is_gt (ordering_reverse o) ≡ false
not_lt_back Less e = absurd cc
not_lt_back Equal e = refl
not_lt_back Greater e = refl

-- not x < y
not_below : (x y : Value) → is_lt (value_cmp x y) ≡ false → AtMost y x
not_below x y e = ap is_gt (reversed y x) ∙ not_lt_back (value_cmp x y) e

not_at_most : (x y : Value) → is_le (value_cmp x y) ≡ false → Below y x
not_at_most x y e = reversed y x ∙ not_le_back (value_cmp x y) e

under_with : (w v : Value) → is_le (value_cmp v w) ≡ true → AtMost v w
under_with w v e = le_not_gt (value_cmp v w) e

with_under : (w v : Value) → AtMost v w → is_le (value_cmp v w) ≡ true
with_under w v p = not_gt_le (value_cmp v w) p

under_without : (w v : Value) → is_lt (value_cmp v w) ≡ true → Below v w
under_without w v e = lt_less (value_cmp v w) e

without_under : (w v : Value) → Below v w → is_lt (value_cmp v w) ≡ true
without_under w v p = less_lt (value_cmp v w) p

-- the lower of two high limits is both
under_lower : (a b : Limit Value) (v : Value) → is_under (lower a b) v ≡ (is_under a v && is_under b v)
under_lower Open b v = refl
under_lower (With x) Open v = and_true (is_le (value_cmp v x))
under_lower (Without x) Open v = and_true (is_lt (value_cmp v x))
under_lower (With x) (With y) v = by (is_lt (value_cmp x y)) refl
  where
    by : (c : Bool) → is_lt (value_cmp x y) ≡ c → is_under (if c then With x else With y) v ≡ (is_le (value_cmp v x) && is_le (value_cmp v y))
    by true e = first_alone _ _ (λ p. with_under y v (at_most_all v x y (under_with x v p) (weaken x y (under_without y x e))))
    by false e = second_alone _ _ (λ p. with_under x v (at_most_all v y x (under_with y v p) (not_below x y e)))
under_lower (With x) (Without y) v = by (is_lt (value_cmp x y)) refl
  where
    by : (c : Bool) → is_lt (value_cmp x y) ≡ c → is_under (if c then With x else Without y) v ≡ (is_le (value_cmp v x) && is_lt (value_cmp v y))
    by true e = first_alone _ _ (λ p. without_under y v (below_last v x y (under_with x v p) (under_without y x e)))
    by false e = second_alone _ _ (λ p. with_under x v (weaken v x (below_first v y x (under_without y v p) (not_below x y e))))
under_lower (Without x) (With y) v = by (is_le (value_cmp x y)) refl
  where
    by : (c : Bool) → is_le (value_cmp x y) ≡ c → is_under (if c then Without x else With y) v ≡ (is_lt (value_cmp v x) && is_le (value_cmp v y))
    by true e = first_alone _ _ (λ p. with_under y v (weaken v y (below_first v x y (under_without x v p) (under_with y x e))))
    by false e = second_alone _ _ (λ p. without_under x v (below_last v y x (under_with y v p) (not_at_most x y e)))
under_lower (Without x) (Without y) v = by (is_lt (value_cmp x y)) refl
  where
    by : (c : Bool) → is_lt (value_cmp x y) ≡ c → is_under (if c then Without x else Without y) v ≡ (is_lt (value_cmp v x) && is_lt (value_cmp v y))
    by true e = first_alone _ _ (λ p. without_under y v (below_last v x y (weaken v x (under_without x v p)) (under_without y x e)))
    by false e = second_alone _ _ (λ p. without_under x v (below_first v y x (under_without y v p) (not_below x y e)))

joined : (n a b o1 o2 u1 u2 : Bool) → (not (n || (a || b)) && ((o1 && o2) && (u1 && u2))) ≡ ((not (n || a) && (o1 && u1)) && (not (n || b) && (o2 && u2)))
joined true a b o1 o2 u1 u2 = refl
joined false true b o1 o2 u1 u2 = refl
joined false false true true o2 true u2 = refl
joined false false true true o2 false u2 = refl
joined false false true false o2 u1 u2 = refl
joined false false false false o2 u1 u2 = refl
joined false false false true true u1 u2 = refl
joined false false false true false true u2 = refl
joined false false false true false false u2 = refl

-- the meet of two intervals contains exactly the values that both contain
pub meet_exact : (a b : Interval Value) (v : Value) → contains (meet a b) v ≡ (contains a v && contains b v)
meet_exact a b v =
    ap (λ (over : Bool). not (is_null v || (a.none || b.none)) && (over && is_under (lower a.high b.high) v)) (over_higher a.low b.low v)
    ∙ ap (λ (under : Bool). not (is_null v || (a.none || b.none)) && ((is_over a.low v && is_over b.low v) && under)) (under_lower a.high b.high v)
    ∙ joined (is_null v) a.none b.none (is_over a.low v) (is_over b.low v) (is_under a.high v) (is_under b.high v)

-- an interval at w, by whether v and w are NULL and by their order, beside the comparison
exact_equal : (n m : Bool) (o : Ordering) → (not (n || m) && (is_ge o && is_le o)) ≡ is_true (if n || m then Unknown else truth_from (is_eq o))
exact_equal true m o = refl
exact_equal false true o = refl
exact_equal false false Less = refl
exact_equal false false Equal = refl
exact_equal false false Greater = refl

exact_low : (n m p : Bool) → (not (n || m) && (p && true)) ≡ is_true (if n || m then Unknown else truth_from p)
exact_low true m p = refl
exact_low false true p = refl
exact_low false false true = refl
exact_low false false false = refl

exact_high : (n m p : Bool) → (not (n || m) && (true && p)) ≡ is_true (if n || m then Unknown else truth_from p)
exact_high true m p = refl
exact_high false true p = refl
exact_high false false true = refl
exact_high false false false = refl

no_values : (n rest other : Bool) → (not (n || true) && rest) ≡ (not (n || true) && other)
no_values true rest other = refl
no_values false rest other = refl

-- what is not for NULL holds nothing where w is NULL
unless_holds : (m : Bool) (low high : Limit Value) (v : Value) → contains (if m then nothing else values_between low high) v ≡ (not (is_null v || m) && (is_over low v && is_under high v))
unless_holds true low high v = no_values (is_null v) true (is_over low v && is_under high v)
unless_holds false low high v = refl

comparison_holds : (comparison : Comparison) (v w : Value) (low high : Limit Value) (values : Interval Value) → Some (unless_null w (values_between low high)) ≡ Some values
    → contains values v ≡ (not (is_null v || is_null w) && (is_over low v && is_under high v))
comparison_holds comparison v w low high values e =
    ap (λ (i : Interval Value). contains i v) (sym (same_Some (unless_null w (values_between low high)) values e)) ∙ unless_holds (is_null w) low high v

-- the interval of a comparison contains exactly what meets it
pub comparison_exact : (comparison : Comparison) (v w : Value) (values : Interval Value) → compared_with comparison w ≡ Some values → contains values v ≡ is_true (compared comparison v w)
comparison_exact is.Equal v w values e = comparison_holds is.Equal v w (With w) (With w) values e ∙ exact_equal (is_null v) (is_null w) (value_cmp v w)
comparison_exact is.NotEqual v w values e = absurd cc
comparison_exact is.Less v w values e = comparison_holds is.Less v w Open (Without w) values e ∙ exact_high (is_null v) (is_null w) (is_lt (value_cmp v w))
comparison_exact is.LessOrEqual v w values e = comparison_holds is.LessOrEqual v w Open (With w) values e ∙ exact_high (is_null v) (is_null w) (is_le (value_cmp v w))
comparison_exact is.Greater v w values e = comparison_holds is.Greater v w (Without w) Open values e ∙ exact_low (is_null v) (is_null w) (is_gt (value_cmp v w))
comparison_exact is.GreaterOrEqual v w values e = comparison_holds is.GreaterOrEqual v w (With w) Open values e ∙ exact_low (is_null v) (is_null w) (is_ge (value_cmp v w))

both_parts : (a b : Bool) → (a && b) ≡ true → (a ≡ true) × (b ≡ true)
both_parts true true e = (refl, refl)
both_parts true false e = absurd cc
both_parts false b e = absurd cc

-- limits that a value keeps to are not crossed
kept_limits : (low high : Limit Value) (v : Value) → is_over low v ≡ true → is_under high v ≡ true → is_crossed low high ≡ false
kept_limits Open high v over under = refl
kept_limits (With l) Open v over under = refl
kept_limits (Without l) Open v over under = refl
kept_limits (With l) (With h) v over under = within_ge_le l v h over under
kept_limits (With l) (Without h) v over under = within_ge_lt l v h over under
kept_limits (Without l) (With h) v over under = within_gt_le l v h over under
kept_limits (Without l) (Without h) v over under = within_gt_lt l v h over under

not_empty : (n none crossed over under : Bool) → (not (n || none) && (over && under)) ≡ true → (over ≡ true → under ≡ true → crossed ≡ false) → (none || crossed) ≡ true → ⊥
not_empty true none crossed over under holds keeps empty = cc
not_empty false true crossed over under holds keeps empty = cc
not_empty false false crossed over under holds keeps empty =
    let both = both_parts over under holds in
    let never : true ≡ false = sym empty ∙ keeps both.0 both.1 in
    cc never

is_false : (b : Bool) → (b ≡ true → ⊥) → b ≡ false
is_false true never = absurd (never refl)
is_false false never = refl

pub empty_exact : (values : Interval Value) (v : Value) → is_empty values ≡ true → contains values v ≡ false
empty_exact values v empty =
    is_false (contains values v)
    (λ holds. not_empty (is_null v) values.none (is_crossed values.low values.high) (is_over values.low v) (is_under values.high v) holds (kept_limits values.low values.high v) empty)
