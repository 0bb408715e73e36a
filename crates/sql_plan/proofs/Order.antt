-- The order of values is total; what that says of the tests of it.
use Rattle.std.proofs.Common.{◌≡◌, Bool, true, false, refl, sym, ap, ◌∙◌}
use Rattle.std.specs.Cmp.{IsTotalOrder, nat_cmp_total, int_cmp_total, on_total, then_total}
use Rattle.std.specs.Cmp.Lexicographic.{nat_list_cmp_total}
use Rattle.std.specs.BTreeMap.Comparable.{le_lt_trans}
use Rattle.std.proofs.lemmas.Cmp.{upto, alike_right}
use Rattle.std.specs.declared.cmp.Ordering.{Ordering}
use Rattle.std.specs.declared.cmp.Ordering.TheVariants.{Less, Equal, Greater}
use Rattle.std.specs.Ordering.{ordering_reverse, is_lt, is_le, is_eq, is_gt, is_ge}
use Rattle.inno_types.specs.declared.value.Value.{Value}
use Rattle.inno_db.specs.Database.{value_cmp, rank_of, number_of, text_of}
use Rattle.sql_plan.specs.Intervals.{is_less, is_greater}

pub value_total : IsTotalOrder value_cmp
value_total = then_total (on_total rank_of nat_cmp_total) (then_total (on_total number_of int_cmp_total) (on_total text_of nat_list_cmp_total))

pub reversed : (v w : Value) → value_cmp v w ≡ ordering_reverse (value_cmp w v)
reversed v w = value_total.antisymm v w

-- tests of an order
pub equal_ge : (o : Ordering) → is_eq o ≡ true → is_ge o ≡ true
equal_ge Less e = absurd cc
equal_ge Equal e = refl
equal_ge Greater e = refl

pub equal_le : (o : Ordering) → is_eq o ≡ true → is_le o ≡ true
equal_le Less e = refl
equal_le Equal e = refl
equal_le Greater e = absurd cc

pub equal_is : (o : Ordering) → is_eq o ≡ true → o ≡ Equal
equal_is Less e = absurd cc
equal_is Equal e = refl
equal_is Greater e = absurd cc

turned_ge : (o : Ordering) → is_ge o ≡ true → is_gt (ordering_reverse o) ≡ false
turned_ge Less e = absurd cc
turned_ge Equal e = refl
turned_ge Greater e = refl

turned_ge_le : (o : Ordering) → is_ge o ≡ true → is_le (ordering_reverse o) ≡ true
turned_ge_le Less e = absurd cc
turned_ge_le Equal e = refl
turned_ge_le Greater e = refl

turned_gt : (o : Ordering) → is_gt o ≡ true → ordering_reverse o ≡ Less
turned_gt Less e = absurd cc
turned_gt Equal e = absurd cc
turned_gt Greater e = refl

le_not_gt : (o : Ordering) → is_le o ≡ true → is_gt o ≡ false
le_not_gt Less e = refl
le_not_gt Equal e = refl
le_not_gt Greater e = absurd cc

lt_less : (o : Ordering) → is_lt o ≡ true → o ≡ Less
lt_less Less e = refl
lt_less Equal e = absurd cc
lt_less Greater e = absurd cc

less_not_ge : (o : Ordering) → o ≡ Less → is_ge o ≡ false
less_not_ge o e = ap is_ge e

-- l <= v <= h
pub within_ge_le : (l v h : Value) → is_ge (value_cmp v l) ≡ true → is_le (value_cmp v h) ≡ true → is_gt (value_cmp l h) ≡ false
within_ge_le l v h low high =
    upto value_total l v h (ap is_gt (reversed l v) ∙ turned_ge (value_cmp v l) low) (le_not_gt (value_cmp v h) high)

-- l <= v < h
pub within_ge_lt : (l v h : Value) → is_ge (value_cmp v l) ≡ true → is_lt (value_cmp v h) ≡ true → is_ge (value_cmp l h) ≡ false
within_ge_lt l v h low high =
    less_not_ge (value_cmp l h) (le_lt_trans value_total l v h (ap is_le (reversed l v) ∙ turned_ge_le (value_cmp v l) low) (lt_less (value_cmp v h) high))

-- l < v < h
pub within_gt_lt : (l v h : Value) → is_gt (value_cmp v l) ≡ true → is_lt (value_cmp v h) ≡ true → is_ge (value_cmp l h) ≡ false
within_gt_lt l v h low high =
    less_not_ge (value_cmp l h) (value_total.trans l v h (reversed l v ∙ turned_gt (value_cmp v l) low) (lt_less (value_cmp v h) high))

-- from h >= v > l turned round: l < v <= h
pub within_gt_le : (l v h : Value) → is_gt (value_cmp v l) ≡ true → is_le (value_cmp v h) ≡ true → is_ge (value_cmp l h) ≡ false
within_gt_le l v h low high = by (value_cmp v h) refl
  where
    below : value_cmp l v ≡ Less
    below = reversed l v ∙ turned_gt (value_cmp v l) low

    by : (o : Ordering) → value_cmp v h ≡ o → is_ge (value_cmp l h) ≡ false
    by Less e = less_not_ge (value_cmp l h) (value_total.trans l v h below e)
    by Equal e = less_not_ge (value_cmp l h) (sym (alike_right value_total v h l e) ∙ below)
    by Greater e = absurd (le_is_not (value_cmp v h) high e)
      where
        le_is_not : (o : Ordering) → is_le o ≡ true → o ≡ Greater → ⊥
        le_is_not Less p q = cc
        le_is_not Equal p q = cc
        le_is_not Greater p q = cc

-- a test by which one value goes before another
pub record Precedes (before : Value → Value → Bool) : Type 0 where
  -- what does not go before m does not go before what goes before m
  pub carried : (v w m : Value) → before w m ≡ true → before v m ≡ false → before v w ≡ false
  -- equal values go before the same ones, and not before each other
  pub alike : (v w m : Value) → value_cmp v w ≡ Equal → before v m ≡ before w m
  pub apart : (v w : Value) → value_cmp v w ≡ Equal → before v w ≡ false

not_lt : (o : Ordering) → is_lt o ≡ false → is_gt (ordering_reverse o) ≡ false
not_lt Less e = absurd cc
not_lt Equal e = refl
not_lt Greater e = refl

lt_not_gt : (o : Ordering) → is_lt o ≡ true → is_gt o ≡ false
lt_not_gt Less e = refl
lt_not_gt Equal e = absurd cc
lt_not_gt Greater e = absurd cc

not_gt_back : (o : Ordering) → is_gt o ≡ false → is_lt (ordering_reverse o) ≡ false
not_gt_back Less e = refl
not_gt_back Equal e = refl
not_gt_back Greater e = absurd cc

gt_not_lt : (o : Ordering) → is_gt o ≡ true → is_gt (ordering_reverse o) ≡ false
gt_not_lt Less e = absurd cc
gt_not_lt Equal e = absurd cc
gt_not_lt Greater e = refl

-- w < m, and not v < m
pub less_precedes : Precedes is_less
less_precedes = record {
  carried = λ v w m below not_below.
      ap is_lt (reversed v w) ∙ not_gt_back (value_cmp w v)
      (upto value_total w m v (lt_not_gt (value_cmp w m) below) (ap is_gt (reversed m v) ∙ not_lt (value_cmp v m) not_below));
  alike = λ v w m e. ap is_lt (value_total.congr v w m e);
  apart = λ v w e. ap is_lt e;
}

-- w > m, and not v > m
pub greater_precedes : Precedes is_greater
greater_precedes = record {
  carried = λ v w m above not_above.
      upto value_total v m w not_above (ap is_gt (reversed m w) ∙ gt_not_lt (value_cmp w m) above);
  alike = λ v w m e. ap is_gt (value_total.congr v w m e);
  apart = λ v w e. ap is_gt e;
}
