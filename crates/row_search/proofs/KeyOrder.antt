-- The order of keys beside bounds, which are compared with their first bytes alone; and how many pairs stand behind a key.
use Rattle.std.proofs.Common.{◌≡◌, ◌≢◌, ◌∙◌, sym, ap, refl, ℕ, zero, suc, ◌+◌, ◌≤◌, ◌<◌, Bool, true, false, cond, not, List, [], ◌∷◌, length, take, Some}
use Rattle.std.proofs.Common.{arith}
use Rattle.std.specs.{List.count_by, Ordering.is_le, Ordering.is_lt, Ordering.is_ge, Ordering.is_gt, Ordering.is_eq, Ordering.nat_cmp, Ordering.ordering_then}
use Rattle.std.specs.{Ordering.ordering_reverse, Cmp.IsTotalOrder, Cmp.nat_cmp_total, Cmp.Lexicographic.slice_cmp, declared.cmp.Ordering.Ordering}
use Rattle.std.specs.{declared.cmp.Ordering.TheVariants.Less, declared.cmp.Ordering.TheVariants.Equal, declared.cmp.Ordering.TheVariants.Greater}
use Rattle.std.proofs.{lemmas.Bool.both_ways, lemmas.Bool.false_from_ne_true, lemmas.Bool.not-true, lemmas.Cmp.nat_list_cmp_total}
use Rattle.std.proofs.{lemmas.List.Sums.sum_by-cons, lemmas.List.Sums.sum_by-le-sum_by, lemmas.List.Sums.count_by-le-length}
use Rattle.inno_types.specs.{declared.stmt.Bound.Bound, declared.stmt.Bound.TheVariants.Open, declared.stmt.Bound.TheVariants.With}
use Rattle.inno_types.specs.{declared.stmt.Bound.TheVariants.Without, Ranges.beside, Ranges.is_from, Ranges.is_up_to}
use Rattle.entries.specs.Pairs.{Pair, key_cmp, value_of}
use Rattle.entries.proofs.Order.{key_cmp_total, same_key, key_itself}
use Rattle.sql_plan.proofs.Order.{equal_is}
use Rattle.row_search.specs.{Ranges.bound_bytes, Searches.pairs_behind}

-- ---- any total order

pub lt_less : (r : Ordering) → is_lt r ≡ true → r ≡ Less
lt_less Less h = refl
lt_less other h = cc

reversed : (r : Ordering) → is_le (ordering_reverse r) ≡ not (is_lt r)
reversed Less = refl
reversed other = refl

module _ {K : Type 0} (cmp : K → K → Ordering) (total : IsTotalOrder cmp) where
  -- what isn't below is at or above
  pub le_is : (x y : K) → is_le (cmp y x) ≡ not (is_lt (cmp x y))
  le_is x y = ap is_le (total.antisymm y x) ∙ reversed (cmp x y)

  pub not_lt : (x y : K) → is_lt (cmp x y) ≡ false → is_le (cmp y x) ≡ true
  not_lt x y h = le_is x y ∙ ap not h

  pub le_not : (x y : K) → is_le (cmp x y) ≡ true → is_lt (cmp y x) ≡ false
  le_not x y h = not-true (is_lt (cmp y x)) (sym (le_is y x) ∙ h)

  pub le_lt : (x y z : K) → is_le (cmp x y) ≡ true → is_lt (cmp y z) ≡ true → is_lt (cmp x z) ≡ true
  le_lt x y z a b = go (cmp x y) refl a where
    go : (r : Ordering) → cmp x y ≡ r → is_le r ≡ true → is_lt (cmp x z) ≡ true
    go Less p a = ap is_lt (total.trans x y z p (lt_less (cmp y z) b))
    go Equal p a = ap is_lt (total.congr x y z p) ∙ b
    go Greater p a = cc

  pub le_le : (x y z : K) → is_le (cmp x y) ≡ true → is_le (cmp y z) ≡ true → is_le (cmp x z) ≡ true
  le_le x y z a b = not_lt z x (false_from_ne_true (is_lt (cmp z x)) (λ lt. both_ways (is_lt (cmp y x)) (le_not x y a) (le_lt y z x b lt)))

-- at or below, but not the same
pub le_apart : (key other : List ℕ) → key ≢ other → is_lt (key_cmp key other) ≡ is_le (key_cmp key other)
le_apart key other apart = go (key_cmp key other) (λ e. apart (same_key key other e)) where
  go : (r : Ordering) → r ≢ Equal → is_lt r ≡ is_le r
  go Equal differ = absurd (differ refl)
  go other differ = refl

-- ---- first bytes

then_le : (o p q : Ordering) → (is_le p ≡ true → is_le q ≡ true) → is_le (ordering_then o p) ≡ true → is_le (ordering_then o q) ≡ true
then_le Equal p q h is = h is
then_le other p q h is = is

then_ge : (o p q : Ordering) → (is_ge p ≡ true → is_le q ≡ true) → is_ge (ordering_then o p) ≡ true → is_le (ordering_then (ordering_reverse o) q) ≡ true
then_ge Less p q h is = cc
then_ge Equal p q h is = h is
then_ge Greater p q h is = refl

-- first bytes rise as keys do
firsts_rise : (n : ℕ) (xs ys : List ℕ) → is_le (slice_cmp nat_cmp xs ys) ≡ true → is_le (slice_cmp nat_cmp (take n xs) (take n ys)) ≡ true
firsts_rise zero xs ys is = refl
firsts_rise (suc n) [] [] is = refl
firsts_rise (suc n) [] (y ∷ ys) is = refl
firsts_rise (suc n) (x ∷ xs) [] is = cc
firsts_rise (suc n) (x ∷ xs) (y ∷ ys) is = then_le (nat_cmp x y) (slice_cmp nat_cmp xs ys) (slice_cmp nat_cmp (take n xs) (take n ys)) (firsts_rise n xs ys) is

-- a key whose first bytes are at or above a bound is so, too
not_before : (key bound : List ℕ) → is_ge (beside key bound) ≡ true → is_le (slice_cmp nat_cmp bound key) ≡ true
not_before [] [] is = refl
not_before [] (b ∷ bound) is = cc
not_before (k ∷ key) [] is = refl
not_before (k ∷ key) (b ∷ bound) is =
    ap (λ o. is_le (ordering_then o (slice_cmp nat_cmp bound key))) (nat_cmp_total.antisymm b k)
    ∙ then_ge (nat_cmp k b) (beside key bound) (slice_cmp nat_cmp bound key) (not_before key bound) is

gt_ge : (r : Ordering) → is_gt r ≡ true → is_ge r ≡ true
gt_ge Less h = cc
gt_ge other h = refl

-- no key of the range stands before the bytes at which a walk begins
pub begins_before : (low : Bound) (key : List ℕ) → is_from low key ≡ true → is_le (key_cmp (bound_bytes low) key) ≡ true
unfolding key_cmp
begins_before Open key from = not_before key [] refl
begins_before (With bound) key from = not_before key bound from
begins_before (Without bound) key from = not_before key bound (gt_ge (beside key bound) from)

-- a key below one that is up to a bound is so, too
pub up_to_below : (high : Bound) (key other : List ℕ) → is_le (key_cmp other key) ≡ true → is_up_to high key ≡ true → is_up_to high other ≡ true
unfolding key_cmp
up_to_below Open key other le up = refl
up_to_below (With bound) key other le up =
    le_le (slice_cmp nat_cmp) nat_list_cmp_total (take (length bound) other) (take (length bound) key) bound (firsts_rise (length bound) other key le) up
up_to_below (Without bound) key other le up =
    le_lt (slice_cmp nat_cmp) nat_list_cmp_total (take (length bound) other) (take (length bound) key) bound (firsts_rise (length bound) other key le) up

-- ---- how many pairs are left as a search comes to another one

one_if : (b c : Bool) → (b ≡ true → c ≡ true) → cond b 1 0 ≤ cond c 1 0
one_if true c h = rw (h refl) (omega arith)
one_if false c h = omega arith

abbrev count : (List ℕ → Bool) → List Pair → ℕ
count test pairs = count_by (λ (pair : Pair). test pair.0) pairs

counted : (test : List ℕ → Bool) (pair : Pair) (pairs : List Pair) → count test (pair ∷ pairs) ≡ cond (test pair.0) 1 0 + count test pairs
counted test pair pairs = sum_by-cons (λ (later : Pair). cond (test later.0) 1 0) pair pairs

-- one key that is there passes one test alone
module _ (q p : List ℕ → Bool) (fewer : (key : List ℕ) → q key ≡ true → p key ≡ true) (key value : List ℕ) (passes : p key ≡ true) (fails : q key ≡ false) where
  one_less : (pairs : List Pair) → value_of key pairs ≡ Some value → count q pairs < count p pairs
  one_less [] there = cc
  one_less (pair ∷ pairs) there = go (is_eq (key_cmp key pair.0)) refl there (one_less pairs) where
    go : (b : Bool) → is_eq (key_cmp key pair.0) ≡ b → cond b (Some pair.1) (value_of key pairs) ≡ Some value
        → (value_of key pairs ≡ Some value → count q pairs < count p pairs) → count q (pair ∷ pairs) < count p (pair ∷ pairs)
    go true is e rest =
        let same : pair.0 ≡ key = sym (same_key key pair.0 (equal_is (key_cmp key pair.0) is)) in
        let here : count q (pair ∷ pairs) ≡ 0 + count q pairs = counted q pair pairs ∙ ap (λ b. cond b 1 0 + count q pairs) (ap q same ∙ fails) in
        let also : count p (pair ∷ pairs) ≡ 1 + count p pairs = counted p pair pairs ∙ ap (λ b. cond b 1 0 + count p pairs) (ap p same ∙ passes) in
        let no_more : count q pairs ≤ count p pairs =
        sum_by-le-sum_by (λ (l : Pair). cond (q l.0) 1 0) (λ (l : Pair). cond (p l.0) 1 0) pairs (λ l. one_if (q l.0) (p l.0) (fewer l.0)) in
        omega arith
    go false is e rest = omega (arith, counted q pair pairs, counted p pair pairs, one_if (q pair.0) (p pair.0) (fewer pair.0), rest e)

pub fewer_behind_first : (key value : List ℕ) (pairs : List Pair) → value_of key pairs ≡ Some value → pairs_behind (Some (key, value)) pairs < length pairs
fewer_behind_first key value pairs there =
    let less = one_less (λ later. is_lt (key_cmp key later)) (λ later. true) (λ later passes. refl) key value refl (ap is_lt (key_itself key)) pairs there in
    omega (arith, less, count_by-le-length (λ (pair : Pair). true) pairs)

pub fewer_behind_next : (last : Pair) (key value : List ℕ) (pairs : List Pair) → value_of key pairs ≡ Some value → is_lt (key_cmp last.0 key) ≡ true
    → pairs_behind (Some (key, value)) pairs < pairs_behind (Some last) pairs
fewer_behind_next last key value pairs there above =
    one_less (λ later. is_lt (key_cmp key later)) (λ later. is_lt (key_cmp last.0 later))
    (λ later passes. le_lt key_cmp key_cmp_total last.0 key later (ap is_le (lt_less (key_cmp last.0 key) above)) passes) key value above
    (ap is_lt (key_itself key)) pairs there
