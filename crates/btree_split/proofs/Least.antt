-- The least key from a low fence on is at or below each other one.
use Rattle.std.proofs.Common.{◌≡◌, inl, inr, ℕ, zero, suc, ◌<◌, Bool, true, eqb, List, [], ◌∷◌, length, refl, sym, ◌∙◌, ap, subst, arith}
use Rattle.std.specs.Prelude.{Option, None, Some, replicate, nat_lt, cond}
use Rattle.std.specs.declared.cmp.Ordering.{Ordering}
use Rattle.std.specs.declared.cmp.Ordering.TheVariants.{Less, Equal, Greater}
use Rattle.std.proofs.lemmas.Bool.{cases_lt}
use Rattle.std.proofs.lemmas.Bool.Decides.{nat_tests}
use Rattle.std.specs.Ordering.{is_le, nat_cmp, ordering_then}
use Rattle.std.specs.Cmp.Lexicographic.{slice_cmp}
use Rattle.entries.specs.Pairs.{key_cmp}
use Rattle.entries.proofs.Order.{key_cmp_is}
use Rattle.law_flat_tree.specs.Levels.{Fence}
use Rattle.law_flat_tree.specs.Levels.Fence.{First, Key, Last}
use Rattle.law_flat_tree.specs.Leaves.{IsFrom}
use Rattle.law_flat_tree.specs.Pages.{low_fence}
use Rattle.btree_split.specs.Placed.{least_key}

-- ---- zeros are as low as any key

first_low : (b : ℕ) (o : Ordering) → is_le o ≡ true → is_le (ordering_then (nat_cmp 0 b) o) ≡ true
first_low b o le = elim (cases_lt 0 b) [
  | inl some ↦ ap (λ (lt : Bool). is_le (ordering_then (cond lt Less (cond (eqb 0 b) Equal Greater)) o)) (lt_is b some)
  | inr none ↦
      let zero_is : 0 ≡ b = omega (arith, none) in
      subst (λ k. is_le (ordering_then (nat_cmp 0 k) o) ≡ true) zero_is le
] where
  lt_is : (k : ℕ) → 0 < k → nat_lt 0 k ≡ true
  lt_is k some = grind (arith, nat_tests)

zeros_first : (k : ℕ) (key : List ℕ) → length key ≡ k → is_le (slice_cmp nat_cmp (replicate k 0) key) ≡ true
zeros_first zero [] long = refl
zeros_first zero (b ∷ key) long = absurd (omega (arith, long))
zeros_first (suc k) [] long = absurd (omega (arith, long))
zeros_first (suc k) (b ∷ key) long = first_low b (slice_cmp nat_cmp (replicate k 0) key) (zeros_first k key (omega (arith, long)))

zeros_low : (k : ℕ) (key : List ℕ) → length key ≡ k → is_le (key_cmp (replicate k 0) key) ≡ true
zeros_low k key long = ap is_le (key_cmp_is (replicate k 0) key) ∙ zeros_first k key long

pub least_low : (n : ℕ) (low : Option (List ℕ)) (key : List ℕ) → length key ≡ n → IsFrom (low_fence low) key → is_le (key_cmp (least_key n low) key) ≡ true
least_low n None key long from = zeros_low n key long
least_low n (Some fence) key long from = from

-- ---- one low fence has one least key

abbrev low_back : Fence → Option (List ℕ)
low_back First = None
low_back (Key key) = Some key
low_back Last = None

back_is : (low : Option (List ℕ)) → low_back (low_fence low) ≡ low
back_is None = refl
back_is (Some key) = refl

pub same_least : (n : ℕ) (low other : Option (List ℕ)) → low_fence low ≡ low_fence other → least_key n low ≡ least_key n other
same_least n low other same = ap (least_key n) (sym (back_is low) ∙ ap low_back same ∙ back_is other)
