-- The pairs of a leaf, as its records tell them.
use Rattle.std.proofs.Common.{◌≡◌, ℕ, zero, suc, ◌<◌, List, [], ◌∷◌, length, map, slice_index_or, Option, None, Some, refl, sym, ◌∙◌, ap, arith}
use Rattle.std.specs.Prelude.{find}
use Rattle.std.specs.Option.{option_or}
use Rattle.std.specs.List.{slice_get}
use Rattle.entries.specs.Pairs.{Pair}
use Rattle.law_flat_tree.specs.Leaves.{first_or}
use Rattle.law_flat_tree.specs.Pages.{pair_of}
use Rattle.btree.specs.declared.tree.Bound.{Bound}
use Rattle.btree.specs.declared.tree.Bound.TheVariants.{AtOrAbove, Above}
use Rattle.btree.specs.Places.{passes, record_passes, StartsAt}
use Rattle.btree.specs.Sound.{first_by}

pub pair_here : (n : ℕ) (rs : List (List ℕ)) (i : ℕ) → i < length rs → slice_get (map (pair_of n) rs) i ≡ Some (pair_of n (slice_index_or rs i []))
pair_here n [] i within = absurd (omega (arith, within))
pair_here n (r ∷ rs) zero within = refl
pair_here n (r ∷ rs) (suc i) within = pair_here n rs i (omega (arith, within))

-- the first pair whose key passes stands where the first such record does
found_at : (n : ℕ) (bound : Bound) (key : List ℕ) (rs : List (List ℕ)) (i : ℕ) → StartsAt (record_passes n bound key) rs i
    → find (λ (pair : Pair). passes bound key pair.0) (map (pair_of n) rs) ≡ slice_get (map (pair_of n) rs) i
found_at n bound key [] zero starts = refl
found_at n bound key [] (suc i) starts = absurd (omega (arith, starts.within))
found_at n bound key (r ∷ rs) zero starts = let here = starts.here (omega arith) in rw here refl
found_at n bound key (r ∷ rs) (suc i) starts =
    let fails = starts.before.0 in
    rw fails (found_at n bound key rs i (record {
      within = omega (arith, starts.within);
      before = starts.before.1;
      here = λ lt. starts.here (omega (arith, lt));
    }))

by_test : (bound : Bound) (key : List ℕ) (pairs : List Pair) → first_by bound key pairs ≡ find (λ (pair : Pair). passes bound key pair.0) pairs
by_test AtOrAbove key pairs = refl
by_test Above key pairs = refl

pub first_at : (n : ℕ) (bound : Bound) (key : List ℕ) (rs : List (List ℕ)) (i : ℕ) → StartsAt (record_passes n bound key) rs i
    → first_by bound key (map (pair_of n) rs) ≡ slice_get (map (pair_of n) rs) i
first_at n bound key rs i starts = by_test bound key (map (pair_of n) rs) ∙ found_at n bound key rs i starts

pub past_end : {A : Type 0} (xs : List A) → slice_get xs (length xs) ≡ None
past_end [] = refl
past_end (x ∷ xs) = past_end xs

length-map : {A B : Type 0} (f : A → B) (xs : List A) → length (map f xs) ≡ length xs
length-map f [] = refl
length-map f (x ∷ xs) = ap suc (length-map f xs)

pub none_past : (n : ℕ) (rs : List (List ℕ)) → slice_get (map (pair_of n) rs) (length rs) ≡ None
none_past n rs = ap (slice_get (map (pair_of n) rs)) (sym (length-map (pair_of n) rs)) ∙ past_end (map (pair_of n) rs)

-- a pair that is there comes before any other
pub or_there : (pairs : List Pair) (i : ℕ) (other : Option Pair) → i < length pairs → option_or (slice_get pairs i) other ≡ slice_get pairs i
or_there [] i other within = absurd (omega (arith, within))
or_there (pair ∷ pairs) zero other within = refl
or_there (pair ∷ pairs) (suc i) other within = or_there pairs i other (omega (arith, within))

pub row_there : (n : ℕ) (rs : List (List ℕ)) (i : ℕ) (other : Option Pair) → i < length rs
    → option_or (slice_get (map (pair_of n) rs) i) other ≡ slice_get (map (pair_of n) rs) i
row_there n rs i other within = or_there (map (pair_of n) rs) i other (omega (arith, within, length-map (pair_of n) rs))

pub head_pair : (n : ℕ) (rs : List (List ℕ)) (other : Option Pair) → 0 < length rs → slice_get (map (pair_of n) rs) 0 ≡ first_or (map (pair_of n) rs) other
head_pair n [] other some = absurd (omega (arith, some))
head_pair n (r ∷ rs) other some = refl
