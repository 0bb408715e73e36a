-- Lists cut at a place.
use Rattle.std.proofs.Common.{◌≡◌, ℕ, ◌+◌, ◌<◌, ◌≤◌, List, [], ◌∷◌, ◌++◌, length, take, set, sym, ap, subst, ◌∙◌, add-one}
use Rattle.std.proofs.Math.Seq.{take-suc-set, take-append_seam}
use Rattle.std.proofs.lemmas.List.{take_all}
use Rattle.std.specs.Prelude.{Bool, true, false, cond, filter}
use Rattle.std.specs.List.{AllByRecursion}

module _ {A : Type 0} (P : A → Type 0) where
  pub all_weaker : (Q : A → Type 0) → ((x : A) → P x → Q x) → (xs : List A) → AllByRecursion P xs → AllByRecursion Q xs
  all_weaker Q f [] all = all
  all_weaker Q f (x ∷ xs) all = (f x all.0, all_weaker Q f xs all.1)

  pub all_true : ((x : A) → P x) → (xs : List A) → AllByRecursion P xs
  all_true f [] = tt
  all_true f (x ∷ xs) = (f x, all_true f xs)

  pub all_append : (xs ys : List A) → AllByRecursion P xs → AllByRecursion P ys → AllByRecursion P (xs ++ ys)
  all_append [] ys all all' = all'
  all_append (x ∷ xs) ys all all' = (all.0, all_append xs ys all.1 all')

  pub all_push : (xs : List A) (x : A) → AllByRecursion P xs → P x → AllByRecursion P (xs ++ x ∷ [])
  all_push xs x all here = all_append xs (x ∷ []) all (here, tt)

  pub all_filter : (test : A → Bool) (xs : List A) → AllByRecursion P xs → AllByRecursion P (filter test xs)
  all_filter test [] all = tt
  all_filter test (x ∷ xs) all = go (test x) (all_filter test xs all.1) where
    go : (b : Bool) → AllByRecursion P (filter test xs) → AllByRecursion P (cond b (x ∷ filter test xs) (filter test xs))
    go true rest = (all.0, rest)
    go false rest = rest

  -- the next element is replaced
  pub all_front_set : (xs : List A) (i : ℕ) (y : A) → i < length xs → AllByRecursion P (take i xs) → P y → AllByRecursion P (take (i + 1) (set xs i y))
  all_front_set xs i y lt all here =
      subst (AllByRecursion P) (sym (ap (λ n. take n (set xs i y)) (add-one i) ∙ take-suc-set xs i y lt)) (all_push (take i xs) y all here)

  -- all of a list, as it stands after a write through a slice
  pub all_whole : (xs ys : List A) (n i : ℕ) → n ≡ length xs → length xs ≤ i → AllByRecursion P (take i xs) → AllByRecursion P (take n (xs ++ ys))
  all_whole xs ys n i is past all = subst (AllByRecursion P) (take_all i xs past ∙ sym (ap (λ m. take m (xs ++ ys)) is ∙ take-append_seam xs ys)) all
