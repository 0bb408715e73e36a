-- What is in a list, and what stands before what.
use Rattle.std.specs.Prelude.{◌≡◌, ℕ, ◌<◌, Bool, true, false, List, [], ◌∷◌, ◌++◌, length, map, filter, cond, Contains, slice_index_or}
use Rattle.std.specs.List.{list_any, AllByRecursion}
use Rattle.std.proofs.Common.{◌⊎◌, inl, inr, refl, sym, ap, subst, arith, suc, zero}
use Rattle.lock_rules.proofs.Booleans.{or_left, or_right, split}

module _ {A : Type 0} where
  -- the list has the item
  abbrev pub IsIn : List A → A → Type 0
  IsIn [] y = ⊥
  IsIn (x ∷ xs) y = (x ≡ y) ⊎ IsIn xs y

  -- the one item stands before the other
  abbrev pub IsBefore : List A → A → A → Type 0
  IsBefore [] y z = ⊥
  IsBefore (x ∷ xs) y z = ((x ≡ y) × IsIn xs z) ⊎ IsBefore xs y z

  in_at : (xs : List A) (y : A) (k : ℕ) → k < length xs → slice_index_or xs k y ≡ y → IsIn xs y
  in_at [] y k within is = absurd (omega (arith, within))
  in_at (x ∷ xs) y zero within is = inl is
  in_at (x ∷ xs) y (suc k) within is = inr (in_at xs y k (omega (arith, within)) is)

  pub in_from_contains : (xs : List A) (y : A) → Contains xs y → IsIn xs y
  in_from_contains xs y there = in_at xs y there.0 there.1 there.2

  pub contains_from_in : (xs : List A) (y : A) → IsIn xs y → Contains xs y
  contains_from_in [] y is = absurd is
  contains_from_in (x ∷ xs) y (inl here) = (0, omega arith, here)
  contains_from_in (x ∷ xs) y (inr there) = let c = contains_from_in xs y there in (suc c.0, omega (arith, c.1), c.2)

  pub in_front : (xs ys : List A) (y : A) → IsIn xs y → IsIn (xs ++ ys) y
  in_front [] ys y is = absurd is
  in_front (x ∷ xs) ys y (inl here) = inl here
  in_front (x ∷ xs) ys y (inr there) = inr (in_front xs ys y there)

  pub in_behind : (xs ys : List A) (y : A) → IsIn ys y → IsIn (xs ++ ys) y
  in_behind [] ys y is = is
  in_behind (x ∷ xs) ys y is = inr (in_behind xs ys y is)

  pub in_cases : (xs ys : List A) (y : A) → IsIn (xs ++ ys) y → IsIn xs y ⊎ IsIn ys y
  in_cases [] ys y is = inr is
  in_cases (x ∷ xs) ys y (inl here) = inl (inl here)
  in_cases (x ∷ xs) ys y (inr there) = elim (in_cases xs ys y there) [ inl front ↦ inl (inr front) | inr behind ↦ inr behind ]

  pub in_filter : (test : A → Bool) (xs : List A) (y : A) → IsIn (filter test xs) y → IsIn xs y × (test y ≡ true)
  in_filter test [] y is = absurd is
  in_filter test (x ∷ xs) y is =
      split (test x)
      (λ passes. elim (let kept : (x ≡ y) ⊎ IsIn (filter test xs) y = subst (λ b. IsIn (cond b (x ∷ filter test xs) (filter test xs)) y) passes is in kept) [
        | inl here ↦ (inl here, subst (λ z. test z ≡ true) here passes)
        | inr there ↦ let rest = in_filter test xs y there in (inr rest.0, rest.1)
      ])
      (λ fails. let rest = in_filter test xs y (subst (λ b. IsIn (cond b (x ∷ filter test xs) (filter test xs)) y) fails is) in (inr rest.0, rest.1))

  pub filter_in : (test : A → Bool) (xs : List A) (y : A) → IsIn xs y → test y ≡ true → IsIn (filter test xs) y
  filter_in test [] y is passes = absurd is
  filter_in test (x ∷ xs) y (inl here) passes = subst (λ b. IsIn (cond b (x ∷ filter test xs) (filter test xs)) y)
      (sym (subst (λ z. test z ≡ true) (sym here) passes)) (inl here)
  filter_in test (x ∷ xs) y (inr there) passes =
      let rest = filter_in test xs y there passes in
      elim (test x) as (λ b. IsIn (cond b (x ∷ filter test xs) (filter test xs)) y) [ true ↦ inr rest | false ↦ rest ]

  pub any_from_in : (test : A → Bool) (xs : List A) (y : A) → IsIn xs y → test y ≡ true → list_any test xs ≡ true
  any_from_in test [] y is passes = absurd is
  any_from_in test (x ∷ xs) y (inl here) passes = or_left _ _ (subst (λ z. test z ≡ true) (sym here) passes)
  any_from_in test (x ∷ xs) y (inr there) passes = or_right (test x) _ (any_from_in test xs y there passes)

  pub all_in : (P : A → Type 0) (xs : List A) (y : A) → AllByRecursion P xs → IsIn xs y → P y
  all_in P [] y all is = absurd is
  all_in P (x ∷ xs) y all (inl here) = subst P here all.0
  all_in P (x ∷ xs) y all (inr there) = all_in P xs y all.1 there

  pub in_all : (P : A → Type 0) (xs : List A) → ((y : A) → IsIn xs y → P y) → AllByRecursion P xs
  in_all P [] each = tt
  in_all P (x ∷ xs) each = (each x (inl refl), in_all P xs (λ y is. each y (inr is)))

  -- an item and those behind it
  pub before_in : (xs : List A) (y z : A) → IsBefore xs y z → IsIn xs y × IsIn xs z
  before_in [] y z is = absurd is
  before_in (x ∷ xs) y z (inl here) = (inl here.0, inr here.1)
  before_in (x ∷ xs) y z (inr there) = let rest = before_in xs y z there in (inr rest.0, inr rest.1)

  -- one more at the end stands before nothing
  pub before_push : (xs : List A) (x y z : A) → IsBefore (xs ++ x ∷ []) y z → IsBefore xs y z ⊎ (x ≡ z)
  before_push [] x y z (inl here) = absurd here.1
  before_push [] x y z (inr there) = absurd there
  before_push (w ∷ xs) x y z (inl here) = elim (in_cases xs (x ∷ []) z here.1) [
    | inl front ↦ inl (inl (here.0, front))
    | inr last ↦ elim last [ inl is ↦ inr is | inr none ↦ absurd none ]
  ]
  before_push (w ∷ xs) x y z (inr there) = elim (before_push xs x y z there) [ inl front ↦ inl (inr front) | inr is ↦ inr is ]

module _ {A B : Type 0} (f : A → B) where
  pub in_map : (xs : List A) (x : A) → IsIn xs x → IsIn (map f xs) (f x)
  in_map [] x is = absurd is
  in_map (y ∷ xs) x (inl here) = inl (ap f here)
  in_map (y ∷ xs) x (inr there) = inr (in_map xs x there)

  pub map_in : (xs : List A) (y : B) → IsIn (map f xs) y → (x : A) × IsIn xs x × (f x ≡ y)
  map_in [] y is = absurd is
  map_in (x ∷ xs) y (inl here) = (x, inl refl, here)
  map_in (x ∷ xs) y (inr there) = let rest = map_in xs y there in (rest.0, inr rest.1, rest.2)
