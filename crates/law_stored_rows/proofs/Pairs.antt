-- One key of an index is given another value, or none; one index of several is changed.
use Rattle.std.proofs.Common.{◌≡◌, ◌≢◌, ◌∙◌, sym, ap, refl, ℕ, ◌<◌, zero, suc, List, [], ◌∷◌, ◌++◌, length, Option, None, Some, slice_get}
use Rattle.std.proofs.Common.{◌⊎◌, inl, inr, arith}
use Rattle.std.proofs.lemmas.Bool.{ne_eqb, eq-eqb}
use Rattle.std.specs.declared.cmp.Ordering.{Ordering}
use Rattle.std.specs.declared.cmp.Ordering.TheVariants.{Equal}
use Rattle.entries.specs.Pairs.{Pair, key_cmp, AreRising, value_of}
use Rattle.entries.proofs.{Order.same_key, Order.key_itself, Edits.rising_with, Edits.rising_without, Found.value_put, Found.others_stay, Found.value_gone}
use Rattle.entries.proofs.{Found.others_stay_without}
use Rattle.law_stored_rows.specs.Edits.{with_value, clustered_index, key_index, Puts}

pub same_or_not : (a b : List ℕ) → (a ≡ b) ⊎ (a ≢ b)
same_or_not a b = go (key_cmp a b) refl where
  go : (o : Ordering) → key_cmp a b ≡ o → (a ≡ b) ⊎ (a ≢ b)
  go Equal is = inl (same_key a b is)
  go other is = inr (λ same. let e : Equal ≡ other = sym (key_itself a) ∙ (ap (key_cmp a) same ∙ is) in cc)

-- ---- lists

pub nothing_or_more : {A : Type 0} (xs : List A) → (xs ≡ []) ⊎ (xs ≢ [])
nothing_or_more [] = inl refl
nothing_or_more (x ∷ xs) = inr (λ e. cc)

pub got_before : {A : Type 0} (xs ys : List A) (i : ℕ) (y : A) → slice_get xs i ≡ Some y → slice_get (xs ++ ys) i ≡ Some y
got_before [] ys i y is = cc
got_before (x ∷ xs) ys zero y is = is
got_before (x ∷ xs) ys (suc i) y is = got_before xs ys i y is

pub got_last : {A : Type 0} (xs : List A) (x y : A) (i : ℕ) → slice_get (xs ++ x ∷ []) i ≡ Some y
    → (slice_get xs i ≡ Some y) ⊎ ((i ≡ length xs) × (x ≡ y))
got_last [] x y zero is = inr (refl, cc)
got_last [] x y (suc i) is = cc
got_last (first ∷ xs) x y zero is = inl is
got_last (first ∷ xs) x y (suc i) is = elim (got_last xs x y i is) [ inl before ↦ inl before | inr last ↦ inr (ap suc last.0, last.1) ]

-- ---- one key of an index

pub rising_now : (key : List ℕ) (value : Option (List ℕ)) (pairs : List Pair) → AreRising pairs → AreRising (with_value key value pairs)
rising_now key None pairs rising = rising_without key pairs rising
rising_now key (Some value) pairs rising = rising_with key value pairs rising

pub value_now : (key : List ℕ) (value : Option (List ℕ)) (pairs : List Pair) → AreRising pairs → value_of key (with_value key value pairs) ≡ value
value_now key None pairs rising = value_gone key pairs rising
value_now key (Some value) pairs rising = value_put key value pairs

pub others_now : (key : List ℕ) (value : Option (List ℕ)) (other : List ℕ) (pairs : List Pair) → other ≢ key
    → value_of other (with_value key value pairs) ≡ value_of other pairs
others_now key None other pairs differ = others_stay_without key other pairs differ
others_now key (Some value) other pairs differ = others_stay key value other pairs differ

-- ---- one index of several

pub at_index : (old new : ℕ → List Pair) (index : ℕ) (key : List ℕ) (value : Option (List ℕ)) → Puts old new index key value
    → new index ≡ with_value key value (old index)
at_index old new index key value puts = rw (eq-eqb index index refl) at (puts index)

pub at_others : (old new : ℕ → List Pair) (index : ℕ) (key : List ℕ) (value : Option (List ℕ)) (other : ℕ) → Puts old new index key value
    → other ≢ index → new other ≡ old other
at_others old new index key value other puts differ = rw (ne_eqb other index differ) at (puts other)

pub other_rows : (table other : ℕ) → other ≢ table → clustered_index other ≢ clustered_index table
other_rows table other differ same = differ (omega (arith, same))

pub no_key : (table other which : ℕ) → which < 4 → key_index other which ≢ clustered_index table
no_key table other which few same = absurd (omega (arith, same, few))

pub other_key : (table other which at : ℕ) → which < 4 → at < 4 → key_index other which ≡ key_index table at → (other ≡ table) × (which ≡ at)
other_key table other which at few also same = (omega (arith, same, few, also), omega (arith, same, few, also))
