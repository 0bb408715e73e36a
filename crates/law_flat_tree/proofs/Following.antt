-- What a search finds from the leaf that holds its key, and where it goes on.
use Rattle.std.proofs.Common.{◌≡◌, ℕ, List, [], ◌∷◌, ◌++◌, refl, ◌∙◌, ap, subst, true, false, Bool, None}
use Rattle.std.specs.Prelude.{find}
use Rattle.std.specs.Option.{option_or}
use Rattle.std.specs.declared.cmp.Ordering.{Ordering}
use Rattle.std.specs.declared.cmp.Ordering.TheVariants.{Less, Greater}
use Rattle.std.specs.Ordering.{is_le, is_lt}
use Rattle.std.proofs.lemmas.List.Folds.{find-append}
use Rattle.entries.specs.Pairs.{Pair, key_cmp, first_from, first_after}
use Rattle.law_flat_tree.specs.Levels.{Node, IsRow, head_or}
use Rattle.law_flat_tree.specs.Levels.Fence.{First, Last}
use Rattle.law_flat_tree.specs.Leaves.{AreLeaves, pairs_of, first_or, first_held}
use Rattle.law_flat_tree.specs.Descents.{Holds}
use Rattle.law_flat_tree.proofs.Rows.{cut, flat_cut}
use Rattle.law_flat_tree.proofs.Leaves.{fails}
use Rattle.law_flat_tree.proofs.Edits.{AreAbove, pairs_below, pairs_above}

-- of pairs that all pass, the first
first_passes : (test : Ordering → Bool) (key : List ℕ) (pairs : List Pair) → test Less ≡ true → AreAbove key pairs
    → find (λ (pair : Pair). test (key_cmp key pair.0)) pairs ≡ first_or pairs None
first_passes test key [] passes above = refl
first_passes test key (pair ∷ pairs) passes above = rw above.0 (rw passes refl)

-- the first pair of all, leaf by leaf
first_leaf : (held : ℕ → List Pair) (ys : List ℕ) → first_or (pairs_of held ys) None ≡ first_held held ys
first_leaf held [] = refl
first_leaf held (y ∷ ys) = go (held y) (first_leaf held ys) where
  go : (pairs : List Pair) → first_or (pairs_of held ys) None ≡ first_held held ys
      → first_or (pairs ++ pairs_of held ys) None ≡ first_or pairs (first_held held ys)
  go [] rest = rest
  go (pair ∷ pairs) rest = refl

module _ (node : ℕ → Node) (held : ℕ → List Pair) (leaves : List ℕ) (key : List ℕ) (p : ℕ)
    (row : IsRow node First leaves Last 0) (are : AreLeaves node held leaves) (holds : Holds node leaves key p) where
  row' : IsRow node First (holds.xs ++ p ∷ holds.ys) Last 0
  row' = subst (λ l. IsRow node First l Last 0) holds.whole row

  are' : AreLeaves node held (holds.xs ++ p ∷ holds.ys)
  are' = subst (λ l. AreLeaves node held l) holds.whole are

  found_by : (test : Ordering → Bool) → test Less ≡ true → test Greater ≡ false
      → find (λ (pair : Pair). test (key_cmp key pair.0)) (pairs_of held leaves) ≡ option_or (find (λ (pair : Pair). test (key_cmp key pair.0)) (held p))
      (first_held held holds.ys)
  found_by test passes misses =
      let all = λ (pair : Pair). test (key_cmp key pair.0) in
      ap (λ l. find all (pairs_of held l)) holds.whole
      ∙ ap (find all) (flat_cut held holds.xs (p ∷ holds.ys))
      ∙ fails all (λ pair. key_cmp key pair.0 ≡ Greater) (λ pair is. ap test is ∙ misses) (pairs_of held holds.xs) (held p ++ pairs_of held holds.ys)
      (pairs_below node held holds.xs holds.ys p key row' are' holds.from holds.under)
      ∙ find-append all (held p) (pairs_of held holds.ys)
      ∙ ap (option_or (find all (held p)))
      (first_passes test key (pairs_of held holds.ys) passes (pairs_above node held holds.xs holds.ys p key row' are' holds.from holds.under)
      ∙ first_leaf held holds.ys)

  -- the first pair at or above the key is in this leaf, or is the first of a later leaf that isn't empty
  pub seeking : first_from key (pairs_of held leaves) ≡ option_or (first_from key (held p)) (first_held held holds.ys)
  seeking = found_by is_le refl refl

  -- and so is the first pair above it
  pub following : first_after key (pairs_of held leaves) ≡ option_or (first_after key (held p)) (first_held held holds.ys)
  following = found_by is_lt refl refl

  -- a walk to the right goes through the later leaves, one behind the other
  pub right_is : (node p).right ≡ head_or 0 holds.ys
  right_is = (cut node First Last 0 holds.xs (p ∷ holds.ys) row').2.1
