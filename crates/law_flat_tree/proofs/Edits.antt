-- What is done to the leaf that holds a key is done to all pairs.
use Rattle.std.proofs.Common.{◌≡◌, ℕ, List, [], ◌∷◌, ◌++◌, refl, sym, ◌∙◌, ap, subst, true, false, Bool, cond, Option, Some}
use Rattle.std.specs.declared.cmp.Ordering.{Ordering}
use Rattle.std.specs.declared.cmp.Ordering.TheVariants.{Less, Equal, Greater}
use Rattle.std.specs.Ordering.{is_eq, match_ordering}
use Rattle.std.specs.List.{AllByRecursion}
use Rattle.entries.specs.Pairs.{Pair, key_cmp, value_of, with_pair, without_key}
use Rattle.entries.proofs.Order.{higher_from}
use Rattle.entries.proofs.Edits.{rising_with, rising_without, none_above}
use Rattle.law_flat_tree.specs.Levels.{Node, IsRow, AreAlike}
use Rattle.law_flat_tree.specs.Levels.Fence.{First, Last}
use Rattle.law_flat_tree.specs.Leaves.{IsUnder, IsFrom, IsLeaf, HaveRoom, IsEdited, AreLeaves, pairs_of}
use Rattle.law_flat_tree.specs.Descents.{Holds}
use Rattle.law_flat_tree.proofs.Rows.{cut, flat_cut, alike_flat}
use Rattle.law_flat_tree.proofs.Fences.{apart, others_before, others_behind, others_alike}
use Rattle.law_flat_tree.proofs.Leaves.{each, all_under, all_from}

abbrev pub AreBelow : List ℕ → List Pair → Type 0
AreBelow key pairs = AllByRecursion (λ pair. key_cmp key pair.0 ≡ Greater) pairs

abbrev pub AreAbove : List ℕ → List Pair → Type 0
AreAbove key pairs = AllByRecursion (λ pair. key_cmp key pair.0 ≡ Less) pairs

-- ---- over plain lists: pairs below the key, some pairs, pairs above it

with_behind : (key value : List ℕ) (xs zs : List Pair) → AreBelow key xs → with_pair key value (xs ++ zs) ≡ xs ++ with_pair key value zs
with_behind key value [] zs below = refl
with_behind key value (x ∷ xs) zs below = rw below.0 (ap (λ l. x ∷ l) (with_behind key value xs zs below.1))

with_alone : (key value : List ℕ) (zs : List Pair) → AreAbove key zs → with_pair key value zs ≡ (key, value) ∷ zs
with_alone key value [] above = refl
with_alone key value (z ∷ zs) above = rw above.0

with_before : (key value : List ℕ) (ys zs : List Pair) → AreAbove key zs → with_pair key value (ys ++ zs) ≡ with_pair key value ys ++ zs
with_before key value [] zs above = with_alone key value zs above
with_before key value (y ∷ ys) zs above = go (key_cmp key y.0) (with_before key value ys zs above) where
  go : (o : Ordering) → with_pair key value (ys ++ zs) ≡ with_pair key value ys ++ zs
      → match_ordering o ((key, value) ∷ y ∷ (ys ++ zs)) ((y.0, value) ∷ (ys ++ zs)) (y ∷ with_pair key value (ys ++ zs)) ≡ match_ordering o
      ((key, value) ∷ y ∷ ys) ((y.0, value) ∷ ys) (y ∷ with_pair key value ys) ++ zs
  go Less rest = refl
  go Equal rest = refl
  go Greater rest = ap (λ l. y ∷ l) rest

without_behind : (key : List ℕ) (xs zs : List Pair) → AreBelow key xs → without_key key (xs ++ zs) ≡ xs ++ without_key key zs
without_behind key [] zs below = refl
without_behind key (x ∷ xs) zs below = rw below.0 (ap (λ l. x ∷ l) (without_behind key xs zs below.1))

without_alone : (key : List ℕ) (zs : List Pair) → AreAbove key zs → without_key key zs ≡ zs
without_alone key [] above = refl
without_alone key (z ∷ zs) above = rw above.0 (ap (λ l. z ∷ l) (without_alone key zs above.1))

without_before : (key : List ℕ) (ys zs : List Pair) → AreAbove key zs → without_key key (ys ++ zs) ≡ without_key key ys ++ zs
without_before key [] zs above = without_alone key zs above
without_before key (y ∷ ys) zs above = go (is_eq (key_cmp key y.0)) (without_before key ys zs above) where
  go : (b : Bool) → without_key key (ys ++ zs) ≡ without_key key ys ++ zs
      → cond b (ys ++ zs) (y ∷ without_key key (ys ++ zs)) ≡ cond b ys (y ∷ without_key key ys) ++ zs
  go true rest = refl
  go false rest = ap (λ l. y ∷ l) rest

value_behind : (key : List ℕ) (xs zs : List Pair) → AreBelow key xs → value_of key (xs ++ zs) ≡ value_of key zs
value_behind key [] zs below = refl
value_behind key (x ∷ xs) zs below = rw below.0 (value_behind key xs zs below.1)

value_before : (key : List ℕ) (ys zs : List Pair) → AreAbove key zs → value_of key (ys ++ zs) ≡ value_of key ys
value_before key [] zs above = none_above key zs above
value_before key (y ∷ ys) zs above = ap (λ (found : Option (List ℕ)). cond (is_eq (key_cmp key y.0)) (Some y.1) found) (value_before key ys zs above)

-- ---- the pairs before and behind the leaf that holds the key

module _ (node : ℕ → Node) (held : ℕ → List Pair) (xs ys : List ℕ) (p : ℕ) (key : List ℕ)
    (row : IsRow node First (xs ++ p ∷ ys) Last 0) (leaves : AreLeaves node held (xs ++ p ∷ ys)) (from : IsFrom (node p).low key)
    (under : IsUnder (node p).high key) where
  leaves_before : (xs zs : List ℕ) → AreLeaves node held (xs ++ zs) → AreLeaves node held xs
  leaves_before [] zs all = tt
  leaves_before (x ∷ xs) zs all = (all.0, leaves_before xs zs all.1)

  leaves_behind : (xs zs : List ℕ) → AreLeaves node held (xs ++ zs) → AreLeaves node held zs
  leaves_behind [] zs all = all
  leaves_behind (x ∷ xs) zs all = leaves_behind xs zs all.1

  pub pairs_below : AreBelow key (pairs_of held xs)
  pairs_below =
      let parts = cut node First Last 0 xs (p ∷ ys) row in
      each (λ pair. IsUnder (node p).low pair.0) (λ pair. key_cmp key pair.0 ≡ Greater)
      (λ pair is. higher_from pair.0 key (apart (node p).low pair.0 key is from)) (pairs_of held xs)
      (subst (λ f. AllByRecursion (λ (pair : Pair). IsUnder f pair.0) (pairs_of held xs)) (sym parts.2.0)
      (all_under node held First parts.0 p xs (leaves_before xs (p ∷ ys) leaves) parts.1))

  pub pairs_above : AreAbove key (pairs_of held ys)
  pairs_above =
      let parts = cut node First Last 0 xs (p ∷ ys) row in
      each (λ pair. IsFrom (node p).high pair.0) (λ pair. key_cmp key pair.0 ≡ Less) (λ pair is. apart (node p).high key pair.0 under is) (pairs_of held ys)
      (all_from node held (node p).high Last 0 ys (leaves_behind xs (p ∷ ys) leaves).1 parts.2.2)

  whole : pairs_of held (xs ++ p ∷ ys) ≡ pairs_of held xs ++ (held p ++ pairs_of held ys)
  whole = flat_cut held xs (p ∷ ys)

  pub value_in_leaf : value_of key (pairs_of held (xs ++ p ∷ ys)) ≡ value_of key (held p)
  value_in_leaf =
      ap (value_of key) whole ∙ value_behind key (pairs_of held xs) (held p ++ pairs_of held ys) pairs_below ∙ value_before key (held p)
      (pairs_of held ys) pairs_above

  -- a leaf that is edited, and no other
  module _ (new : ℕ → List Pair) (left : AreAlike held new xs) (right : AreAlike held new ys) where
    pub puts_in_leaf : (value : List ℕ) → new p ≡ with_pair key value (held p)
        → pairs_of new (xs ++ p ∷ ys) ≡ with_pair key value (pairs_of held (xs ++ p ∷ ys))
    puts_in_leaf value is =
        flat_cut new xs (p ∷ ys)
        ∙ ap (λ l. l ++ (new p ++ pairs_of new ys)) (alike_flat held new xs left)
        ∙ ap (λ l. pairs_of held xs ++ (new p ++ l)) (alike_flat held new ys right)
        ∙ ap (λ l. pairs_of held xs ++ (l ++ pairs_of held ys)) is
        ∙ ap (λ l. pairs_of held xs ++ l) (sym (with_before key value (held p) (pairs_of held ys) pairs_above))
        ∙ sym (with_behind key value (pairs_of held xs) (held p ++ pairs_of held ys) pairs_below)
        ∙ ap (with_pair key value) (sym whole)

    pub removes_in_leaf : new p ≡ without_key key (held p) → pairs_of new (xs ++ p ∷ ys) ≡ without_key key (pairs_of held (xs ++ p ∷ ys))
    removes_in_leaf is =
        flat_cut new xs (p ∷ ys)
        ∙ ap (λ l. l ++ (new p ++ pairs_of new ys)) (alike_flat held new xs left)
        ∙ ap (λ l. pairs_of held xs ++ (new p ++ l)) (alike_flat held new ys right)
        ∙ ap (λ l. pairs_of held xs ++ (l ++ pairs_of held ys)) is
        ∙ ap (λ l. pairs_of held xs ++ l) (sym (without_before key (held p) (pairs_of held ys) pairs_above))
        ∙ sym (without_behind key (pairs_of held xs) (held p ++ pairs_of held ys) pairs_below)
        ∙ ap (without_key key) (sym whole)

-- ---- the edited leaf is a leaf

all_with : (P : List ℕ → Type 0) (key value : List ℕ) (pairs : List Pair) → P key → AllByRecursion (λ (pair : Pair). P pair.0) pairs
    → AllByRecursion (λ (pair : Pair). P pair.0) (with_pair key value pairs)
all_with P key value [] one all = (one, tt)
all_with P key value (pair ∷ pairs) one all = go (key_cmp key pair.0) (all_with P key value pairs one all.1) where
  go : (o : Ordering) → AllByRecursion (λ (other : Pair). P other.0) (with_pair key value pairs)
      → AllByRecursion (λ (other : Pair). P other.0) (match_ordering o ((key, value) ∷ pair ∷ pairs) ((pair.0, value) ∷ pairs)
      (pair ∷ with_pair key value pairs))
  go Less rest = (one, all)
  go Equal rest = all
  go Greater rest = (all.0, rest)

all_without : (P : List ℕ → Type 0) (key : List ℕ) (pairs : List Pair) → AllByRecursion (λ (pair : Pair). P pair.0) pairs
    → AllByRecursion (λ (pair : Pair). P pair.0) (without_key key pairs)
all_without P key [] all = tt
all_without P key (pair ∷ pairs) all = go (is_eq (key_cmp key pair.0)) (all_without P key pairs all.1) where
  go : (b : Bool) → AllByRecursion (λ (other : Pair). P other.0) (without_key key pairs)
      → AllByRecursion (λ (other : Pair). P other.0) (cond b pairs (pair ∷ without_key key pairs))
  go true rest = all.1
  go false rest = (all.0, rest)

leaf_with : (node : Node) (pairs : List Pair) (key value : List ℕ) → IsLeaf node pairs → IsFrom node.low key → IsUnder node.high key
    → IsLeaf node (with_pair key value pairs)
leaf_with node pairs key value leaf from under = record {
  room = leaf.room;
  from = all_with (IsFrom node.low) key value pairs from leaf.from;
  under = all_with (IsUnder node.high) key value pairs under leaf.under;
  rising = rising_with key value pairs leaf.rising;
}

leaf_without : (node : Node) (pairs : List Pair) (key : List ℕ) → IsLeaf node pairs → IsLeaf node (without_key key pairs)
leaf_without node pairs key leaf = record {
  room = leaf.room;
  from = all_without (IsFrom node.low) key pairs leaf.from;
  under = all_without (IsUnder node.high) key pairs leaf.under;
  rising = rising_without key pairs leaf.rising;
}

pub leaves_room : (node : ℕ → Node) (held : ℕ → List Pair) (xs : List ℕ) → AreLeaves node held xs → HaveRoom node xs
leaves_room node held [] leaves = tt
leaves_room node held (x ∷ xs) leaves = (leaves.0.room, leaves_room node held xs leaves.1)

one_edited : (node : ℕ → Node) (held new : ℕ → List Pair) (xs ys : List ℕ) (p : ℕ) → AreAlike held new xs → AreAlike held new ys
    → (IsLeaf (node p) (held p) → IsLeaf (node p) (new p)) → AreLeaves node held (xs ++ p ∷ ys) → AreLeaves node new (xs ++ p ∷ ys)
one_edited node held new [] ys p left right here leaves = (here leaves.0, rest ys right leaves.1) where
  rest : (ys : List ℕ) → AreAlike held new ys → AreLeaves node held ys → AreLeaves node new ys
  rest [] right leaves = tt
  rest (y ∷ ys) right leaves = (subst (λ l. IsLeaf (node y) l) (sym right.0) leaves.0, rest ys right.1 leaves.1)
one_edited node held new (x ∷ xs) ys p left right here leaves =
    (subst (λ l. IsLeaf (node x) l) (sym left.0) leaves.0, one_edited node held new xs ys p left.1 right here leaves.1)

-- ---- the leaf that holds the key is edited

module _ (node : ℕ → Node) (held new : ℕ → List Pair) (leaves : List ℕ) (key : List ℕ) (p : ℕ)
    (row : IsRow node First leaves Last 0) (are : AreLeaves node held leaves) (holds : Holds node leaves key p) where
  row' : IsRow node First (holds.xs ++ p ∷ holds.ys) Last 0
  row' = subst (λ l. IsRow node First l Last 0) holds.whole row

  are' : AreLeaves node held (holds.xs ++ p ∷ holds.ys)
  are' = subst (λ l. AreLeaves node held l) holds.whole are

  module _ (edit : List Pair → List Pair) (edited : IsEdited edit p held new) where
    left : AreAlike held new holds.xs
    left =
        others_alike held new p holds.xs edited.others (others_before node First Last 0 holds.xs holds.ys p row'
        (leaves_room node held (holds.xs ++ p ∷ holds.ys) are'))

    right : AreAlike held new holds.ys
    right =
        others_alike held new p holds.ys edited.others (others_behind node First Last 0 holds.xs holds.ys p row'
        (leaves_room node held (holds.xs ++ p ∷ holds.ys) are'))

  pub put_edits : (value : List ℕ) → IsEdited (with_pair key value) p held new
      → (pairs_of new leaves ≡ with_pair key value (pairs_of held leaves)) × AreLeaves node new leaves
  put_edits value edited = (
    ap (pairs_of new) holds.whole
        ∙ puts_in_leaf node held holds.xs holds.ys p key row' are' holds.from holds.under new (left (with_pair key value) edited)
        (right (with_pair key value) edited) value edited.here
        ∙ ap (λ l. with_pair key value (pairs_of held l)) (sym holds.whole),
    subst (λ l. AreLeaves node new l) (sym holds.whole)
        (one_edited node held new holds.xs holds.ys p (left (with_pair key value) edited) (right (with_pair key value) edited)
        (λ leaf. subst (λ l. IsLeaf (node p) l) (sym edited.here) (leaf_with (node p) (held p) key value leaf holds.from holds.under)) are'),
  )

  pub removal_edits : IsEdited (without_key key) p held new → (pairs_of new leaves ≡ without_key key (pairs_of held leaves)) × AreLeaves node new leaves
  removal_edits edited = (
    ap (pairs_of new) holds.whole
        ∙ removes_in_leaf node held holds.xs holds.ys p key row' are' holds.from holds.under new (left (without_key key) edited)
        (right (without_key key) edited) edited.here
        ∙ ap (λ l. without_key key (pairs_of held l)) (sym holds.whole),
    subst (λ l. AreLeaves node new l) (sym holds.whole)
        (one_edited node held new holds.xs holds.ys p (left (without_key key) edited) (right (without_key key) edited)
        (λ leaf. subst (λ l. IsLeaf (node p) l) (sym edited.here) (leaf_without (node p) (held p) key leaf)) are'),
  )

  pub value_read : value_of key (pairs_of held leaves) ≡ value_of key (held p)
  value_read = ap (λ l. value_of key (pairs_of held l)) holds.whole ∙ value_in_leaf node held holds.xs holds.ys p key row' are' holds.from holds.under
