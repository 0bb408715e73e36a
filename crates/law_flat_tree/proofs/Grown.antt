-- A split of a page at any level, of the levels as a whole: inner pages, leaves and pairs.
use Rattle.std.proofs.Common.{◌≡◌, ◌⊎◌, inl, inr, ℕ, List, [], ◌∷◌, ◌++◌, refl, sym, ◌∙◌, ap, subst}
use Rattle.law_flat_tree.proofs.Halves.{alike_leaves, split_leaves, merge_leaves}
use Rattle.law_flat_tree.proofs.Rows.{flat_shared, alike_flat, alike_back}
use Rattle.law_flat_tree.specs.Levels.{Fence, Node, AreAlike, Splits, Merges, Raises, AreLevelsAlike}
use Rattle.law_flat_tree.specs.Leaves.{IsLeaf, AreLeaves, pairs_of}
use Rattle.entries.specs.Pairs.{Pair}
use Rattle.law_flat_tree.specs.Descents.{BeginsAt, AreInner, AreAllInner, leaves_of}

abbrev IsNoLevel : List (List ℕ) → Type 0
IsNoLevel [] = Unit {0}
IsNoLevel (x ∷ xs) = ⊥

alike_inner : (old new : ℕ → Node) (xs : List ℕ) → AreAlike old new xs → AreInner old xs → AreInner new xs
alike_inner old new [] alike inner = tt
alike_inner old new (x ∷ xs) alike inner = (subst (λ (n : Node). BeginsAt n.low n.entries) (sym alike.0) inner.0, alike_inner old new xs alike.1 inner.1)

pub alike_all_inner : (old new : ℕ → Node) (levels : List (List ℕ)) → AreLevelsAlike old new levels → AreAllInner old levels → AreAllInner new levels
alike_all_inner old new [] alike inner = tt
alike_all_inner old new (level ∷ []) alike inner = tt
alike_all_inner old new (level ∷ lower ∷ levels) alike inner =
    (alike_inner old new level alike.0 inner.0, alike_all_inner old new (lower ∷ levels) alike.1 inner.1)

-- an entry more behind an entry
begins_still : (low : Fence) (e f : List (Fence × ℕ)) (one other : Fence × ℕ) → BeginsAt low (e ++ one ∷ f) → BeginsAt low (e ++ one ∷ other ∷ f)
begins_still low [] f one other begins = begins
begins_still low (entry ∷ e) f one other begins = begins

changed_inner : (old new : ℕ → Node) (xs ys zs : List ℕ) (p : ℕ) → AreAlike old new xs
    → (BeginsAt (old p).low (old p).entries → AreInner old ys → AreInner new zs) → AreInner old (xs ++ p ∷ ys) → AreInner new (xs ++ zs)
changed_inner old new [] ys zs p left here inner = here inner.0 inner.1
changed_inner old new (x ∷ xs) ys zs p left here inner =
    (subst (λ (n : Node). BeginsAt n.low n.entries) (sym left.0) inner.0, changed_inner old new xs ys zs p left.1 here inner.1)

module _ (old new : ℕ → Node) (cs ds xs ys : List ℕ) (u p q : ℕ) (fence : Fence) (e f : List (Fence × ℕ))
    (splits : Splits old new cs ds xs ys u p q fence e f) where
  parents_inner : AreInner old (cs ++ u ∷ ds) → AreInner new (cs ++ u ∷ ds)
  parents_inner = changed_inner old new cs ds (u ∷ ds) u splits.left_parents (λ begins inner. (
    subst (λ (n : Node). BeginsAt n.low n.entries) (sym splits.parent)
        (begins_still (old u).low e f ((old p).low, p) (fence, q) (subst (λ l. BeginsAt (old u).low l) splits.entries begins)),
    alike_inner old new ds splits.right_parents inner,
  ))

  -- where the halves are inner pages, each begins with a child
  halves_inner : BeginsAt (new p).low (new p).entries → BeginsAt (new q).low (new q).entries → AreInner old (xs ++ p ∷ ys) → AreInner new (xs ++ p ∷ q ∷ ys)
  halves_inner lower upper =
      changed_inner old new xs ys (p ∷ q ∷ ys) p splits.left_pages (λ begins inner. (lower, (upper, alike_inner old new ys splits.right_pages inner)))

  pub split_all_inner : (tops lows : List (List ℕ)) → AreLevelsAlike old new tops → AreLevelsAlike old new lows
      → BeginsAt (new p).low (new p).entries ⊎ (lows ≡ []) → BeginsAt (new q).low (new q).entries ⊎ (lows ≡ [])
      → AreAllInner old (tops ++ (cs ++ u ∷ ds) ∷ (xs ++ p ∷ ys) ∷ lows) → AreAllInner new (tops ++ (cs ++ u ∷ ds) ∷ (xs ++ p ∷ q ∷ ys) ∷ lows)
  split_all_inner [] [] over under lower upper inner = (parents_inner inner.0, tt)
  split_all_inner [] (low ∷ lows) over under (inl lower) (inl upper) inner =
      (parents_inner inner.0, (halves_inner lower upper inner.1.0, alike_all_inner old new (low ∷ lows) under inner.1.1))
  split_all_inner [] (low ∷ lows) over under (inr none) upper inner = absurd (subst (λ l. IsNoLevel l) (sym none) tt)
  split_all_inner [] (low ∷ lows) over under (inl lower) (inr none) inner = absurd (subst (λ l. IsNoLevel l) (sym none) tt)
  split_all_inner (top ∷ []) lows over under lower upper inner = (alike_inner old new top over.0 inner.0, split_all_inner [] lows tt under lower upper inner.1)
  split_all_inner (top ∷ next ∷ tops) lows over under lower upper inner =
      (alike_inner old new top over.0 inner.0, split_all_inner (next ∷ tops) lows over.1 under lower upper inner.1)

-- ---- a merge

begins_less : (low : Fence) (e f : List (Fence × ℕ)) (one other : Fence × ℕ) → BeginsAt low (e ++ one ∷ other ∷ f) → BeginsAt low (e ++ one ∷ f)
begins_less low [] f one other begins = begins
begins_less low (entry ∷ e) f one other begins = begins

begins_longer : (low : Fence) (e f : List (Fence × ℕ)) → BeginsAt low e → BeginsAt low (e ++ f)
begins_longer low [] f begins = absurd begins
begins_longer low (entry ∷ e) f begins = begins

inner_rest : (node : ℕ → Node) (x : ℕ) (xs : List ℕ) → AreInner node (x ∷ xs) → AreInner node xs
inner_rest node x xs inner = inner.1

module _ (old new : ℕ → Node) (cs ds xs ys : List ℕ) (u p q : ℕ) (fence : Fence) (e f : List (Fence × ℕ))
    (merges : Merges old new cs ds xs ys u p q fence e f) where
  merged_parents : AreInner old (cs ++ u ∷ ds) → AreInner new (cs ++ u ∷ ds)
  merged_parents = changed_inner old new cs ds (u ∷ ds) u (alike_back new old cs merges.left_parents) (λ begins inner. (
    subst (λ l. BeginsAt (new u).low l) (sym merges.entries)
        (begins_less (new u).low e f ((new p).low, p) (fence, q) (subst (λ (n : Node). BeginsAt n.low n.entries) merges.parent begins)),
    alike_inner old new ds (alike_back new old ds merges.right_parents) inner,
  ))

  -- the merged page begins as the left one did
  merged_page : AreInner old (xs ++ p ∷ q ∷ ys) → AreInner new (xs ++ p ∷ ys)
  merged_page = changed_inner old new xs (q ∷ ys) (p ∷ ys) p (alike_back new old xs merges.left_pages) (λ begins inner. (
    subst (λ l. BeginsAt (new p).low l) merges.halves.shared
        (begins_longer (new p).low (old p).entries (old q).entries (subst (λ low. BeginsAt low (old p).entries) merges.halves.lower_low begins)),
    alike_inner old new ys (alike_back new old ys merges.right_pages) (inner_rest old q ys inner),
  ))

  pub merge_all_inner : (tops lows : List (List ℕ)) → AreLevelsAlike old new tops → AreLevelsAlike old new lows
      → AreAllInner old (tops ++ (cs ++ u ∷ ds) ∷ (xs ++ p ∷ q ∷ ys) ∷ lows) → AreAllInner new (tops ++ (cs ++ u ∷ ds) ∷ (xs ++ p ∷ ys) ∷ lows)
  merge_all_inner [] [] over under inner = (merged_parents inner.0, tt)
  merge_all_inner [] (low ∷ lows) over under inner = (merged_parents inner.0, (merged_page inner.1.0, alike_all_inner old new (low ∷ lows) under inner.1.1))
  merge_all_inner (top ∷ []) lows over under inner = (alike_inner old new top over.0 inner.0, merge_all_inner [] lows tt under inner.1)
  merge_all_inner (top ∷ next ∷ tops) lows over under inner = (alike_inner old new top over.0 inner.0, merge_all_inner (next ∷ tops) lows over.1 under inner.1)

-- ---- a raise

-- a root that got a level below it, and the page that has its content
pub raise_all_inner : (old new : ℕ → Node) (root page : ℕ) (levels : List (List ℕ)) → Raises old new root page → AreLevelsAlike old new levels
    → AreAllInner old ((root ∷ []) ∷ levels) → AreAllInner new ((root ∷ []) ∷ (page ∷ []) ∷ levels)
raise_all_inner old new root page [] raises alike inner = ((subst (λ (n : Node). BeginsAt n.low n.entries) (sym raises.root_is) refl, tt), tt)
raise_all_inner old new root page (lower ∷ levels) raises alike inner = (
  (subst (λ (n : Node). BeginsAt n.low n.entries) (sym raises.root_is) refl, tt),
  ((subst (λ (n : Node). BeginsAt n.low n.entries) (sym raises.moved) inner.0.0, tt), alike_all_inner old new (lower ∷ levels) alike inner.1),
)

-- a root that was the one leaf: its pairs are the new page's
pub raise_leaf : (old new : ℕ → Node) (held kept : ℕ → List Pair) (root page : ℕ) → Raises old new root page → kept page ≡ held root
    → AreLeaves old held (root ∷ []) → AreLeaves new kept (page ∷ []) × (pairs_of kept (page ∷ []) ≡ pairs_of held (root ∷ []))
raise_leaf old new held kept root page raises same leaves =
    ((subst (λ (n : Node). IsLeaf n (kept page)) (sym raises.moved) (subst (λ l. IsLeaf (old root) l) (sym same) leaves.0), tt), ap (λ l. l ++ []) same)

-- ---- the leaves of levels of which one is changed

pub leaves_last : (tops : List (List ℕ)) (upper level : List ℕ) → leaves_of (tops ++ upper ∷ level ∷ []) ≡ level
leaves_last [] upper level = refl
leaves_last (top ∷ []) upper level = refl
leaves_last (top ∷ next ∷ tops) upper level = leaves_last (next ∷ tops) upper level

leaves_below : (tops : List (List ℕ)) (upper level low : List ℕ) (lows : List (List ℕ))
    → leaves_of (tops ++ upper ∷ level ∷ low ∷ lows) ≡ leaves_of (low ∷ lows)
leaves_below [] upper level low lows = refl
leaves_below (top ∷ []) upper level low lows = refl
leaves_below (top ∷ next ∷ tops) upper level low lows = leaves_below (next ∷ tops) upper level low lows

-- A leaf is split: the pairs are the same.
pub split_leaf_level : (old new : ℕ → Node) (held kept : ℕ → List Pair) (tops : List (List ℕ)) (upper xs ys : List ℕ) (p q : ℕ)
    → AreAlike old new xs → AreAlike held kept xs → AreAlike old new ys → AreAlike held kept ys → IsLeaf (new p) (kept p) → IsLeaf (new q) (kept q)
    → kept p ++ kept q ≡ held p
    → AreLeaves old held (leaves_of (tops ++ upper ∷ (xs ++ p ∷ ys) ∷ []))
    → AreLeaves new kept (leaves_of (tops ++ upper ∷ (xs ++ p ∷ q ∷ ys) ∷ [])) ×
    (pairs_of kept (leaves_of (tops ++ upper ∷ (xs ++ p ∷ q ∷ ys) ∷ [])) ≡ pairs_of held (leaves_of (tops ++ upper ∷ (xs ++ p ∷ ys) ∷ [])))
split_leaf_level old new held kept tops upper xs ys p q left left' right right' lower above shared leaves =
    let before = leaves_last tops upper (xs ++ p ∷ ys) in
    let after = leaves_last tops upper (xs ++ p ∷ q ∷ ys) in (
      subst (λ l. AreLeaves new kept l) (sym after)
          (split_leaves old new held kept xs ys p q left left' right right' lower above (subst (λ l. AreLeaves old held l) before leaves)),
      ap (pairs_of kept) after ∙ flat_shared held kept xs ys p q left' right' shared ∙ ap (pairs_of held) (sym before),
    )

-- Two leaves are merged: the pairs are the same.
pub merge_leaf_level : (old new : ℕ → Node) (held kept : ℕ → List Pair) (tops : List (List ℕ)) (upper xs ys : List ℕ) (p q : ℕ)
    → AreAlike old new xs → AreAlike held kept xs → AreAlike old new ys → AreAlike held kept ys → IsLeaf (new p) (kept p) → held p ++ held q ≡ kept p
    → AreLeaves old held (leaves_of (tops ++ upper ∷ (xs ++ p ∷ q ∷ ys) ∷ []))
    → AreLeaves new kept (leaves_of (tops ++ upper ∷ (xs ++ p ∷ ys) ∷ [])) ×
    (pairs_of kept (leaves_of (tops ++ upper ∷ (xs ++ p ∷ ys) ∷ [])) ≡ pairs_of held (leaves_of (tops ++ upper ∷ (xs ++ p ∷ q ∷ ys) ∷ [])))
merge_leaf_level old new held kept tops upper xs ys p q left left' right right' one shared leaves =
    let before = leaves_last tops upper (xs ++ p ∷ q ∷ ys) in
    let after = leaves_last tops upper (xs ++ p ∷ ys) in (
      subst (λ l. AreLeaves new kept l) (sym after)
          (merge_leaves old new held kept xs ys p q left left' right right' one (subst (λ l. AreLeaves old held l) before leaves)),
      ap (pairs_of kept) after ∙ sym (flat_shared kept held xs ys p q (alike_back held kept xs left') (alike_back held kept ys right') shared) ∙ ap
          (pairs_of held) (sym before),
    )

pub leaves_alike : {A : Type 0} (old new : ℕ → A) (levels : List (List ℕ)) → AreLevelsAlike old new levels → AreAlike old new (leaves_of levels)
leaves_alike old new [] alike = tt
leaves_alike old new (level ∷ []) alike = alike.0
leaves_alike old new (level ∷ low ∷ levels) alike = leaves_alike old new (low ∷ levels) alike.1

-- An inner page is split or two are merged: the leaves are the same.
pub inner_level : (old new : ℕ → Node) (held kept : ℕ → List Pair) (tops : List (List ℕ)) (upper level other low : List ℕ) (lows : List (List ℕ))
    → AreLevelsAlike old new (low ∷ lows) → AreLevelsAlike held kept (low ∷ lows)
    → AreLeaves old held (leaves_of (tops ++ upper ∷ level ∷ low ∷ lows))
    → AreLeaves new kept (leaves_of (tops ++ upper ∷ other ∷ low ∷ lows)) ×
    (pairs_of kept (leaves_of (tops ++ upper ∷ other ∷ low ∷ lows)) ≡ pairs_of held (leaves_of (tops ++ upper ∷ level ∷ low ∷ lows)))
inner_level old new held kept tops upper level other low lows one same leaves =
    let before = leaves_below tops upper level low lows in
    let after = leaves_below tops upper other low lows in (
      subst (λ l. AreLeaves new kept l) (sym after)
          (alike_leaves old new held kept (leaves_of (low ∷ lows)) (leaves_alike old new (low ∷ lows) one) (leaves_alike held kept (low ∷ lows) same)
          (subst (λ l. AreLeaves old held l) before leaves)),
      ap (pairs_of kept) after ∙ alike_flat held kept (leaves_of (low ∷ lows)) (leaves_alike held kept (low ∷ lows) same) ∙ ap (pairs_of held) (sym before),
    )
