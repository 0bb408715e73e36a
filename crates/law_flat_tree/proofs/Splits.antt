-- A split keeps the two levels.
use Rattle.std.proofs.Common.{◌≡◌, ℕ, List, [], ◌∷◌, ◌++◌, sym, ◌∙◌, ap, subst, append_assoc}
use Rattle.std.proofs.lemmas.List.{map-append}
use Rattle.law_flat_tree.specs.Levels.{Fence, Node, IsRow, heads, children, AreAlike, IsAbove, Splits, Merges, AreLevels, AreLevelsAlike}
use Rattle.law_flat_tree.specs.Levels.Fence.{First, Last}
use Rattle.law_flat_tree.proofs.Rows.{cut, joined, alike_row, alike_heads, alike_children, children_cut, alike_part, alike_back, flat_shared, alike_above}
use Rattle.law_flat_tree.proofs.Rows.{alike_levels}

module _ (old new : ℕ → Node) (cs ds xs ys : List ℕ) (u p q : ℕ) (fence : Fence) (e f : List (Fence × ℕ))
    (splits : Splits old new cs ds xs ys u p q fence e f) (above : IsAbove old (cs ++ u ∷ ds) (xs ++ p ∷ ys))
    (before : heads old xs ≡ children old cs ++ e) (behind : heads old ys ≡ f ++ children old ds) where
  up_kept : IsRow new First (cs ++ u ∷ ds) Last 0
  up_kept =
      let parts = cut old First Last 0 cs (u ∷ ds) above.up in
      joined new First parts.0 Last 0 cs (u ∷ ds) (alike_row old new First parts.0 u cs splits.left_parents parts.1) (
        ap (λ (n : Node). n.low) splits.parent ∙ parts.2.0,
        ap (λ (n : Node). n.right) splits.parent ∙ parts.2.1,
        subst (λ (n : Node). IsRow new n.high ds Last 0) (sym splits.parent) (alike_row old new (old u).high Last 0 ds splits.right_parents parts.2.2),
      )

  down_kept : IsRow new First (xs ++ p ∷ q ∷ ys) Last 0
  down_kept =
      let parts = cut old First Last 0 xs (p ∷ ys) above.down in
      joined new First parts.0 Last 0 xs (p ∷ q ∷ ys) (alike_row old new First parts.0 p xs splits.left_pages parts.1) (
        splits.halves.lower_low ∙ parts.2.0,
        splits.halves.lower_right,
        subst (λ h. IsRow new h (q ∷ ys) Last 0) (sym splits.halves.lower_high) (
          splits.halves.upper_low,
          splits.halves.upper_right ∙ parts.2.1,
          subst (λ h. IsRow new h ys Last 0) (sym splits.halves.upper_high) (alike_row old new (old p).high Last 0 ys splits.right_pages parts.2.2),
        ),
      )

  upper_side : children new (cs ++ u ∷ ds) ≡ children old cs ++ ((e ++ ((old p).low, p) ∷ (fence, q) ∷ f) ++ children old ds)
  upper_side =
      children_cut new cs (u ∷ ds)
      ∙ ap (λ l. l ++ children new (u ∷ ds)) (alike_children old new cs splits.left_parents)
      ∙ ap (λ l. children old cs ++ ((new u).entries ++ l)) (alike_children old new ds splits.right_parents)
      ∙ ap (λ (n : Node). children old cs ++ (n.entries ++ children old ds)) splits.parent

  lower_side : heads new (xs ++ p ∷ q ∷ ys) ≡ (children old cs ++ e) ++ (((old p).low, p) ∷ (fence, q) ∷ (f ++ children old ds))
  lower_side =
      map-append (λ page. ((new page).low, page)) xs (p ∷ q ∷ ys)
      ∙ ap (λ l. l ++ heads new (p ∷ q ∷ ys)) (alike_heads old new xs splits.left_pages ∙ before)
      ∙ ap (λ l. (children old cs ++ e) ++ (((new p).low, p) ∷ ((new q).low, q) ∷ l)) (alike_heads old new ys splits.right_pages ∙ behind)
      ∙ ap (λ low. (children old cs ++ e) ++ ((low, p) ∷ ((new q).low, q) ∷ (f ++ children old ds))) splits.halves.lower_low
      ∙ ap (λ low. (children old cs ++ e) ++ (((old p).low, p) ∷ (low, q) ∷ (f ++ children old ds))) splits.halves.upper_low

  pub split_keeps : IsAbove new (cs ++ u ∷ ds) (xs ++ p ∷ q ∷ ys)
  split_keeps = record {
    up = up_kept;
    down = down_kept;
    are_children =
        upper_side
        ∙ ap (λ l. children old cs ++ l) (append_assoc e (((old p).low, p) ∷ (fence, q) ∷ f) (children old ds))
        ∙ sym (append_assoc (children old cs) e (((old p).low, p) ∷ (fence, q) ∷ (f ++ children old ds)))
        ∙ sym lower_side;
  }

-- The level below a page that is split: what it had is shared.
pub split_keeps_below : (old new : ℕ → Node) (cs ds xs ys : List ℕ) (u p q : ℕ) (fence : Fence) (e f : List (Fence × ℕ)) (lower : List ℕ)
    → Splits old new cs ds xs ys u p q fence e f → IsRow new First (xs ++ p ∷ q ∷ ys) Last 0 → AreAlike old new lower → IsAbove old (xs ++ p ∷ ys) lower
    → IsAbove new (xs ++ p ∷ q ∷ ys) lower
split_keeps_below old new cs ds xs ys u p q fence e f lower splits row alike above = record {
  up = row;
  down = alike_row old new First Last 0 lower alike above.down;
  are_children =
      flat_shared (λ page. (old page).entries) (λ page. (new page).entries) xs ys p q
      (alike_part (λ (n : Node). n.entries) old new xs splits.left_pages)
      (alike_part (λ (n : Node). n.entries) old new ys splits.right_pages) splits.halves.shared
      ∙ above.are_children ∙ sym (alike_heads old new lower alike);
}

module _ (old new : ℕ → Node) (cs ds xs ys : List ℕ) (u p q : ℕ) (fence : Fence) (e f : List (Fence × ℕ))
    (merges : Merges old new cs ds xs ys u p q fence e f) (above : IsAbove old (cs ++ u ∷ ds) (xs ++ p ∷ q ∷ ys))
    (before : heads old xs ≡ children old cs ++ e) (behind : heads old ys ≡ f ++ children old ds) where
  left_parents : AreAlike old new cs
  left_parents = alike_back new old cs merges.left_parents

  right_parents : AreAlike old new ds
  right_parents = alike_back new old ds merges.right_parents

  left_pages : AreAlike old new xs
  left_pages = alike_back new old xs merges.left_pages

  right_pages : AreAlike old new ys
  right_pages = alike_back new old ys merges.right_pages

  up_merged : IsRow new First (cs ++ u ∷ ds) Last 0
  up_merged =
      let parts = cut old First Last 0 cs (u ∷ ds) above.up in
      joined new First parts.0 Last 0 cs (u ∷ ds) (alike_row old new First parts.0 u cs left_parents parts.1) (
        sym (ap (λ (n : Node). n.low) merges.parent) ∙ parts.2.0,
        sym (ap (λ (n : Node). n.right) merges.parent) ∙ parts.2.1,
        subst (λ h. IsRow new h ds Last 0) (ap (λ (n : Node). n.high) merges.parent) (alike_row old new (old u).high Last 0 ds right_parents parts.2.2),
      )

  down_merged : IsRow new First (xs ++ p ∷ ys) Last 0
  down_merged =
      let parts = cut old First Last 0 xs (p ∷ q ∷ ys) above.down in
      joined new First parts.0 Last 0 xs (p ∷ ys) (alike_row old new First parts.0 p xs left_pages parts.1) (
        sym merges.halves.lower_low ∙ parts.2.0,
        sym merges.halves.upper_right ∙ parts.2.2.1,
        subst (λ h. IsRow new h ys Last 0) merges.halves.upper_high (alike_row old new (old q).high Last 0 ys right_pages parts.2.2.2),
      )

  upper_merged : children new (cs ++ u ∷ ds) ≡ children old cs ++ ((e ++ ((new p).low, p) ∷ f) ++ children old ds)
  upper_merged =
      children_cut new cs (u ∷ ds)
      ∙ ap (λ l. l ++ children new (u ∷ ds)) (alike_children old new cs left_parents)
      ∙ ap (λ l. children old cs ++ ((new u).entries ++ l)) (alike_children old new ds right_parents)
      ∙ ap (λ l. children old cs ++ (l ++ children old ds)) merges.entries

  lower_merged : heads new (xs ++ p ∷ ys) ≡ (children old cs ++ e) ++ (((new p).low, p) ∷ (f ++ children old ds))
  lower_merged =
      map-append (λ page. ((new page).low, page)) xs (p ∷ ys)
      ∙ ap (λ l. l ++ heads new (p ∷ ys)) (alike_heads old new xs left_pages ∙ before)
      ∙ ap (λ l. (children old cs ++ e) ++ (((new p).low, p) ∷ l)) (alike_heads old new ys right_pages ∙ behind)

  pub merge_keeps : IsAbove new (cs ++ u ∷ ds) (xs ++ p ∷ ys)
  merge_keeps = record {
    up = up_merged;
    down = down_merged;
    are_children =
        upper_merged
        ∙ ap (λ l. children old cs ++ l) (append_assoc e (((new p).low, p) ∷ f) (children old ds))
        ∙ sym (append_assoc (children old cs) e (((new p).low, p) ∷ (f ++ children old ds)))
        ∙ sym lower_merged;
  }

pub merge_keeps_below : (old new : ℕ → Node) (cs ds xs ys : List ℕ) (u p q : ℕ) (fence : Fence) (e f : List (Fence × ℕ)) (lower : List ℕ)
    → Merges old new cs ds xs ys u p q fence e f → IsRow new First (xs ++ p ∷ ys) Last 0 → AreAlike old new lower → IsAbove old (xs ++ p ∷ q ∷ ys) lower
    → IsAbove new (xs ++ p ∷ ys) lower
merge_keeps_below old new cs ds xs ys u p q fence e f lower merges row alike above = record {
  up = row;
  down = alike_row old new First Last 0 lower alike above.down;
  are_children =
      sym (flat_shared (λ page. (new page).entries) (λ page. (old page).entries) xs ys p q
      (alike_part (λ (n : Node). n.entries) new old xs merges.left_pages)
      (alike_part (λ (n : Node). n.entries) new old ys merges.right_pages) merges.halves.shared)
      ∙ above.are_children ∙ sym (alike_heads old new lower alike);
}

-- ---- a split of a page at any level keeps all levels

module _ (old new : ℕ → Node) (cs ds xs ys : List ℕ) (u p q : ℕ) (fence : Fence) (e f : List (Fence × ℕ))
    (splits : Splits old new cs ds xs ys u p q fence e f)
    (before : heads old xs ≡ children old cs ++ e) (behind : heads old ys ≡ f ++ children old ds) where
  same_heads : heads new (cs ++ u ∷ ds) ≡ heads old (cs ++ u ∷ ds)
  same_heads =
      map-append (λ page. ((new page).low, page)) cs (u ∷ ds)
      ∙ ap (λ l. l ++ heads new (u ∷ ds)) (alike_heads old new cs splits.left_parents)
      ∙ ap (λ l. heads old cs ++ (((new u).low, u) ∷ l)) (alike_heads old new ds splits.right_parents)
      ∙ ap (λ (n : Node). heads old cs ++ ((n.low, u) ∷ heads old ds)) splits.parent
      ∙ sym (map-append (λ page. ((old page).low, page)) cs (u ∷ ds))

  levels_below : (lows : List (List ℕ)) → IsAbove old (cs ++ u ∷ ds) (xs ++ p ∷ ys) → AreLevelsAlike old new lows → AreLevels old ((xs ++ p ∷ ys) ∷ lows)
      → AreLevels new ((xs ++ p ∷ q ∷ ys) ∷ lows)
  levels_below [] above alike stand = (split_keeps old new cs ds xs ys u p q fence e f splits above before behind).down
  levels_below (low ∷ lows) above alike stand = (
    split_keeps_below old new cs ds xs ys u p q fence e f low splits
        (split_keeps old new cs ds xs ys u p q fence e f splits above before behind).down alike.0 stand.0,
    alike_levels old new (low ∷ lows) alike stand.1,
  )

  pub split_levels : (tops lows : List (List ℕ)) → AreLevelsAlike old new tops → AreLevelsAlike old new lows
      → AreLevels old (tops ++ (cs ++ u ∷ ds) ∷ (xs ++ p ∷ ys) ∷ lows) → AreLevels new (tops ++ (cs ++ u ∷ ds) ∷ (xs ++ p ∷ q ∷ ys) ∷ lows)
  split_levels [] lows over under stand =
      (split_keeps old new cs ds xs ys u p q fence e f splits stand.0 before behind, levels_below lows stand.0 under stand.1)
  split_levels (top ∷ []) lows over under stand =
      let kept = split_keeps old new cs ds xs ys u p q fence e f splits stand.1.0 before behind in (
        record {
          up = alike_row old new First Last 0 top over.0 stand.0.up;
          down = kept.up;
          are_children = alike_children old new top over.0 ∙ stand.0.are_children ∙ sym same_heads;
        },
        split_levels [] lows tt under stand.1,
      )
  split_levels (top ∷ next ∷ tops) lows over under stand =
      (alike_above old new top next over.0 over.1.0 stand.0, split_levels (next ∷ tops) lows over.1 under stand.1)

-- ---- and so does a merge

module _ (old new : ℕ → Node) (cs ds xs ys : List ℕ) (u p q : ℕ) (fence : Fence) (e f : List (Fence × ℕ))
    (merges : Merges old new cs ds xs ys u p q fence e f)
    (before : heads old xs ≡ children old cs ++ e) (behind : heads old ys ≡ f ++ children old ds) where
  merged_heads : heads new (cs ++ u ∷ ds) ≡ heads old (cs ++ u ∷ ds)
  merged_heads =
      map-append (λ page. ((new page).low, page)) cs (u ∷ ds)
      ∙ ap (λ l. l ++ heads new (u ∷ ds)) (alike_heads old new cs (alike_back new old cs merges.left_parents))
      ∙ ap (λ l. heads old cs ++ (((new u).low, u) ∷ l)) (alike_heads old new ds (alike_back new old ds merges.right_parents))
      ∙ ap (λ (n : Node). heads old cs ++ ((n.low, u) ∷ heads old ds)) (sym merges.parent)
      ∙ sym (map-append (λ page. ((old page).low, page)) cs (u ∷ ds))

  merged_below : (lows : List (List ℕ)) → IsAbove old (cs ++ u ∷ ds) (xs ++ p ∷ q ∷ ys) → AreLevelsAlike old new lows
      → AreLevels old ((xs ++ p ∷ q ∷ ys) ∷ lows) → AreLevels new ((xs ++ p ∷ ys) ∷ lows)
  merged_below [] above alike stand = (merge_keeps old new cs ds xs ys u p q fence e f merges above before behind).down
  merged_below (low ∷ lows) above alike stand = (
    merge_keeps_below old new cs ds xs ys u p q fence e f low merges
        (merge_keeps old new cs ds xs ys u p q fence e f merges above before behind).down alike.0 stand.0,
    alike_levels old new (low ∷ lows) alike stand.1,
  )

  pub merge_levels : (tops lows : List (List ℕ)) → AreLevelsAlike old new tops → AreLevelsAlike old new lows
      → AreLevels old (tops ++ (cs ++ u ∷ ds) ∷ (xs ++ p ∷ q ∷ ys) ∷ lows) → AreLevels new (tops ++ (cs ++ u ∷ ds) ∷ (xs ++ p ∷ ys) ∷ lows)
  merge_levels [] lows over under stand =
      (merge_keeps old new cs ds xs ys u p q fence e f merges stand.0 before behind, merged_below lows stand.0 under stand.1)
  merge_levels (top ∷ []) lows over under stand =
      let kept = merge_keeps old new cs ds xs ys u p q fence e f merges stand.1.0 before behind in (
        record {
          up = alike_row old new First Last 0 top over.0 stand.0.up;
          down = kept.up;
          are_children = alike_children old new top over.0 ∙ stand.0.are_children ∙ sym merged_heads;
        },
        merge_levels [] lows tt under stand.1,
      )
  merge_levels (top ∷ next ∷ tops) lows over under stand =
      (alike_above old new top next over.0 over.1.0 stand.0, merge_levels (next ∷ tops) lows over.1 under stand.1)
