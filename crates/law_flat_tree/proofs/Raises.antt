-- A tree gets one level more.
use Rattle.std.proofs.Common.{ℕ, List, [], ◌∷◌, ◌++◌, sym, ◌∙◌, ap}
use Rattle.law_flat_tree.specs.Levels.{Node, IsRow, AreAlike, IsAbove, Raises, AreLevels, AreLevelsAlike}
use Rattle.law_flat_tree.specs.Levels.Fence.{First, Last}
use Rattle.law_flat_tree.proofs.Rows.{alike_row, alike_heads, alike_levels}

-- the root and the page that has its content
pub raise_top : (old new : ℕ → Node) (root page : ℕ) → Raises old new root page → IsRow old First (root ∷ []) Last 0 → IsAbove new (root ∷ []) (page ∷ [])
raise_top old new root page raises row = record {
  up = (ap (λ (n : Node). n.low) raises.root_is ∙ row.0, ap (λ (n : Node). n.right) raises.root_is ∙ row.1, ap (λ (n : Node). n.high) raises.root_is ∙ row.2);
  down = (ap (λ (n : Node). n.low) raises.moved ∙ row.0, ap (λ (n : Node). n.right) raises.moved ∙ row.1, ap (λ (n : Node). n.high) raises.moved ∙ row.2);
  are_children =
      ap (λ (n : Node). n.entries ++ []) raises.root_is
      ∙ ap (λ low. (low, page) ∷ []) (sym (ap (λ (n : Node). n.low) raises.moved));
}

-- that page and the level below the root before
pub raise_below : (old new : ℕ → Node) (root page : ℕ) (lower : List ℕ) → Raises old new root page → AreAlike old new lower → IsAbove old (root ∷ []) lower
    → IsAbove new (page ∷ []) lower
raise_below old new root page lower raises alike above = record {
  up = (
    ap (λ (n : Node). n.low) raises.moved ∙ above.up.0,
    ap (λ (n : Node). n.right) raises.moved ∙ above.up.1,
    ap (λ (n : Node). n.high) raises.moved
        ∙ above.up.2,
  );
  down = alike_row old new First Last 0 lower alike above.down;
  are_children = ap (λ (n : Node). n.entries ++ []) raises.moved ∙ above.are_children ∙ sym (alike_heads old new lower alike);
}

pub raise_keeps : (old new : ℕ → Node) (root page : ℕ) (levels : List (List ℕ)) → Raises old new root page → AreLevelsAlike old new levels
    → AreLevels old ((root ∷ []) ∷ levels) → AreLevels new ((root ∷ []) ∷ (page ∷ []) ∷ levels)
raise_keeps old new root page [] raises alike stand =
    let top = raise_top old new root page raises stand in
    (top, top.down)
raise_keeps old new root page (lower ∷ levels) raises alike stand = (
  raise_top old new root page raises stand.0.up,
  (
    raise_below old new root page lower raises alike.0 stand.0,
    alike_levels old new
        (lower ∷ levels) alike stand.1,
  ),
)
