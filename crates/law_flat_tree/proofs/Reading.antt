-- What a tree's pages tell a search: where a level stands, where `find` leads, and what the leaf of a key has.
use Rattle.std.proofs.Common.{◌≡◌, ℕ, ◌<◌, Bool, true, false, if◌then◌else◌, ◌==◌, List, [], ◌∷◌, ◌++◌, length, take, map, slice_index_or, refl, sym, ◌∙◌}
use Rattle.std.proofs.Common.{ap, subst, arith}
use Rattle.std.specs.Option.{option_or}
use Rattle.entries.specs.Pairs.{AreRising, value_of, first_from, first_after}
use Rattle.page_format.specs.declared.records.Found.{Found}
use Rattle.page_format.specs.Found.{IsFound}
use Rattle.page_format.specs.Shape.{AreRising as DoKeysRise}
use Rattle.page_format.specs.Words.{level_of, low_of, right_of, records_of}
use Rattle.law_flat_tree.specs.Levels.{Fence, Node, IsRow, IsAbove, AreLevels, head_or, heads, children, named, levels_under}
use Rattle.law_flat_tree.specs.Levels.Fence.{First, Last}
use Rattle.law_flat_tree.specs.Leaves.{first_held}
use Rattle.law_flat_tree.specs.Descents.{BeginsAt, AreInner, AreAllInner, Holds, LeadsTo, Chooses, leaves_of}
use Rattle.law_flat_tree.specs.Pages.{low_fence, child_of, entries_of, child_place, leaf_pairs}
use Rattle.law_flat_tree.specs.Trees.{IsTree, nodes, pairs_in, levels_from, all_pairs}
use Rattle.law_flat_tree.proofs.Rows.{cut}
use Rattle.law_flat_tree.proofs.Leaves.{rise}
use Rattle.law_flat_tree.proofs.Edits as edits
use Rattle.law_flat_tree.proofs.Following as walks
use Rattle.law_flat_tree.proofs.Descents as descents
use Rattle.law_flat_tree.proofs.Chosen.{find_chooses}
use Rattle.law_flat_tree.proofs.Trees.{top_row, bottom_row}

named_heads : (node : ℕ → Node) (pages : List ℕ) → named (heads node pages) ≡ pages
named_heads node [] = refl
named_heads node (page ∷ pages) = ap (λ l. page ∷ l) (named_heads node pages)

levels_are : (node : ℕ → Node) (level : List ℕ) (lows : List (List ℕ)) → AreLevels node (level ∷ lows) → lows ≡ levels_under (length lows) node level
levels_are node level [] stand = refl
levels_are node level (low ∷ lows) stand =
    let same : named (children node level) ≡ low = ap named stand.0.are_children ∙ named_heads node low in
    ap (λ l. low ∷ l) (levels_are node low lows stand.1) ∙ ap (λ l. l ∷ levels_under (length lows) node l) (sym same)

-- the levels are read off the pages
pub one_shape : (n : ℕ) (pages : ℕ → List ℕ) (root : ℕ) (lows : List (List ℕ)) → IsTree n pages root lows
    → lows ≡ levels_under (level_of (pages root)) (nodes n pages) (root ∷ [])
one_shape n pages root lows tree =
    levels_are (nodes n pages) (root ∷ []) lows tree.levels ∙ ap (λ k. levels_under k (nodes n pages) (root ∷ [])) (sym tree.numbered.0.0)

-- one level and the next, among others
pub above_in : (node : ℕ → Node) (tops : List (List ℕ)) (upper lower : List ℕ) (under : List (List ℕ)) → AreLevels node (tops ++ upper ∷ lower ∷ under)
    → IsAbove node upper lower
above_in node [] upper lower under stand = stand.0
above_in node (top ∷ []) upper lower under stand = stand.1.0
above_in node (top ∷ next ∷ tops) upper lower under stand = above_in node (next ∷ tops) upper lower under stand.1

pub inner_in : (node : ℕ → Node) (tops : List (List ℕ)) (upper lower : List ℕ) (under : List (List ℕ)) → AreAllInner node (tops ++ upper ∷ lower ∷ under)
    → AreInner node upper
inner_in node [] upper lower under inner = inner.0
inner_in node (top ∷ []) upper lower under inner = inner.1.0
inner_in node (top ∷ next ∷ tops) upper lower under inner = inner_in node (next ∷ tops) upper lower under inner.1

pub page_inner : (node : ℕ → Node) (xs ys : List ℕ) (page : ℕ) → AreInner node (xs ++ page ∷ ys) → BeginsAt (node page).low (node page).entries
page_inner node [] ys page inner = inner.0
page_inner node (x ∷ xs) ys page inner = page_inner node xs ys page inner.1

pub root_holds : (n : ℕ) (pages : ℕ → List ℕ) (root : ℕ) (lows : List (List ℕ)) (key : List ℕ) → IsTree n pages root lows
    → Holds (nodes n pages) (root ∷ []) key root
root_holds n pages root lows key tree = descents.root_holds (nodes n pages) root key (top_row (nodes n pages) root lows tree.levels)

module _ (n : ℕ) (pages : ℕ → List ℕ) (root : ℕ) (lows : List (List ℕ)) (key : List ℕ) (tops under : List (List ℕ)) (upper lower : List ℕ) (page child : ℕ)
    (tree : IsTree n pages root lows) (at : levels_from root lows ≡ tops ++ upper ∷ lower ∷ under) (holds : Holds (nodes n pages) upper key page) where
  pub child_holds : LeadsTo (nodes n pages) key page child → Holds (nodes n pages) lower key child
  child_holds leads =
      descents.child_holds (nodes n pages) upper lower key page child
      (above_in (nodes n pages) tops upper lower under (subst (λ l. AreLevels (nodes n pages) l) at tree.levels))
      (inner_in (nodes n pages) tops upper lower under (subst (λ l. AreAllInner (nodes n pages) l) at tree.inner)) holds leads

-- a page with a first child has records, and they are its entries
has_entries : (n : ℕ) (low : Fence) (leaf : Bool) (rs : List (List ℕ)) → BeginsAt low (if leaf then [] else entries_of n low rs)
    → ((if leaf then [] else entries_of n low rs) ≡ entries_of n low rs) × (0 < length rs)
has_entries n low true rs begins = absurd begins
has_entries n low false [] begins = absurd begins
has_entries n low false (r ∷ rs) begins = (refl, omega arith)

pub find_leads : (pages : ℕ → List ℕ) (root : ℕ) (lows : List (List ℕ)) (key : List ℕ) (tops under : List (List ℕ)) (upper lower : List ℕ) (page : ℕ)
    (found : Found)
    → IsTree (length key) pages root lows → levels_from root lows ≡ tops ++ upper ∷ lower ∷ under → Holds (nodes (length key) pages) upper key page
    → DoKeysRise (map (take (length key)) (records_of (pages page))) → IsFound (records_of (pages page)) key found
    → LeadsTo (nodes (length key) pages) key page (child_of (length key) (slice_index_or (records_of (pages page)) (child_place found) []))
find_leads pages root lows key tops under upper lower page found tree at holds rising is =
    let n = length key in
    let node = nodes n pages in
    let inner : AreInner node (holds.xs ++ page ∷ holds.ys) =
    subst (λ l. AreInner node l) holds.whole (inner_in node tops upper lower under (subst (λ l. AreAllInner node l) at tree.inner)) in
    let has =
    has_entries n (low_fence (low_of (pages page))) (level_of (pages page) == 0) (records_of (pages page)) (page_inner node holds.xs holds.ys page inner) in
    subst (λ l. Chooses l key (child_of n (slice_index_or (records_of (pages page)) (child_place found) []))) (sym has.0)
    (find_chooses (low_fence (low_of (pages page))) (records_of (pages page)) key found is rising has.1 holds.from)

module _ (n : ℕ) (pages : ℕ → List ℕ) (root : ℕ) (lows : List (List ℕ)) where
  row : IsTree n pages root lows → IsRow (nodes n pages) First (leaves_of (levels_from root lows)) Last 0
  row tree = bottom_row (nodes n pages) (root ∷ []) lows tree.levels

  pub pairs_rise : IsTree n pages root lows → AreRising (all_pairs n pages root lows)
  pairs_rise tree = rise (nodes n pages) (pairs_in n pages) First Last 0 (leaves_of (levels_from root lows)) tree.leaves (row tree)

  pub right_neighbour : (xs ys : List ℕ) (leaf : ℕ) → IsTree n pages root lows → leaves_of (levels_from root lows) ≡ xs ++ leaf ∷ ys
      → right_of (pages leaf) ≡ head_or 0 ys
  right_neighbour xs ys leaf tree at = (cut (nodes n pages) First Last 0 xs (leaf ∷ ys) (subst (λ l. IsRow (nodes n pages) First l Last 0) at (row tree))).2.1

  module _ (key : List ℕ) (leaf : ℕ) (tree : IsTree n pages root lows) (holds : Holds (nodes n pages) (leaves_of (levels_from root lows)) key leaf) where
    pub value_read : value_of key (all_pairs n pages root lows) ≡ value_of key (leaf_pairs n (pages leaf))
    value_read =
        edits.value_read (nodes n pages) (pairs_in n pages) (pairs_in n pages) (leaves_of (levels_from root lows)) key leaf (row tree) tree.leaves holds

    pub seeking : first_from key (all_pairs n pages root lows) ≡ option_or (first_from key (leaf_pairs n (pages leaf))) (first_held (pairs_in n pages) holds.ys)
    seeking = walks.seeking (nodes n pages) (pairs_in n pages) (leaves_of (levels_from root lows)) key leaf (row tree) tree.leaves holds

    pub following : first_after key (all_pairs n pages root lows) ≡ option_or (first_after key (leaf_pairs n (pages leaf)))
        (first_held (pairs_in n pages) holds.ys)
    following = walks.following (nodes n pages) (pairs_in n pages) (leaves_of (levels_from root lows)) key leaf (row tree) tree.leaves holds
