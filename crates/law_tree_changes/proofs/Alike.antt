-- What is seen alike of a tree's pages makes the same tree.
use Rattle.std.proofs.Common.{◌≡◌, ◌≢◌, ℕ, List, [], ◌∷◌, length, take, map, sym, ◌∙◌, ap, subst}
use Rattle.std.specs.List.{AllByRecursion}
use Rattle.entries.specs.Pairs.{Pair}
use Rattle.page_format.specs.Words.{level_of, index_of, record_len_of, records_of}
use Rattle.page_format.specs.Shape.{HasTreeFields, AreRising}
use Rattle.law_flat_tree.specs.Levels.{Node, AreAlike, AreLevelsAlike}
use Rattle.law_flat_tree.specs.Leaves.{IsLeaf, AreOthers, AreLeaves}
use Rattle.law_flat_tree.specs.Descents.{leaves_of}
use Rattle.law_flat_tree.specs.Pages.{node_of, leaf_pairs}
use Rattle.law_flat_tree.specs.PageSplits.{StandsNowhere}
use Rattle.law_flat_tree.specs.Trees.{IsTree, nodes, pairs_in, levels_from, AreNumbered, all_pairs}
use Rattle.law_flat_tree.proofs.Rows.{alike_part, alike_flat, alike_levels}
use Rattle.law_flat_tree.proofs.Apart.{each_of, levels_alike_by}
use Rattle.law_flat_tree.proofs.Grown.{alike_all_inner, leaves_alike}
use Rattle.law_flat_tree.proofs.Reading.{one_shape}
use Rattle.btree.specs.declared.tree.Tree.{Tree}
use Rattle.btree.specs.Layout.{width_of}
use Rattle.btree.specs.Sound.{lows_of, levels_of, IsTreePage, IsSoundTree, tree_pairs}

levels_part : {A B : Type 0} (part : A → B) (old new : ℕ → A) (levels : List (List ℕ)) → AreLevelsAlike old new levels
    → AreLevelsAlike (λ page. part (old page)) (λ page. part (new page)) levels
levels_part part old new [] alike = tt
levels_part part old new (level ∷ levels) alike = (alike_part part old new level alike.0, levels_part part old new levels alike.1)

alike_leaves : (old new : ℕ → Node) (held kept : ℕ → List Pair) (xs : List ℕ) → AreAlike old new xs → AreAlike held kept xs → AreLeaves old held xs
    → AreLeaves new kept xs
alike_leaves old new held kept [] nodes' pairs' leaves = tt
alike_leaves old new held kept (x ∷ xs) nodes' pairs' leaves = (
  subst (λ node. IsLeaf node (kept x)) (sym nodes'.0) (subst (λ pairs. IsLeaf (old x) pairs) (sym pairs'.0) leaves.0),
  alike_leaves old new held kept xs nodes'.1 pairs'.1 leaves.1,
)

same_numbers : (k : ℕ) (old new : ℕ → List ℕ) (xs : List ℕ) → AreAlike old new xs → AllByRecursion (λ page. level_of (old page) ≡ k) xs
    → AllByRecursion (λ page. level_of (new page) ≡ k) xs
same_numbers k old new [] alike all = tt
same_numbers k old new (x ∷ xs) alike all = (ap level_of alike.0 ∙ all.0, same_numbers k old new xs alike.1 all.1)

alike_numbered : (old new : ℕ → List ℕ) (levels : List (List ℕ)) → AreLevelsAlike old new levels → AreNumbered old levels → AreNumbered new levels
alike_numbered old new [] alike numbered = tt
alike_numbered old new (level ∷ levels) alike numbered =
    (same_numbers (length levels) old new level alike.0 numbered.0, alike_numbered old new levels alike.1 numbered.1)

module _ (n : ℕ) (old new : ℕ → List ℕ) (root : ℕ) (lows : List (List ℕ)) (alike : AreLevelsAlike old new (levels_from root lows)) where
  pub tree_stays : IsTree n old root lows → IsTree n new root lows
  tree_stays tree =
      let same_nodes = levels_part (node_of n) old new (levels_from root lows) alike in
      record {
        levels = alike_levels (nodes n old) (nodes n new) (levels_from root lows) same_nodes tree.levels;
        inner = alike_all_inner (nodes n old) (nodes n new) (levels_from root lows) same_nodes tree.inner;
        leaves =
            alike_leaves (nodes n old) (nodes n new) (pairs_in n old) (pairs_in n new) (leaves_of (levels_from root lows))
            (leaves_alike (nodes n old) (nodes n new) (levels_from root lows) same_nodes)
            (alike_part (leaf_pairs n) old new (leaves_of (levels_from root lows)) (leaves_alike old new (levels_from root lows) alike)) tree.leaves;
        numbered = alike_numbered old new (levels_from root lows) alike tree.numbered;
      }

  pub pairs_stay : all_pairs n new root lows ≡ all_pairs n old root lows
  pairs_stay =
      alike_flat (pairs_in n old) (pairs_in n new) (leaves_of (levels_from root lows))
      (alike_part (leaf_pairs n) old new (leaves_of (levels_from root lows)) (leaves_alike old new (levels_from root lows) alike))

-- ---- pages by themselves

pub page_stays : (tree : Tree) (old new : ℕ → List ℕ) (page : ℕ) → new page ≡ old page → IsTreePage tree old page → IsTreePage tree new page
page_stays tree old new page same is = record {
  some = is.some;
  within = is.within;
  fields = subst HasTreeFields (sym same) is.fields;
  index = ap index_of same ∙ is.index;
  width = subst (λ b. record_len_of b ≡ width_of tree (level_of b)) (sym same) is.width;
  rising = subst (λ b. AreRising (map (take tree.key_len) (records_of b))) (sym same) is.rising;
}

row_stays : (tree : Tree) (old new : ℕ → List ℕ) (xs : List ℕ) → AreAlike old new xs → AllByRecursion (IsTreePage tree old) xs
    → AllByRecursion (IsTreePage tree new) xs
row_stays tree old new [] alike all = tt
row_stays tree old new (x ∷ xs) alike all = (page_stays tree old new x alike.0 all.0, row_stays tree old new xs alike.1 all.1)

rows_stay : (tree : Tree) (old new : ℕ → List ℕ) (levels : List (List ℕ)) → AreLevelsAlike old new levels
    → AllByRecursion (AllByRecursion (IsTreePage tree old)) levels → AllByRecursion (AllByRecursion (IsTreePage tree new)) levels
rows_stay tree old new [] alike all = tt
rows_stay tree old new (level ∷ levels) alike all = (row_stays tree old new level alike.0 all.0, rows_stay tree old new levels alike.1 all.1)

module _ (tree : Tree) (old new : ℕ → List ℕ) (sound : IsSoundTree tree old) (alike : AreLevelsAlike old new (levels_of tree old)) where
  stands : IsTree tree.key_len new tree.root (lows_of tree old)
  stands = tree_stays tree.key_len old new tree.root (lows_of tree old) alike sound.stands

  lows_same : lows_of tree new ≡ lows_of tree old
  lows_same = sym (one_shape tree.key_len new tree.root (lows_of tree old) stands)

  pub levels_same : levels_of tree new ≡ levels_of tree old
  levels_same = ap (levels_from tree.root) lows_same

  pub sound_stays : IsSoundTree tree new
  sound_stays = record {
    stands = subst (λ l. IsTree tree.key_len new tree.root l) (sym lows_same) stands;
    each =
        subst (λ l. AllByRecursion (AllByRecursion (IsTreePage tree new)) l) (sym levels_same) (rows_stay tree old new (levels_of tree old) alike sound.each);
  }

  pub same_pairs : tree_pairs tree new ≡ tree_pairs tree old
  same_pairs = ap (all_pairs tree.key_len new tree.root) lows_same ∙ pairs_stay tree.key_len old new tree.root (lows_of tree old) alike

-- ---- trees of two indexes

module _ (tree other : Tree) (pages : ℕ → List ℕ) (differ : tree.index ≢ other.index) where
  row_apart : (x : ℕ) → index_of (pages x) ≡ other.index → (ys : List ℕ) → AllByRecursion (IsTreePage tree pages) ys → AreOthers x ys
  row_apart x is ys all =
      each_of (IsTreePage tree pages) (λ y. y ≢ x) (λ y page same. differ (sym page.index ∙ ap (λ z. index_of (pages z)) same ∙ is)) ys all

  nowhere : (x : ℕ) → index_of (pages x) ≡ other.index → (levels : List (List ℕ)) → AllByRecursion (AllByRecursion (IsTreePage tree pages)) levels
      → StandsNowhere x levels
  nowhere x is levels all = each_of (AllByRecursion (IsTreePage tree pages)) (λ level. AreOthers x level) (row_apart x is) levels all

  pub apart : IsSoundTree tree pages → IsSoundTree other pages
      → AllByRecursion (AllByRecursion (λ page. StandsNowhere page (levels_of tree pages))) (levels_of other pages)
  apart sound also =
      each_of (AllByRecursion (IsTreePage other pages)) (AllByRecursion (λ page. StandsNowhere page (levels_of tree pages)))
      (each_of (IsTreePage other pages) (λ page. StandsNowhere page (levels_of tree pages)) (λ x page. nowhere x page.index (levels_of tree pages) sound.each))
      (levels_of other pages) also.each

  pub other_alike : (new : ℕ → List ℕ) → IsSoundTree tree pages → IsSoundTree other pages
      → ((page : ℕ) → StandsNowhere page (levels_of tree pages) → new page ≡ pages page) → AreLevelsAlike pages new (levels_of other pages)
  other_alike new sound also kept =
      levels_alike_by (λ page. StandsNowhere page (levels_of tree pages)) pages new kept (levels_of other pages) (apart sound also)
