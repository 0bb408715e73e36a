-- A sound tree whose root got a level below it is sound.
use Rattle.std.proofs.Common.{◌≡◌, ◌≢◌, ℕ, List, [], ◌∷◌, sym, ◌∙◌, ap, subst}
use Rattle.std.specs.List.{AllByRecursion}
use Rattle.law_flat_tree.specs.PageSplits.{StandsNowhere}
use Rattle.law_flat_tree.specs.PageRaises.{RaisesRoot}
use Rattle.law_flat_tree.specs.Trees.{IsTree, levels_from, all_pairs}
use Rattle.law_flat_tree.proofs.Apart.{each_of}
use Rattle.law_flat_tree.proofs.PageRaises.{raised_tree, raised_pairs}
use Rattle.law_flat_tree.proofs.Reading.{one_shape}
use Rattle.btree.specs.declared.tree.Tree.{Tree}
use Rattle.btree.specs.Sound.{lows_of, levels_of, IsTreePage, IsSoundTree, tree_pairs}
use Rattle.law_tree_changes.proofs.Alike.{page_stays}
use Rattle.law_tree_changes.proofs.Splitting.{of_all}

module _ (tree : Tree) (old new : ℕ → List ℕ) (page : ℕ) (sound : IsSoundTree tree old) (free : StandsNowhere page (levels_of tree old))
    (raises : RaisesRoot tree.key_len tree.root page old new) where
  stands : IsTree tree.key_len new tree.root ((page ∷ []) ∷ lows_of tree old)
  stands = raised_tree tree.key_len old new tree.root page (lows_of tree old) sound.stands free raises

  lows_are : lows_of tree new ≡ (page ∷ []) ∷ lows_of tree old
  lows_are = sym (one_shape tree.key_len new tree.root ((page ∷ []) ∷ lows_of tree old) stands)

  pub raised_levels : levels_of tree new ≡ (tree.root ∷ []) ∷ (page ∷ []) ∷ lows_of tree old
  raised_levels = ap (levels_from tree.root) lows_are

  pub raised_same_pairs : tree_pairs tree new ≡ tree_pairs tree old
  raised_same_pairs =
      ap (all_pairs tree.key_len new tree.root) lows_are
      ∙ raised_pairs tree.key_len old new tree.root page (lows_of tree old) sound.stands free raises

  page_new : IsTreePage tree new tree.root → IsTreePage tree new page → (r : ℕ) → IsTreePage tree old r → IsTreePage tree new r
  page_new one two =
      let Q : ℕ → Type 0 = λ r. IsTreePage tree old r → IsTreePage tree new r in
      of_all Q tree.root (λ _. one) (λ r not_root. of_all (λ s. s ≢ tree.root → Q s) page (λ _ _. two)
      (λ s not_page not_root' is. page_stays tree old new s (raises.others s not_root' not_page) is) r not_root)

  pub sound_raised : IsTreePage tree new tree.root → IsTreePage tree new page → IsSoundTree tree new
  sound_raised one two = record {
    stands = subst (λ l. IsTree tree.key_len new tree.root l) (sym lows_are) stands;
    each =
        subst (λ l. AllByRecursion (AllByRecursion (IsTreePage tree new)) l) (sym raised_levels) (
          (one, tt),
          (
            (two, tt),
            each_of (AllByRecursion (IsTreePage tree old)) (AllByRecursion (IsTreePage tree new))
                (each_of (IsTreePage tree old) (IsTreePage tree new) (page_new one two)) (lows_of tree old) sound.each.1,
          ),
        );
  }
