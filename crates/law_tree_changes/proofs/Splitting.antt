-- A sound tree of which a page was split is sound.
use Rattle.std.proofs.Common.{◌≡◌, ◌≢◌, ◌⊎◌, inl, inr, ℕ, List, [], ◌∷◌, ◌++◌, length, true, false, eqb, sym, ◌∙◌, ap, subst}
use Rattle.std.specs.List.{AllByRecursion}
use Rattle.std.proofs.lemmas.Bool.Decides.{eqb_tells}
use Rattle.law_flat_tree.specs.Levels.{Fence}
use Rattle.law_flat_tree.specs.PageSplits.{StandsNowhere, IsChildAt, SplitsPage, IsSplitTree}
use Rattle.law_flat_tree.specs.Trees.{IsTree, levels_from, all_pairs}
use Rattle.law_flat_tree.proofs.Apart.{each_of, one_more}
use Rattle.law_flat_tree.proofs.PageSplits.{page_is_split}
use Rattle.law_flat_tree.proofs.Reading.{one_shape}
use Rattle.btree.specs.declared.tree.Tree.{Tree}
use Rattle.btree.specs.Sound.{lows_of, levels_of, IsTreePage, IsSoundTree}
use Rattle.law_tree_changes.specs.Splits.{IsSoundSplit}
use Rattle.law_tree_changes.proofs.Alike.{page_stays}

-- what holds of one page and of each other page holds of all
pub of_all : (P : ℕ → Type 0) (p : ℕ) → P p → ((q : ℕ) → q ≢ p → P q) → (q : ℕ) → P q
of_all P p here others q = go (eqb_tells q p) where
  go : ((eqb q p ≡ true) × (q ≡ p)) ⊎ ((eqb q p ≡ false) × (q ≢ p)) → P q
  go (inl same) = subst P (sym same.1) here
  go (inr other) = others q other.1

-- one page more on one level
pub with_page : (P : ℕ → Type 0) (tops : List (List ℕ)) (upper xs ys : List ℕ) (under : List (List ℕ)) (p q : ℕ) → P q
    → AllByRecursion (AllByRecursion P) (tops ++ upper ∷ (xs ++ p ∷ ys) ∷ under)
    → AllByRecursion (AllByRecursion P) (tops ++ upper ∷ (xs ++ p ∷ q ∷ ys) ∷ under)
with_page P [] upper xs ys under p q new all = (all.0, (one_more P xs ys p q new all.1.0, all.1.1))
with_page P (top ∷ tops) upper xs ys under p q new all = (all.0, with_page P tops upper xs ys under p q new all.1)

module _ (tree : Tree) (old new : ℕ → List ℕ) (tops : List (List ℕ)) (upper lower : List ℕ) (under : List (List ℕ)) (key : List ℕ) (u p q i : ℕ)
    (e f : List (Fence × ℕ)) (sound : IsSoundTree tree old) (long : length key ≡ tree.key_len)
    (child : IsChildAt tree.key_len old (levels_of tree old) tops upper lower under u p e f)
    (free : StandsNowhere q (levels_of tree old)) (splits : SplitsPage key i (length e) u p q old new) where
  pub split : IsSplitTree (length key) old new tree.root (lows_of tree old) tops upper lower under p q
  split =
      page_is_split old new tree.root (lows_of tree old) tops upper lower under key u p q i e f
      (subst (λ n. IsTree n old tree.root (lows_of tree old)) (sym long) sound.stands)
      (subst (λ n. IsChildAt n old (levels_of tree old) tops upper lower under u p e f) (sym long) child) free splits

  stands : IsTree tree.key_len new tree.root split.lows
  stands = subst (λ n. IsTree n new tree.root split.lows) long split.tree

  lows_are : lows_of tree new ≡ split.lows
  lows_are = sym (one_shape tree.key_len new tree.root split.lows stands)

  pub split_levels : levels_of tree new ≡ tops ++ upper ∷ (split.xs ++ p ∷ q ∷ split.ys) ∷ under
  split_levels = ap (levels_from tree.root) lows_are ∙ split.stands

  page_new : IsTreePage tree new u → IsTreePage tree new p → IsTreePage tree new q → (r : ℕ) → IsTreePage tree old r → IsTreePage tree new r
  page_new one two three =
      let Q : ℕ → Type 0 = λ r. IsTreePage tree old r → IsTreePage tree new r in
      of_all Q u (λ _. one) (λ r not_u. of_all (λ s. s ≢ u → Q s) p (λ _ _. two)
      (λ s not_p not_u'. of_all (λ t. t ≢ u → t ≢ p → Q t) q (λ _ _ _. three)
      (λ t not_q not_u'' not_p' is. page_stays tree old new t (splits.others t not_u'' not_p' not_q) is) s not_u' not_p) r not_u)

  pub sound_split : IsTreePage tree new u → IsTreePage tree new p → IsTreePage tree new q → IsSoundSplit tree old new tops upper lower under p q
  sound_split one two three =
      let before : levels_of tree old ≡ tops ++ upper ∷ (split.xs ++ p ∷ split.ys) ∷ under =
      child.at ∙ ap (λ l. tops ++ upper ∷ l ∷ under) split.stood in
      let each : AllByRecursion (AllByRecursion (IsTreePage tree new)) (tops ++ upper ∷ (split.xs ++ p ∷ split.ys) ∷ under) =
      each_of (AllByRecursion (IsTreePage tree old)) (AllByRecursion (IsTreePage tree new))
      (each_of (IsTreePage tree old) (IsTreePage tree new) (page_new one two three)) (tops ++ upper ∷ (split.xs ++ p ∷ split.ys) ∷ under)
      (subst (λ l. AllByRecursion (AllByRecursion (IsTreePage tree old)) l) before sound.each) in
      record {
        xs = split.xs;
        ys = split.ys;
        stood = split.stood;
        sound =
            record {
              stands = subst (λ l. IsTree tree.key_len new tree.root l) (sym lows_are) stands;
              each =
                  subst (λ l. AllByRecursion (AllByRecursion (IsTreePage tree new)) l) (sym split_levels)
                  (with_page (IsTreePage tree new) tops upper split.xs split.ys under p q three each);
            };
        levels = split_levels;
        pairs =
            ap (all_pairs tree.key_len new tree.root) lows_are
            ∙ subst (λ n. all_pairs n new tree.root split.lows ≡ all_pairs n old tree.root (lows_of tree old)) long split.pairs;
      }
