-- A placed tree stays where a page outside it is given back.
use Rattle.std.proofs.Common.{◌≡◌, ◌≢◌, inl, inr, ℕ, suc, ◌<◌, List, ◌++◌, ◌∷◌, [], length, sym, ◌∙◌, subst, arith}
use Rattle.std.specs.List.{AllByRecursion}
use Rattle.page_format.specs.Words.{records_of}
use Rattle.stored_pages.specs.Words.{u32_at}
use Rattle.law_flat_tree.specs.Levels.{AreLevelsAlike}
use Rattle.law_flat_tree.specs.PageSplits.{StandsNowhere}
use Rattle.law_flat_tree.proofs.Apart.{with_both, levels_alike_by, behind_of}
use Rattle.law_flat_tree.proofs.PageSplits.{all_in}
use Rattle.btree.specs.declared.tree.Tree.{Tree}
use Rattle.btree.specs.Sound.{levels_of, IsTreePage, tree_pairs}
use Rattle.law_tree_changes.proofs.Alike.{levels_same, sound_stays, same_pairs}
use Rattle.btree_split.specs.Placed.{BeginsLow, IsPlacedPage, IsPlacedTree}
use Rattle.btree_merge.specs.Merges.{IsAboveLeaves, MergesLeaves, FreesPage, LosesPage, Shrinks}
use Rattle.btree_split.specs.Halves.{child_under}
use Rattle.btree_merge.proofs.Merging as merging

module _ (tree : Tree) (old new : ℕ → List ℕ) (page : ℕ) (placed : IsPlacedTree tree old) (nowhere : StandsNowhere page (levels_of tree old))
    (far : 20 < page) (frees : FreesPage page old new) where
  abbrev n : ℕ
  n = tree.key_len

  -- a page of the tree, which isn't this one
  abbrev IsKept : ℕ → Type 0
  IsKept r = IsTreePage tree old r × IsPlacedPage n old r × (r ≢ page)

  all_kept : AllByRecursion (AllByRecursion IsKept) (levels_of tree old)
  all_kept =
      with_both (AllByRecursion (IsTreePage tree old)) (AllByRecursion (λ r. IsPlacedPage n old r × (r ≢ page))) (AllByRecursion IsKept)
      (λ level one other. with_both (IsTreePage tree old) (λ r. IsPlacedPage n old r × (r ≢ page)) IsKept (λ r is was. (is, was.0, was.1)) level one other)
      (levels_of tree old) placed.whole.sound.each
      (with_both (AllByRecursion (IsPlacedPage n old)) (AllByRecursion (λ r. r ≢ page)) (AllByRecursion (λ r. IsPlacedPage n old r × (r ≢ page)))
      (λ level one other. with_both (IsPlacedPage n old) (λ r. r ≢ page) (λ r. IsPlacedPage n old r × (r ≢ page)) (λ r is was. (is, was)) level one other)
      (levels_of tree old) placed.placed nowhere)

  stays : (r : ℕ) → IsKept r → new r ≡ old r
  stays r is = frees.others r is.2 (inr (omega (arith, is.1.beyond)))

  alike : AreLevelsAlike old new (levels_of tree old)
  alike = levels_alike_by IsKept old new stays (levels_of tree old) all_kept

  pub freed_levels : levels_of tree new ≡ levels_of tree old
  freed_levels = levels_same tree old new placed.whole.sound alike

  pub freed_pairs : tree_pairs tree new ≡ tree_pairs tree old
  freed_pairs = same_pairs tree old new placed.whole.sound alike

  zero_same : new 0 ≡ old 0
  zero_same = frees.others 0 (λ is. omega (arith, is, far)) (inl (omega arith))

  placed_page : (r : ℕ) → IsKept r → IsPlacedPage n new r
  placed_page r is = record {
    beyond = is.1.beyond;
    used = frees.marks r is.0.within is.2 ∙ is.1.used;
    first = subst (λ b. BeginsLow n b) (sym (stays r is)) is.1.first;
  }

  on_levels : (P : ℕ → Type 0) → AllByRecursion (AllByRecursion P) (levels_of tree old) → AllByRecursion (AllByRecursion P) (levels_of tree new)
  on_levels P all = subst (λ l. AllByRecursion (AllByRecursion P) l) (sym freed_levels) all

  pub freed_placed : IsPlacedTree tree new
  freed_placed = record {
    whole =
        record {
          sound = sound_stays tree old new placed.whole.sound alike;
          counted =
              subst (λ b. AllByRecursion (AllByRecursion (λ r. r < u32_at 44 b)) (levels_of tree new)) (sym zero_same)
              (on_levels (λ r. r < u32_at 44 (old 0)) placed.whole.counted);
        };
    reserved = λ other few. frees.marks other (omega (arith, few)) (λ same. omega (arith, same, few, far)) ∙ placed.reserved other few;
    placed =
        on_levels (IsPlacedPage n new)
        (with_both (AllByRecursion IsKept) (AllByRecursion IsKept) (AllByRecursion (IsPlacedPage n new))
        (λ level one other. with_both IsKept IsKept (IsPlacedPage n new) (λ r is _. placed_page r is) level one other) (levels_of tree old) all_kept all_kept);
  }

module _ (tree : Tree) (old between new : ℕ → List ℕ) (u j : ℕ) (placed : IsPlacedTree tree old) (above : IsAboveLeaves tree old u)
    (inside : suc j < length (records_of (old u)))
    (merges : MergesLeaves j u (child_under tree.key_len old u j) (child_under tree.key_len old u (suc j)) old between)
    (frees : FreesPage (child_under tree.key_len old u (suc j)) between new) where
  abbrev p : ℕ
  p = child_under tree.key_len old u j

  abbrev q : ℕ
  q = child_under tree.key_len old u (suc j)

  lost : LosesPage tree q old between
  lost = merging.loses tree old u placed above j inside between merges

  beyond : 20 < q
  beyond = (merging.leaf_placed tree old u placed above (suc j) inside).beyond

  levels : levels_of tree new ≡ levels_of tree between
  levels = freed_levels tree between new q lost.placed lost.gone beyond frees

  -- a page outside the tree is none of the three
  not_parent : (page : ℕ) → StandsNowhere page (levels_of tree old) → page ≢ u
  not_parent page nowhere same =
      all_in (λ r. r ≢ page) above.cs above.ds u
      (behind_of (AllByRecursion (λ r. r ≢ page)) above.tops ((above.cs ++ u ∷ above.ds) ∷ above.leaves ∷ [])
      (subst (λ l. StandsNowhere page l) above.at nowhere)).0 (sym same)

  not_leaf : (k page : ℕ) → k < length (records_of (old u)) → StandsNowhere page (levels_of tree old) → page ≢ child_under tree.key_len old u k
  not_leaf k page within nowhere same = merging.of_leaf tree old u placed above k within (λ r. r ≢ page) nowhere (sym same)

  pub shrinks : Shrinks tree q old new
  shrinks = record {
    loses = record {
      placed = freed_placed tree between new q lost.placed lost.gone beyond frees;
      same_pairs = freed_pairs tree between new q lost.placed lost.gone beyond frees ∙ lost.same_pairs;
      stood = lost.stood;
      gone = subst (λ l. StandsNowhere q l) (sym levels) lost.gone;
      keep = λ page apart nowhere. lost.keep page apart (subst (λ l. StandsNowhere page l) levels nowhere);
      rest = λ page nowhere. subst (λ l. StandsNowhere page l) (sym levels) (lost.rest page nowhere);
    };
    free = frees.free;
    marks = λ page few apart. frees.marks page few apart ∙ merging.mark_same tree old u placed above j inside between merges page few;
    blank = frees.blank;
    others = λ page nowhere far.
        frees.others page (not_leaf (suc j) page inside nowhere) far
        ∙ merges.others page (not_parent page nowhere) (not_leaf j page (omega (arith, inside)) nowhere);
  }
