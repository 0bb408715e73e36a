-- A placed tree stays where a page is taken.
use Rattle.std.proofs.Common.{◌≡◌, ◌≢◌, inr, inl, ℕ, ◌<◌, List, sym, ◌∙◌, ap, subst, arith}
use Rattle.std.specs.List.{AllByRecursion}
use Rattle.page_format.specs.Words.{low_of, high_of}
use Rattle.stored_pages.specs.Words.{u32_at}
use Rattle.law_flat_tree.specs.Levels.{Node, AreLevelsAlike}
use Rattle.law_flat_tree.specs.Leaves.{IsFrom, IsUnder}
use Rattle.law_flat_tree.specs.Descents.{Holds}
use Rattle.law_flat_tree.specs.Pages.{low_fence, high_fence}
use Rattle.law_flat_tree.specs.PageSplits.{StandsNowhere}
use Rattle.law_flat_tree.specs.Trees.{nodes}
use Rattle.law_flat_tree.proofs.Apart.{each_of, with_both, levels_alike_by}
use Rattle.law_flat_tree.proofs.PageSplits.{all_in}
use Rattle.space_map.specs.Map.{mark_of}
use Rattle.btree.specs.declared.tree.Tree.{Tree}
use Rattle.btree.specs.Sound.{levels_of, IsTreePage, tree_pairs}
use Rattle.law_tree_changes.proofs.Alike.{levels_same, sound_stays, same_pairs}
use Rattle.btree_split.specs.Placed.{BeginsLow, IsPlacedPage, IsPlacedTree}
use Rattle.btree_split.specs.Halves.{IsTakenFor}
use Rattle.btree_grow.specs.Taken.{TakesPage}

-- what holds of all pages of some levels holds of one that stands there
pub of_level : (P : ℕ → Type 0) (node : ℕ → Node) (level : List ℕ) (key : List ℕ) (page : ℕ) → Holds node level key page → AllByRecursion P level → P page
of_level P node level key page holds all = all_in P holds.xs holds.ys page (subst (λ l. AllByRecursion P l) holds.whole all)

-- a page that is as before holds what it held
pub holds_stays : (n : ℕ) (old new : ℕ → List ℕ) (level : List ℕ) (key : List ℕ) (page : ℕ) → new page ≡ old page → Holds (nodes n old) level key page
    → Holds (nodes n new) level key page
holds_stays n old new level key page same holds = record {
  xs = holds.xs;
  ys = holds.ys;
  whole = holds.whole;
  from = subst (λ b. IsFrom (low_fence (low_of b)) key) (sym same) holds.from;
  under = subst (λ b. IsUnder (high_fence (high_of b)) key) (sym same) holds.under;
}

module _ (tree : Tree) (old new : ℕ → List ℕ) (q : ℕ) (placed : IsPlacedTree tree old) (takes : TakesPage q old new) where
  abbrev n : ℕ
  n = tree.key_len

  pub page_apart : (r : ℕ) → IsPlacedPage n old r → r ≢ q
  page_apart r is same = omega (arith, is.used, takes.was_free, ap (mark_of old) same)

  pub page_stays : (r : ℕ) → IsPlacedPage n old r → new r ≡ old r
  page_stays r is = takes.others r (page_apart r is) (inr (omega (arith, is.beyond)))

  alike : AreLevelsAlike old new (levels_of tree old)
  alike = levels_alike_by (IsPlacedPage n old) old new page_stays (levels_of tree old) placed.placed

  pub taken_levels : levels_of tree new ≡ levels_of tree old
  taken_levels = levels_same tree old new placed.whole.sound alike

  pub taken_pairs : tree_pairs tree new ≡ tree_pairs tree old
  taken_pairs = same_pairs tree old new placed.whole.sound alike

  zero_same : new 0 ≡ old 0
  zero_same = takes.others 0 (λ is. omega (arith, is, takes.beyond)) (inl (omega arith))

  placed_page : (r : ℕ) → IsTreePage tree old r → IsPlacedPage n old r → IsPlacedPage n new r
  placed_page r is was = record {
    beyond = was.beyond;
    used = takes.marks r is.within (page_apart r was) ∙ was.used;
    first = subst (λ b. BeginsLow n b) (sym (page_stays r was)) was.first;
  }

  on_levels : (P : ℕ → Type 0) → AllByRecursion (AllByRecursion P) (levels_of tree old) → AllByRecursion (AllByRecursion P) (levels_of tree new)
  on_levels P all = subst (λ l. AllByRecursion (AllByRecursion P) l) (sym taken_levels) all

  pub taken_placed : IsPlacedTree tree new
  taken_placed = record {
    whole =
        record {
          sound = sound_stays tree old new placed.whole.sound alike;
          counted =
              subst (λ b. AllByRecursion (AllByRecursion (λ r. r < u32_at 44 b)) (levels_of tree new)) (sym zero_same)
              (on_levels (λ r. r < u32_at 44 (old 0)) placed.whole.counted);
        };
    reserved = λ page few.
        takes.marks page (omega (arith, few)) (λ same. omega (arith, same, few, takes.beyond)) ∙ placed.reserved page few;
    placed =
        on_levels (IsPlacedPage n new)
        (with_both (AllByRecursion (IsTreePage tree old)) (AllByRecursion (IsPlacedPage n old)) (AllByRecursion (IsPlacedPage n new))
        (λ level pages places. with_both (IsTreePage tree old) (IsPlacedPage n old) (IsPlacedPage n new) placed_page level pages places)
        (levels_of tree old) placed.whole.sound.each placed.placed);
  }

  -- the page stands nowhere in the tree
  pub taken_nowhere : StandsNowhere q (levels_of tree old)
  taken_nowhere =
      each_of (AllByRecursion (IsPlacedPage n old)) (AllByRecursion (λ r. r ≢ q))
      (λ level all. each_of (IsPlacedPage n old) (λ r. r ≢ q) page_apart level all) (levels_of tree old) placed.placed

  pub taken_for : IsTakenFor tree new q
  taken_for = record {
    free = on_levels (λ r. r ≢ q) taken_nowhere;
    beyond = takes.beyond;
    small = takes.small;
    counted = subst (λ b. q < u32_at 44 b) (sym zero_same) takes.counted;
    used = takes.used;
  }
