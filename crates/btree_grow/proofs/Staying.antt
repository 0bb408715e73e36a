-- A tree stays where that of another index grows.
-- The law of `others` ends here. Of the growing tree only what it did to the file's pages is asked.
use Rattle.std.proofs.Common.{◌≡◌, ◌≢◌, inr, inl, ℕ, ◌<◌, ◌≤◌, Bool, false, List, [], ◌∷◌, sym, ◌∙◌, ap, subst, arith, refl}
use Rattle.std.specs.Prelude.{◌||◌}
use Rattle.std.specs.List.{AllByRecursion}
use Rattle.std.proofs.lemmas.Bool.{cases_Bool}
use Rattle.entries.specs.Pairs.{Pair}
use Rattle.stored_pages.specs.Words.{u32_at}
use Rattle.law_flat_tree.specs.Levels.{AreLevelsAlike}
use Rattle.law_flat_tree.specs.PageSplits.{StandsNowhere}
use Rattle.law_flat_tree.proofs.Apart.{each_of, with_both, levels_alike_by}
use Rattle.space_map.specs.Map.{mark_of}
use Rattle.mtr.specs.Seen.{is_in}
use Rattle.btree.specs.declared.tree.Tree.{Tree}
use Rattle.btree.specs.Sound.{levels_of, IsTreePage, tree_pairs}
use Rattle.law_tree_changes.proofs.Alike.{levels_same, sound_stays, same_pairs, apart}
use Rattle.btree_split.specs.Placed.{BeginsLow, IsPlacedPage, IsPlacedTree}
use Rattle.btree_grow.specs.Grown.{Grows}
use Rattle.btree_grow.proofs.PutHalves.{ne_false}
use Rattle.btree_grow.specs.Marks.{Spares}

-- ---- used pages aren't taken

not_taken : (pages : ℕ → List ℕ) (page : ℕ) (taken : List ℕ) → mark_of pages page ≡ 1 → AllByRecursion (λ p. mark_of pages p ≡ 0) taken
    → is_in page taken ≡ false
not_taken pages page [] marked free = refl
not_taken pages page (first ∷ taken) marked free =
    let other : first ≢ page = λ is.
    let used : mark_of pages first ≡ 1 = ap (mark_of pages) is ∙ marked in
    let unused : mark_of pages first ≡ 0 = free.0 in
    omega (arith, used, unused)
    in
    ap (λ (b : Bool). b || is_in page taken) (ne_false first page other) ∙ not_taken pages page taken marked free.1

-- a page that isn't placed as the tree's pages are is none of them
low_nowhere : (tree : Tree) (pages : ℕ → List ℕ) → IsPlacedTree tree pages → (page : ℕ) → page ≤ 20 → StandsNowhere page (levels_of tree pages)
low_nowhere tree pages placed page low =
    each_of (AllByRecursion (IsPlacedPage tree.key_len pages)) (AllByRecursion (λ other. other ≢ page))
    (each_of (IsPlacedPage tree.key_len pages) (λ other. other ≢ page) (λ other is same. omega (arith, is.beyond, low, same)))
    (levels_of tree pages) placed.placed

pub grown_spares : (tree : Tree) (pairs : List Pair) (taken : List ℕ) (old new : ℕ → List ℕ) → IsPlacedTree tree old → Grows tree pairs taken old new
    → Spares tree old new
grown_spares tree pairs taken old new placed grows = record {
  header =
      grows.others 0 (low_nowhere tree old placed 0 (omega arith)) (not_taken old 0 taken (placed.reserved 0 (omega arith)) grows.were_free)
      (inl (omega arith));
  used = λ page small nowhere marked. elim (cases_Bool (is_in page taken)) [
    | inl t ↦ grows.marks page small ∙ rw t refl
    | inr f ↦ grows.marks page small ∙ rw f marked
  ];
  others = λ page beyond nowhere marked. grows.others page nowhere (not_taken old page taken marked grows.were_free) (inr (omega (arith, beyond)));
}

module _ (tree other : Tree) (old new : ℕ → List ℕ) (differ : tree.index ≢ other.index) (placed : IsPlacedTree tree old) (also : IsPlacedTree other old)
    (spares : Spares tree old new) where
  abbrev n : ℕ
  n = other.key_len

  -- a page of the other tree
  pub record IsOurs (page : ℕ) : Type 0 where
    pub nowhere : StandsNowhere page (levels_of tree old)
    pub is_placed : IsPlacedPage n old page

  ours : AllByRecursion (AllByRecursion IsOurs) (levels_of other old)
  ours =
      with_both (AllByRecursion (λ page. StandsNowhere page (levels_of tree old))) (AllByRecursion (IsPlacedPage n old)) (AllByRecursion IsOurs)
      (λ level a b. with_both (λ page. StandsNowhere page (levels_of tree old)) (IsPlacedPage n old) IsOurs
      (λ page x y. record { nowhere = x; is_placed = y }) level a b)
      (levels_of other old) (apart tree other old differ placed.whole.sound also.whole.sound) also.placed

  stays : (page : ℕ) → IsOurs page → new page ≡ old page
  stays page is = spares.others page is.is_placed.beyond is.nowhere is.is_placed.used

  alike : AreLevelsAlike old new (levels_of other old)
  alike = levels_alike_by IsOurs old new stays (levels_of other old) ours

  pub other_levels : levels_of other new ≡ levels_of other old
  other_levels = levels_same other old new also.whole.sound alike

  pub other_pairs : tree_pairs other new ≡ tree_pairs other old
  other_pairs = same_pairs other old new also.whole.sound alike

  on_levels : (P : ℕ → Type 0) → AllByRecursion (AllByRecursion P) (levels_of other old) → AllByRecursion (AllByRecursion P) (levels_of other new)
  on_levels P all = subst (λ l. AllByRecursion (AllByRecursion P) l) (sym other_levels) all

  placed_page : (r : ℕ) → IsTreePage other old r → IsOurs r → IsPlacedPage n new r
  placed_page r is was = record {
    beyond = was.is_placed.beyond;
    used = spares.used r is.within was.nowhere was.is_placed.used;
    first = subst (λ b. BeginsLow n b) (sym (stays r was)) was.is_placed.first;
  }

  pub other_placed : IsPlacedTree other new
  other_placed = record {
    whole =
        record {
          sound = sound_stays other old new also.whole.sound alike;
          counted =
              subst (λ b. AllByRecursion (AllByRecursion (λ r. r < u32_at 44 b)) (levels_of other new)) (sym spares.header)
              (on_levels (λ r. r < u32_at 44 (old 0)) also.whole.counted);
        };
    reserved = λ page few. spares.used page (omega (arith, few)) (low_nowhere tree old placed page few) (also.reserved page few);
    placed =
        on_levels (IsPlacedPage n new)
        (with_both (AllByRecursion (IsTreePage other old)) (AllByRecursion IsOurs) (AllByRecursion (IsPlacedPage n new))
        (λ level pages places. with_both (IsTreePage other old) IsOurs (IsPlacedPage n new) placed_page level pages places)
        (levels_of other old) also.whole.sound.each ours);
  }
