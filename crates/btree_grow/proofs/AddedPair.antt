-- A pair is added to a leaf of a tree that has grown.
use Rattle.std.proofs.Common.{◌≡◌, ◌≢◌, ℕ, ◌+◌, ◌/◌, ◌%◌, ◌<◌, ◌≤◌, List, [], ◌∷◌, sym, ◌∙◌, ap, subst, refl, arith}
use Rattle.std.specs.Prelude.{slice_index}
use Rattle.std.specs.Int.{bit_at}
use Rattle.std.specs.List.{AllByRecursion}
use Rattle.entries.specs.Pairs.{Pair}
use Rattle.law_flat_tree.specs.Descents.{leaves_of}
use Rattle.law_flat_tree.specs.PageSplits.{StandsNowhere}
use Rattle.law_flat_tree.specs.Trees.{nodes}
use Rattle.law_flat_tree.proofs.Apart.{each_of, with_both}
use Rattle.law_tree_changes.proofs.Splitting.{of_all}
use Rattle.space_map.specs.Map.{byte_of, mark_of}
use Rattle.btree.specs.declared.tree.Tree.{Tree}
use Rattle.btree.specs.Sound.{lows_of, levels_of, IsTreePage, HoldsKey, tree_pairs}
use Rattle.btree.proofs.Passed.{leaf_readable, leaves_each}
use Rattle.btree_change.specs.Trees.{Becomes}
use Rattle.btree_split.specs.Placed.{BeginsLow, IsPlacedPage, IsPlacedTree}
use Rattle.btree_grow.specs.Grown.{Grows}
use Rattle.btree_grow.proofs.TakenTree.{of_level}

-- nothing is done yet
pub grows_none : (tree : Tree) (pages : ℕ → List ℕ) → IsPlacedTree tree pages → Grows tree (tree_pairs tree pages) [] pages pages
grows_none tree pages placed = record {
  placed = placed;
  pairs_are = refl;
  were_free = tt;
  stand = tt;
  rest = λ page nowhere out. nowhere;
  keep = λ page nowhere. nowhere;
  marks = λ page few. refl;
  others = λ page nowhere out far. refl;
}

module _ (tree : Tree) (key : List ℕ) (leaf : ℕ) (b c : ℕ → List ℕ) (pairs : List Pair) (placed : IsPlacedTree tree b) (holds : HoldsKey tree b key leaf)
    (becomes : Becomes tree pairs b c) (elsewhere : (r : ℕ) → r ≢ leaf → c r ≡ b r) where
  abbrev n : ℕ
  n = tree.key_len

  leaf_used : IsPlacedPage n b leaf
  leaf_used =
      of_level (IsPlacedPage n b) (nodes n b) (leaves_of (levels_of tree b)) key leaf holds
      (leaves_each (IsPlacedPage n b) (tree.root ∷ []) (lows_of tree b) placed.placed)

  same_mark : (r : ℕ) → r < 65536 → mark_of c r ≡ mark_of b r
  same_mark r few =
      let map : 2 + r / 32512 ≤ 4 = omega (arith, few) in
      ap (λ (l : List ℕ). bit_at (slice_index l (byte_of r)) (r % 8)) (elsewhere (2 + r / 32512) (λ is. omega (arith, is, map, leaf_used.beyond)))

  edited_placed : (r : ℕ) → IsTreePage tree b r → IsPlacedPage n b r → IsPlacedPage n c r
  edited_placed =
      of_all (λ r. IsTreePage tree b r → IsPlacedPage n b r → IsPlacedPage n c r) leaf (λ is was. record {
        beyond = was.beyond;
        used = same_mark leaf is.within ∙ was.used;
        first = λ inner. absurd (inner (leaf_readable tree c becomes.whole.sound holds.xs holds.ys leaf (ap leaves_of becomes.levels ∙ holds.whole)).leaf);
      })
      (λ r apart is was. record {
        beyond = was.beyond;
        used = same_mark r is.within ∙ was.used;
        first = subst (λ l. BeginsLow n l) (sym (elsewhere r apart)) was.first;
      })

  pub placed_still : IsPlacedTree tree c
  placed_still = record {
    whole = becomes.whole;
    reserved = λ page few. same_mark page (omega (arith, few)) ∙ placed.reserved page few;
    placed =
        subst (λ l. AllByRecursion (AllByRecursion (IsPlacedPage n c)) l) (sym becomes.levels)
        (with_both (AllByRecursion (IsTreePage tree b)) (AllByRecursion (IsPlacedPage n b)) (AllByRecursion (IsPlacedPage n c))
        (λ level pages places. with_both (IsTreePage tree b) (IsPlacedPage n b) (IsPlacedPage n c) edited_placed level pages places)
        (levels_of tree b) placed.whole.sound.each placed.placed);
  }

  pub grows_then : (a : ℕ → List ℕ) (were : List Pair) (taken : List ℕ) → Grows tree were taken a b → Grows tree pairs taken a c
  grows_then a were taken grows = record {
    placed = placed_still;
    pairs_are = becomes.pairs_are;
    were_free = grows.were_free;
    stand =
        each_of (λ page. StandsNowhere page (levels_of tree b) → ⊥) (λ page. StandsNowhere page (levels_of tree c) → ⊥)
        (λ page stands nowhere. stands (subst (λ l. StandsNowhere page l) becomes.levels nowhere)) taken grows.stand;
    rest = λ page nowhere out. subst (λ l. StandsNowhere page l) (sym becomes.levels) (grows.rest page nowhere out);
    keep = λ page nowhere. grows.keep page (subst (λ l. StandsNowhere page l) becomes.levels nowhere);
    marks = λ page few. same_mark page few ∙ grows.marks page few;
    others = λ page nowhere out far. becomes.others page (grows.rest page nowhere out) ∙ grows.others page nowhere out far;
  }
