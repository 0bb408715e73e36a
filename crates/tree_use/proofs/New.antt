-- A tree that was just made stands on its root alone.
use Rattle.std.proofs.Common.{◌≡◌, ℕ, ◌+◌, ◌/◌, ◌%◌, ◌<◌, ◌≤◌, List, [], ◌∷◌, drop, sym, ◌∙◌, ap, subst, arith}
use Rattle.std.specs.Prelude.{IsTrue, slice_index}
use Rattle.mtr.specs.Seen.{MtrState, IsShown}
use Rattle.mtr.specs.Calls.{GivesUp}
use Rattle.tree_use.proofs.Resting.{AreResident, told_on}
use Rattle.std.specs.Int.{bit_at}
use Rattle.stored_pages.specs.Words.{u32_at}
use Rattle.mtr.proofs.Behind.{u32-behind, byte-behind}
use Rattle.law_flat_tree.specs.Levels.{levels_under}
use Rattle.law_flat_tree.specs.Trees.{IsTree, nodes, all_pairs}
use Rattle.law_flat_tree.proofs.Trees.{empty_tree}
use Rattle.space_map.specs.Map.{mark_of, bit_in}
use Rattle.space_map.specs.Taking.{HasPageCount}
use Rattle.btree.specs.declared.tree.Tree.{Tree}
use Rattle.btree.specs.Sound.{IsTreePage, lows_of, tree_pairs}
use Rattle.btree.specs.Layout.{width_of}
use Rattle.btree_split.specs.Placed.{IsPlacedTree}
use Rattle.tree_use.specs.Stored.{HasWidths, IsAtRest}
use Rattle.tree_use.specs.Beginning.{IsEmptyLeaf, IsCountedRoot, HoldsNewTree}
use Rattle.tree_use.proofs.Empty.{leaf_fields, leaf_records, empty_root, leaf_shown}

module _ (tree : Tree) (pages : ℕ → List ℕ) (widths : HasWidths tree)
    (empty : IsEmptyLeaf tree (pages tree.root)) (is : IsCountedRoot tree.root (pages 0) (pages 2)) where
  none_below : lows_of tree pages ≡ []
  none_below = ap (λ n. levels_under n (nodes tree.key_len pages) (tree.root ∷ [])) empty.level

  stands : IsTree tree.key_len pages tree.root []
  stands = (empty_tree tree.key_len pages tree.root (empty_root tree (pages tree.root) empty)).0

  root_page : IsTreePage tree pages tree.root
  root_page =
      let beyond : 20 < tree.root = is.beyond in
      let covered : tree.root < 32512 = is.covered in
      record {
        some = λ zero_is. omega (arith, zero_is, beyond);
        within = omega (arith, covered);
        fields = leaf_fields tree (pages tree.root) empty widths;
        index = empty.index;
        width = empty.width ∙ ap (width_of tree) (sym empty.level);
        rising = rw (leaf_records tree (pages tree.root) empty) tt;
      }

  -- the first page of the map has the bits of the first pages
  near : (page : ℕ) → page < 32512 → mark_of pages page ≡ bit_in (pages 2) page
  near page few =
      let first : page / 32512 ≡ 0 = omega (arith, few) in
      let itself : page % 32512 ≡ page = omega (arith, few) in
      λ j. bit_at (slice_index (pages (2 + first j)) (32 + itself j / 8)) (page % 8)

  pub new_placed : IsPlacedTree tree pages
  new_placed = record {
    whole =
        record {
          sound = record { stands = subst (λ l. IsTree tree.key_len pages tree.root l) (sym none_below) stands; each = rw none_below ((root_page, tt), tt) };
          counted = rw none_below ((is.counted, tt), tt);
        };
    reserved = λ page few. near page (omega (arith, few)) ∙ is.reserved page few;
    placed =
        rw none_below (
          (
            record {
              beyond = is.beyond;
              used = near tree.root is.covered ∙ is.used;
              first = λ inner. absurd (inner empty.level);
            },
            tt,
          ),
          tt,
        );
  }

  pub new_pairs : tree_pairs tree pages ≡ []
  new_pairs =
      ap (λ l. all_pairs tree.key_len pages tree.root l) none_below
      ∙ (empty_tree tree.key_len pages tree.root (empty_root tree (pages tree.root) empty)).1

  pub new_count : HasPageCount pages
  new_count =
      let beyond : 20 < tree.root = is.beyond in
      let counted : tree.root < u32_at 44 (pages 0) = is.counted in
      (omega (arith, beyond, counted), is.few)

-- what shows page 0 and the map tells of them
pub counted_shown : (root : ℕ) (a b c d : List ℕ) → drop 20 a ≡ drop 20 b → drop 20 c ≡ drop 20 d → IsCountedRoot root a c → IsCountedRoot root b d
counted_shown root a b c d same map is =
    let count : u32_at 44 a ≡ u32_at 44 b = u32-behind 44 a b (omega arith) same in
    let bit : (page : ℕ) → bit_in c page ≡ bit_in d page =
    λ page. ap (λ byte. bit_at byte (page % 8)) (byte-behind (32 + page / 8) c d (omega arith) map)
    in
    record {
      beyond = is.beyond;
      covered = is.covered;
      counted = subst (λ n. root < n) count is.counted;
      few = subst (λ n. n ≤ 65536) count is.few;
      reserved = λ page low. sym (bit page) ∙ is.reserved page low;
      used = sym (bit root) ∙ is.used;
    }

-- what stands is shown by the copies
module _ {M : Type 0} (state : M → MtrState) (resident : AreResident state) (tree : Tree) (a b c d : M) (told : IsTrue (state a).told)
    (first : GivesUp (state a) (state b)) (second : GivesUp (state b) (state c)) (third : GivesUp (state c) (state d))
    (header map root : List ℕ) (header_shown : IsTrue (state b).told → IsShown ((state a).standing 0) header)
    (map_shown : IsTrue (state c).told → IsShown ((state b).standing 2) map)
    (root_shown : IsTrue (state d).told → IsShown ((state c).standing tree.root) root) where
  pub new_shown : HoldsNewTree tree (state a).standing → IsCountedRoot tree.root header map × IsEmptyLeaf tree root
  new_shown holds =
      let told_b = told_on state resident a b first.goes told in
      let told_c = told_on state resident b c second.goes told_b in
      let told_d = told_on state resident c d third.goes told_c in
      let same_b : (state b).standing ≡ (state a).standing = first.standing told_b in
      let same_c : (state c).standing ≡ (state a).standing = second.standing told_c ∙ same_b in (
        counted_shown tree.root ((state a).standing 0) header ((state a).standing 2) map (sym (header_shown told_b).same)
            (sym ((map_shown told_c).same ∙ ap (λ (p : ℕ → List ℕ). drop 20 (p 2)) same_b)) holds.0,
        leaf_shown tree ((state a).standing tree.root) root
            (sym ((root_shown told_d).same ∙ ap (λ (p : ℕ → List ℕ). drop 20 (p tree.root)) same_c)) holds.1,
      )

module _ {M : Type 0} (state : M → MtrState) (resident : AreResident state) (tree : Tree) (widths : HasWidths tree) (a b c d : M) (told : IsTrue (state a).told)
    (spare : 4096 ≤ (state a).whole) (first : GivesUp (state a) (state b)) (second : GivesUp (state b) (state c)) (third : GivesUp (state c) (state d))
    (header map root : List ℕ) (header_shown : IsTrue (state b).told → IsShown ((state a).standing 0) header)
    (map_shown : IsTrue (state c).told → IsShown ((state b).standing 2) map)
    (root_shown : IsTrue (state d).told → IsShown ((state c).standing tree.root) root)
    (is : IsCountedRoot tree.root header map) (leaf : IsEmptyLeaf tree root) where
  told_b : IsTrue (state b).told
  told_b = told_on state resident a b first.goes told

  told_c : IsTrue (state c).told
  told_c = told_on state resident b c second.goes told_b

  told_d : IsTrue (state d).told
  told_d = told_on state resident c d third.goes told_c

  same_c : (state c).standing ≡ (state d).standing
  same_c = sym (third.standing told_d)

  same_b : (state b).standing ≡ (state d).standing
  same_b = sym (second.standing told_c) ∙ same_c

  same_a : (state a).standing ≡ (state d).standing
  same_a = sym (first.standing told_b) ∙ same_b

  -- the pages as they stand at the end
  empty_there : IsEmptyLeaf tree ((state d).standing tree.root)
  empty_there =
      leaf_shown tree root ((state d).standing tree.root) ((root_shown told_d).same ∙ ap (λ (p : ℕ → List ℕ). drop 20 (p tree.root)) same_c) leaf

  counted_there : IsCountedRoot tree.root ((state d).standing 0) ((state d).standing 2)
  counted_there =
      counted_shown tree.root header ((state d).standing 0) map ((state d).standing 2)
      ((header_shown told_b).same ∙ ap (λ (p : ℕ → List ℕ). drop 20 (p 0)) same_a)
      ((map_shown told_c).same ∙ ap (λ (p : ℕ → List ℕ). drop 20 (p 2)) same_b) is

  pub new_rest : IsAtRest tree (state d)
  new_rest = record {
    told = told_d;
    idle = record { seen = λ so. third.seen so ∙ sym (third.standing so); visited_is = third.visited_is; spare = third.spare };
    placed = new_placed tree (state d).standing widths empty_there counted_there;
    counted = new_count tree (state d).standing widths empty_there counted_there;
    spare = subst (λ n. 4096 ≤ n) (sym (third.goes.whole ∙ (second.goes.whole ∙ first.goes.whole))) spare;
  }

  pub new_none : tree_pairs tree (state d).standing ≡ []
  new_none = new_pairs tree (state d).standing widths empty_there counted_there
