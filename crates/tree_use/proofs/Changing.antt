-- A change of a leaf, and the end of its mini-transaction.
use Rattle.std.proofs.Common.{◌≡◌, ℕ, ◌<◌, ◌≤◌, Bool, true, false, List, [], ◌∷◌, sym, ◌∙◌, ap, subst, refl, arith}
use Rattle.std.specs.Prelude.{IsTrue, None}
use Rattle.std.specs.List.{AllByRecursion}
use Rattle.entries.specs.Pairs.{Pair, value_of, with_pair, without_key}
use Rattle.stored_pages.specs.Words.{u32_at}
use Rattle.mtr.specs.Seen.{MtrState}
use Rattle.mtr.specs.Calls.{Commits, GivesUp}
use Rattle.space_map.specs.Taking.{HasPageCount}
use Rattle.btree.specs.declared.tree.Tree.{Tree}
use Rattle.btree.specs.Sound.{lows_of, levels_of, tree_pairs, HoldsKey}
use Rattle.btree_change.specs.Trees.{Becomes, DoesReplace, DoesRemove}
use Rattle.btree_change.specs.Calls.{IsLeafFor, Touches}
use Rattle.btree_split.specs.Placed.{IsPlacedPage, IsPlacedTree}
use Rattle.btree_grow.proofs.AddedPair.{placed_still}
use Rattle.law_flat_tree.proofs.PageSplits.{all_in}
use Rattle.btree.proofs.Passed.{leaves_each}
use Rattle.tree_use.specs.Stored.{IsAtRest, IsStill}
use Rattle.tree_use.proofs.Resting.{AreResident, told_on}

-- what holds of all pages of a tree holds of the leaf of a key
of_leaf : (P : ℕ → Type 0) (tree : Tree) (pages : ℕ → List ℕ) (key : List ℕ) (leaf : ℕ) → HoldsKey tree pages key leaf
    → AllByRecursion (AllByRecursion P) (levels_of tree pages) → P leaf
of_leaf P tree pages key leaf holds all =
    all_in P holds.xs holds.ys leaf (subst (λ l. AllByRecursion P l) holds.whole (leaves_each P (tree.root ∷ []) (lows_of tree pages) all))

module _ {M : Type 0} (state : M → MtrState) (resident : AreResident state) (tree : Tree) (key : List ℕ) (leaf : ℕ) (a b : M) (rest : IsAtRest tree (state a))
    (still : IsStill tree (state a) (state b)) (holds : HoldsKey tree (state a).standing key leaf) where
  seen_still : (state b).seen ≡ (state a).standing
  seen_still = still.rest.idle.seen still.rest.told ∙ still.same

  placed_seen : IsPlacedTree tree (state b).seen
  placed_seen = subst (λ (p : ℕ → List ℕ). IsPlacedTree tree p) (sym seen_still) rest.placed

  holds_seen : HoldsKey tree (state b).seen key leaf
  holds_seen = subst (λ (p : ℕ → List ℕ). HoldsKey tree p key leaf) (sym seen_still) holds

  pub leaf_for : IsLeafFor tree key leaf (state b).seen
  leaf_for = record { whole = placed_seen.whole; holds = holds_seen }

  module _ (c d : M) (touches : Touches leaf (state b) (state c)) where
    told_c : IsTrue (state c).told
    told_c = told_on state resident b c touches.goes still.rest.told

    -- page 0 is no leaf
    header_stays : (state c).seen 0 ≡ (state b).seen 0
    header_stays =
        let used = of_leaf (IsPlacedPage tree.key_len (state b).seen) tree (state b).seen key leaf holds_seen placed_seen.placed in
        let beyond : 20 < leaf = used.beyond in
        touches.elsewhere told_c 0 (λ is. omega (arith, is, beyond))

    pub changed : (pairs : List Pair) → Becomes tree pairs (state b).seen (state c).seen → Commits (state c) (state d) → IsAtRest tree (state d)
    changed pairs becomes commits =
        let told = told_on state resident c d commits.goes told_c in
        let stands : (state d).standing ≡ (state c).seen = commits.standing told in
        let header : (state d).standing 0 ≡ (state a).standing 0 =
        ap (λ (p : ℕ → List ℕ). p 0) stands ∙ (header_stays ∙ ap (λ (p : ℕ → List ℕ). p 0) seen_still)
        in
        record {
          told = told;
          idle = record { seen = λ is. commits.seen is ∙ sym (commits.standing is); visited_is = commits.visited_is; spare = commits.spare };
          placed =
              subst (λ (p : ℕ → List ℕ). IsPlacedTree tree p) (sym stands)
              (placed_still tree key leaf (state b).seen (state c).seen pairs placed_seen holds_seen becomes (touches.elsewhere told_c));
          counted = subst (λ (l : List ℕ). (21 ≤ u32_at 44 l) × (u32_at 44 l ≤ 65536)) (sym header) rest.counted;
          spare = subst (λ n. 4096 ≤ n) (sym (commits.goes.whole ∙ touches.goes.whole)) still.rest.spare;
        }

    same_stands : GivesUp (state c) (state d) → (state d).standing ≡ (state a).standing
    same_stands given = given.standing (told_on state resident c d given.goes told_c) ∙ (touches.standing told_c ∙ still.same)

    pub unchanged : GivesUp (state c) (state d) → IsAtRest tree (state d)
    unchanged given =
        let told = told_on state resident c d given.goes told_c in
        let stands = same_stands given in
        record {
          told = told;
          idle = record { seen = λ is. given.seen is ∙ sym (given.standing is); visited_is = given.visited_is; spare = given.spare };
          placed = subst (λ (p : ℕ → List ℕ). IsPlacedTree tree p) (sym stands) rest.placed;
          counted = subst (λ (p : ℕ → List ℕ). HasPageCount p) (sym stands) rest.counted;
          spare = subst (λ n. 4096 ≤ n) (sym (given.goes.whole ∙ touches.goes.whole)) still.rest.spare;
        }

    stands_now : Commits (state c) (state d) → (state d).standing ≡ (state c).seen
    stands_now commits = commits.standing (told_on state resident c d commits.goes told_c)

    -- what is said of what was seen is said of what stands
    pub stands_so : (Does : (ℕ → List ℕ) → (ℕ → List ℕ) → Type 0) → Does (state b).seen (state c).seen → Commits (state c) (state d)
        → Does (state a).standing (state d).standing
    stands_so Does does commits =
        subst (λ (p : ℕ → List ℕ). Does (state a).standing p) (sym (stands_now commits)) (subst (λ (p : ℕ → List ℕ). Does p (state c).seen) seen_still does)

    pub replaced_rest : (value : List ℕ) (found : Bool) → DoesReplace tree key value (state b).seen (state c).seen found
        → (found ≡ true → Commits (state c) (state d)) → (found ≡ false → GivesUp (state c) (state d)) → IsAtRest tree (state d)
    replaced_rest value true does commits given = changed (with_pair key value (tree_pairs tree (state b).seen)) does.1 (commits refl)
    replaced_rest value false does commits given = unchanged (given refl)

    pub replaced : (value : List ℕ) (found : Bool) → DoesReplace tree key value (state b).seen (state c).seen found
        → (found ≡ true → Commits (state c) (state d)) → (found ≡ false → GivesUp (state c) (state d))
        → DoesReplace tree key value (state a).standing (state d).standing found
    replaced value true does commits given = stands_so (λ old new. DoesReplace tree key value old new true) does (commits refl)
    replaced value false does commits given =
        (subst (λ (p : ℕ → List ℕ). value_of key (tree_pairs tree p) ≡ None) seen_still does.0, same_stands (given refl))

    pub removed_rest : (found : Bool) → DoesRemove tree key (state b).seen (state c).seen found → (found ≡ true → Commits (state c) (state d))
        → (found ≡ false → GivesUp (state c) (state d)) → IsAtRest tree (state d)
    removed_rest true does commits given = changed (without_key key (tree_pairs tree (state b).seen)) does.1 (commits refl)
    removed_rest false does commits given = unchanged (given refl)

    pub removed : (found : Bool) → DoesRemove tree key (state b).seen (state c).seen found → (found ≡ true → Commits (state c) (state d))
        → (found ≡ false → GivesUp (state c) (state d)) → DoesRemove tree key (state a).standing (state d).standing found
    removed true does commits given = stands_so (λ old new. DoesRemove tree key old new true) does (commits refl)
    removed false does commits given =
        (subst (λ (p : ℕ → List ℕ). value_of key (tree_pairs tree p) ≡ None) seen_still does.0, same_stands (given refl))
