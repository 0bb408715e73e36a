-- Two leaves and their parent that were looked at, and what comes of it.
use Rattle.std.proofs.Common.{◌≡◌, ◌≢◌, ℕ, suc, ◌+◌, ◌≤◌, List, [], ◌∷◌, length, true, sym, subst, arith}
use Rattle.std.specs.Prelude.{IsTrue, Option, None, Some, MatchOption}
use Rattle.store_api.specs.declared.visits.Visit.{Visit}
use Rattle.store_api.specs.declared.visits.Visit.TheVariants.{Bad}
use Rattle.page_format.specs.Words.{level_of, records_of}
use Rattle.mtr.specs.Seen.{MtrState, is_in, visit, IsShown}
use Rattle.mtr.specs.Calls.{Consults}
use Rattle.btree.specs.declared.tree.Tree.{Tree}
use Rattle.btree.specs.Descents.{IsReadable}
use Rattle.btree.specs.Walks.{IsReadableLeaf}
use Rattle.btree_split.specs.Placed.{IsPlacedTree}
use Rattle.btree_merge.specs.Merges.{IsAboveLeaves}
use Rattle.btree_merge.specs.declared.look.Couple.{Couple}
use Rattle.btree_merge.specs.Going.{Reads, IsStop}
use Rattle.btree_merge.specs.Merged.{FitTogether, CanMerge}
use Rattle.btree_merge.specs.Siblings.{IsCouple, AreDealtWith, AreToMerge}
use Rattle.btree_merge.proofs.Going.{length-visit, reads_one, reads_then}
use Rattle.btree_merge.proofs.Under as under

-- ---- one page after another

pub reads_two : (t one other : ℕ) (a b c : MtrState) → 2 ≤ t → Consults (one ∷ []) a b → Consults (other ∷ []) b c → Reads t a c
reads_two t one other a b c within first next = reads_then 1 1 t a b c within (reads_one one a b first) (reads_one other b c next)

pub reads_three : (one other third : ℕ) (a b c d : MtrState) → Consults (one ∷ []) a b → Consults (other ∷ []) b c → Consults (third ∷ []) c d → Reads 3 a d
reads_three one other third a b c d first next last =
    reads_then 2 1 3 a c d (omega arith) (reads_two 2 one other a b c (omega arith) first next) (reads_one third c d last)

pub few_after : (n page : ℕ) (a b : MtrState) → Reads n a b → suc n + length a.visited ≤ 24 → length (visit page b.visited) ≤ 24
few_after n page a b reads few = omega (arith, length-visit page b.visited, reads.on.longer, few)

pub dealt_with : (u : ℕ) (couple : Couple) (b c d : MtrState) → Consults (couple.left ∷ []) b c → Consults (couple.right ∷ []) c d
    → is_in u b.visited ≡ true → is_in couple.left c.visited ≡ true → is_in couple.right d.visited ≡ true → AreDealtWith u couple d.visited
dealt_with u couple b c d next last parent left right = record {
  parent = (reads_one couple.right c d last).on.stay u ((reads_one couple.left b c next).on.stay u parent);
  left = (reads_one couple.right c d last).on.stay couple.left left;
  right = right;
}

-- ---- what they are in the tree

module _ (tree : Tree) (u j : ℕ) (a b : MtrState) (good : IsTrue a.told → IsPlacedTree tree a.seen) (above : IsTrue a.told → IsAboveLeaves tree a.seen u)
    (looked : Consults (u ∷ []) a b) (bytes : List ℕ) (shown : IsTrue a.told → IsShown (a.seen u) bytes) where
  pub refused : {M : Type 0} (state : M → MtrState) (why : Visit) → (why ≡ Bad u 1) × (IsReadable tree bytes → level_of bytes ≢ 0 → ⊥) → IsStop state a b why
  refused state why is =
      subst (IsStop state a b) (sym is.0) (λ told.
      let before = looked.goes.told told in
      absurd (under.not_refused tree a.seen u (good before) (above before) bytes (shown before) is.1))

  abbrev Found : Option Couple → Type 0
  Found found = MatchOption found (length (records_of bytes) ≤ suc j) (IsCouple tree bytes j)

  module _ (found : Option Couple) (match : Found found) where
    pub none_behind : found ≡ None → IsTrue b.told → CanMerge tree a.seen u j → ⊥
    none_behind none told =
        let before = looked.goes.told told in
        under.none_behind tree a.seen u (good before) (above before) bytes (shown before) j (subst Found none match)

    module _ (couple : Couple) (some : found ≡ Some couple) where
      is : IsCouple tree bytes j couple
      is = subst Found some match

      pub left_reads : IsTrue b.told → IsReadableLeaf tree (b.seen couple.left)
      left_reads told =
          let before = looked.goes.told told in
          subst (λ (f : ℕ → List ℕ). IsReadableLeaf tree (f couple.left)) (sym (looked.same told).seen)
          (under.left_reads tree a.seen u (good before) (above before) bytes (shown before) j couple is)

      module _ (c : MtrState) (next : Consults (couple.left ∷ []) b c) where
        two : Reads 2 a c
        two = reads_two 2 u couple.left a b c (omega arith) looked next

        pub right_reads : IsTrue c.told → IsReadableLeaf tree (c.seen couple.right)
        right_reads told =
            let before = two.on.goes.told told in
            subst (λ (f : ℕ → List ℕ). IsReadableLeaf tree (f couple.right)) (sym (two.seen told))
            (under.right_reads tree a.seen u (good before) (above before) bytes (shown before) j couple is)

        module _ (d : MtrState) (last : Consults (couple.right ∷ []) c d) (left right : List ℕ)
            (left_shown : IsTrue b.told → IsShown (b.seen couple.left) left) (right_shown : IsTrue c.told → IsShown (c.seen couple.right) right) where
          shown_left : IsTrue d.told → IsShown (a.seen couple.left) left
          shown_left told =
              let told_b = next.goes.told (last.goes.told told) in
              subst (λ (f : ℕ → List ℕ). IsShown (f couple.left) left) (looked.same told_b).seen (left_shown told_b)

          shown_right : IsTrue d.told → IsShown (a.seen couple.right) right
          shown_right told =
              let told_c = last.goes.told told in
              subst (λ (f : ℕ → List ℕ). IsShown (f couple.right) right) (two.seen told_c) (right_shown told_c)

          pub full : (FitTogether left right → ⊥) → IsTrue d.told → CanMerge tree a.seen u j → ⊥
          full none told =
              let before = two.on.goes.told (last.goes.told told) in
              under.full tree a.seen u (good before) (above before) bytes (shown before) j couple is left right (shown_left told) (shown_right told) none

          pub to_merge : FitTogether left right → IsTrue d.told
              → AreToMerge tree a.seen u j (record { couple = couple; above = bytes; left = left; right = right })
          to_merge fits told =
              let before = two.on.goes.told (last.goes.told told) in
              under.to_merge tree a.seen u (good before) (above before) bytes (shown before) j couple is left right (shown_left told) (shown_right told) fits
