-- Two leaves that were looked at are one leaf, and the page of the right one is given back.
use Rattle.std.proofs.Common.{◌≡◌, ℕ, suc, ◌<◌, List, sym, subst, arith}
use Rattle.std.specs.Prelude.{IsTrue, Option, Some, MatchOption}
use Rattle.store_api.specs.declared.visits.SpaceBad.{SpaceBad}
use Rattle.stored_pages.specs.Words.{u32_at}
use Rattle.mtr.specs.Seen.{MtrState, IsWithin}
use Rattle.btree.specs.declared.tree.Tree.{Tree}
use Rattle.btree_merge.specs.Merges.{MergesLeaves, FreesPage, Shrinks}
use Rattle.btree_split.specs.Halves.{child_under}
use Rattle.btree_merge.proofs.Merging as merging
use Rattle.btree_merge.proofs.Freeing.{shrinks}
use Rattle.btree_merge.specs.declared.look.Siblings.{Siblings}
use Rattle.btree_merge.specs.Going.{GoesOn, Reads, IsMergeReason}
use Rattle.btree_merge.specs.Merged.{CanMerge, MergesCouple}
use Rattle.btree_merge.specs.Siblings.{AreToMerge}
use Rattle.btree_merge.proofs.Going.{on_then, reason_later}

-- what was found
pub is_ready : (tree : Tree) (pages : ℕ → List ℕ) (u j : ℕ) (found : Option Siblings) (both : Siblings) → found ≡ Some both
    → MatchOption found (CanMerge tree pages u j → ⊥) (AreToMerge tree pages u j) → AreToMerge tree pages u j both
is_ready tree pages u j found both is match = subst (λ o. MatchOption o (CanMerge tree pages u j → ⊥) (AreToMerge tree pages u j)) is match

module _ (tree : Tree) (u j : ℕ) (both : Siblings) (a b c : MtrState) (reads : Reads 3 a b)
    (ready : IsTrue b.told → AreToMerge tree a.seen u j both) (on : GoesOn 0 b c)
    (merges : IsTrue c.told → MergesLeaves j u both.couple.left both.couple.right b.seen c.seen) where
  abbrev p : ℕ
  p = both.couple.left

  abbrev q : ℕ
  q = both.couple.right

  ready_c : IsTrue c.told → AreToMerge tree a.seen u j both
  ready_c told = ready (on.goes.told told)

  merges_a : IsTrue c.told → MergesLeaves j u p q a.seen c.seen
  merges_a told = subst (λ (f : ℕ → List ℕ). MergesLeaves j u p q f c.seen) (reads.seen (on.goes.told told)) (merges told)

  zero_same : IsTrue c.told → c.seen 0 ≡ a.seen 0
  zero_same told =
      let is = ready_c told in
      (merges_a told).others 0
      (λ same. omega (arith, same, (merging.parent_placed tree a.seen u is.placed is.above).beyond))
      (λ same. omega (arith, same, is.left_is, (merging.leaf_placed tree a.seen u is.placed is.above j (omega (arith, is.can.within))).beyond))

  pub put_on : GoesOn 3 a c
  put_on = on_then 3 0 3 a b c (omega arith) reads.on on

  pub right_within : IsWithin q c
  right_within told =
      let is = ready_c told in
      subst (λ (l : List ℕ). q < u32_at 44 l) (sym (zero_same told))
      (subst (λ r. r < u32_at 44 (a.seen 0)) (sym is.right_is) (merging.leaf_counted tree a.seen u is.placed is.above (suc j) is.can.within))

  pub right_beyond : IsTrue c.told → 20 < q
  right_beyond told =
      let is = ready_c told in
      omega (arith, is.right_is, (merging.leaf_placed tree a.seen u is.placed is.above (suc j) is.can.within).beyond)

  pub right_small : IsTrue c.told → q < 65536
  right_small told =
      let is = ready_c told in
      omega (arith, is.right_is, (merging.leaf_page tree a.seen u is.placed is.above (suc j) is.can.within).within)

  module _ (d : MtrState) (last : GoesOn 5 c d) where
    pub all_on : GoesOn 8 a d
    all_on = on_then 3 5 8 a c d (omega arith) put_on last

    pub not_freed : {M : Type 0} (state : M → MtrState) (why : SpaceBad) → IsMergeReason state c d why → IsMergeReason state a d why
    not_freed state why reason = reason_later state 3 a c d why put_on zero_same last.goes reason

    pub done : (IsTrue d.told → FreesPage q c.seen d.seen) → IsTrue d.told → MergesCouple tree u j q a.seen d.seen
    done frees told =
        let told_c = last.goes.told told in
        let is = ready_c told_c in
        let left = child_under tree.key_len a.seen u j in
        let right = child_under tree.key_len a.seen u (suc j) in
        record {
          can = is.can;
          freed_is = is.right_is;
          shrinks = subst (λ r. Shrinks tree r a.seen d.seen) (sym is.right_is)
              (shrinks tree a.seen c.seen d.seen u j is.placed is.above is.can.within
              (subst (λ r. MergesLeaves j u left r a.seen c.seen) is.right_is
              (subst (λ r. MergesLeaves j u r q a.seen c.seen) is.left_is (merges_a told_c)))
              (subst (λ r. FreesPage r c.seen d.seen) is.right_is (frees told)));
        }
