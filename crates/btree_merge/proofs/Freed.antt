-- A page is given back and made zeros.
use Rattle.std.proofs.Common.{◌≡◌, inl, inr, ℕ, ◌+◌, ◌/◌, ◌%◌, ◌<◌, ◌≤◌, List, sym, ◌∙◌, ap, subst, arith}
use Rattle.std.specs.Prelude.{IsTrue, slice_index}
use Rattle.std.specs.Int.{bit_at}
use Rattle.stored_pages.specs.Words.{u32_at}
use Rattle.mtr.specs.Seen.{MtrState, IsWithin}
use Rattle.mtr.specs.Calls.{Makes}
use Rattle.space_map.specs.Map.{byte_of, mark_of}
use Rattle.space_map.specs.Taking.{Marks}
use Rattle.btree_merge.specs.Merges.{FreesPage}
use Rattle.btree_merge.specs.Going.{GoesOn}
use Rattle.btree_merge.proofs.Going.{on_then, marked_on, made_on}

module _ (page : ℕ) (a b : MtrState) (marks : Marks page 0 a b) where
  module _ (c : MtrState) (beyond : IsTrue a.told → 20 < page) (small : IsTrue a.told → page < 65536) (makes : Makes page b c) where
    pub freed : IsTrue c.told → FreesPage page a.seen c.seen
    freed told =
        let told_b = makes.goes.told told in
        let marked = marks.pages told_b in
        let made = makes.pages told in
        let far = beyond (marks.goes.told told_b) in
        let few = small (marks.goes.told told_b) in
        let same : (other : ℕ) → other < 65536 → mark_of c.seen other ≡ mark_of b.seen other = λ other below.
        let map : 2 + other / 32512 ≤ 4 = omega (arith, below) in
        ap (λ (l : List ℕ). bit_at (slice_index l (byte_of other)) (other % 8)) (made.elsewhere (2 + other / 32512) (λ is. omega (arith, is, map, far))) in
        record {
          free = same page few ∙ marked.here;
          marks = λ other below apart. same other below ∙ marked.others other apart;
          blank = made.here;
          others = λ other apart out.
              made.elsewhere other apart
              ∙ marked.seen.elsewhere other (λ is. elim out [ inl low ↦ omega (arith, is, low) | inr high ↦ omega (arith, is, high, few) ]);
        }

    pub freed_on : GoesOn 5 a c
    freed_on = on_then 4 1 5 a b c (omega arith) (marked_on page 0 a b marks) (made_on page b c makes)
