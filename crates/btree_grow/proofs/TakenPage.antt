-- A free page is taken and made zeros.
use Rattle.std.proofs.Common.{◌≡◌, inl, inr, ℕ, ◌+◌, ◌/◌, ◌%◌, ◌<◌, ◌≤◌, List, length, sym, ◌∙◌, ap, subst, arith}
use Rattle.std.specs.Prelude.{IsTrue, slice_index}
use Rattle.std.specs.Int.{bit_at}
use Rattle.std.proofs.lemmas.Bool.{cases_lt}
use Rattle.std.proofs.lemmas.List.{length-replicate}
use Rattle.stored_pages.specs.Words.{u32_at}
use Rattle.mtr.specs.Seen.{MtrState, IsWithin}
use Rattle.mtr.specs.Calls.{Makes}
use Rattle.space_map.specs.Map.{byte_of, mark_of}
use Rattle.space_map.specs.Taking.{HasPageCount, Takes}
use Rattle.btree_grow.specs.Going.{GoesOn}
use Rattle.btree_grow.specs.Taken.{AreReserved, TakesPage}
use Rattle.btree_grow.proofs.Going.{on_then, marked_on, made_on}

module _ (page : ℕ) (a b : MtrState) (takes : Takes page a b) where
  module _ (c : MtrState) (counts : IsTrue b.told → HasPageCount a.seen) (reserved : IsTrue a.told → AreReserved a.seen) (makes : Makes page b c) where
    pub taken : IsTrue c.told → TakesPage page a.seen c.seen
    taken told =
        let told_b = makes.goes.told told in
        let free = takes.was_free told_b in
        let marks = takes.marks.pages told_b in
        let made = makes.pages told in
        let beyond : 20 < page =
        elim (cases_lt 20 page) [ inl far ↦ far | inr near ↦ absurd (omega (arith, free.unmarked, reserved (takes.marks.goes.told told_b) page near)) ] in
        let small : page < 65536 = omega (arith, free.within, (counts told_b).1) in
        let same : (other : ℕ) → other < 65536 → mark_of c.seen other ≡ mark_of b.seen other = λ other few.
        let map : 2 + other / 32512 ≤ 4 = omega (arith, few) in
        ap (λ (l : List ℕ). bit_at (slice_index l (byte_of other)) (other % 8))
        (made.elsewhere (2 + other / 32512) (λ is. omega (arith, is, map, beyond))) in
        record {
          beyond = beyond;
          small = small;
          counted = free.within;
          covered = (counts told_b).1;
          was_free = free.unmarked;
          used = same page small ∙ marks.here;
          marks = λ other few apart. same other few ∙ marks.others other apart;
          blank = ap length made.here ∙ length-replicate {A = ℕ} 4096 0;
          others = λ other apart far.
              made.elsewhere other apart
              ∙ marks.seen.elsewhere other (λ is. elim far [ inl low ↦ omega (arith, is, low) | inr high ↦ omega (arith, is, high, small) ]);
        }

    pub taken_on : GoesOn 1 a c
    taken_on = on_then 0 1 1 a b c (omega arith) (marked_on page 1 a b takes.marks) (made_on page b c makes)
