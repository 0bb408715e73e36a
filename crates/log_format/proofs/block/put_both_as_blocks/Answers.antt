use Rattle.std.proofs.lemmas.Grind.{common_steps}
use Rattle.std.proofs.Common.{◌≡◌, ◌⊎◌, inl, inr, ◌+◌, ◌-◌, ◌<◌, ◌++◌, min, length, arith, sym, ◌∙◌, ap, subst, List, ℕ, take-append-drop, length-append}
use Rattle.std.proofs.lemmas.Bool.{cases_lt}
use Rattle.std.proofs.lemmas.Bool.Decides.{nat_tests}
use Rattle.log_format.proofs.Blocks.{BlocksSoFar, one_more, both_split}
use Rattle.log_format.proofs.block.put_both_as_blocks.Goals as goal

pub loop-first-preserved : goal.loop-first-preserved
loop-first-preserved c =
    let l = c.loop-first in
    let front = c.split_at.result.0.now in
    let first_after = c.split_at.result.1.now in
    let back = c.split_at-in-loop-first.result.0.now in
    let after = c.split_at-in-loop-first.result.1.now in
    let some : 0 < length l.first.now + length l.rest.now = grind (arith, nat_tests) in
    let first_is : l.first.now ≡ front ++ first_after =
    sym (take-append-drop _ l.first.now) ∙ (λ i. sym c.split_at.ensures.front i ++ sym c.split_at.ensures.back i) in
    let rest_is : l.rest.now ≡ back ++ after =
    sym (take-append-drop _ l.rest.now) ∙ (λ i. sym c.split_at-in-loop-first.ensures.front i ++ sym c.split_at-in-loop-first.ensures.back i) in
    let front_long : length front ≡ min (length l.first.now) 484 = omega arith in
    let back_long : length back ≡ min (length l.rest.now) (484 - length front) = omega arith in
    let in_turn : (length first_after ≡ 0) ⊎ (length back ≡ 0) = elim (cases_lt 484 (length l.first.now)) [
      | inl more ↦ inr (omega (arith, front_long, back_long, more))
      | inr all ↦ inl (omega (arith, front_long, all, length-append front first_after, ap length first_is))
    ] in
    let split = both_split l.first.now l.rest.now front first_after back after first_is rest_is in_turn in
    let both = length-append l.first.now l.rest.now in
    let size : length (front ++ back) ≡ min (length (l.first.now ++ l.rest.now)) 484 =
    omega (arith, front_long, back_long, both, length-append front back) in
    let next = one_more c.args.run c.args.number (c.args.head.now ++ c.args.bytes.now) c.args.out.now.items l.count (l.first.now ++ l.rest.now) l.out.items
    (front ++ back) (first_after ++ after) l.invariant.so_far (omega (arith, some, both)) size split in
    record {
      so_far =
          subst
          (λ (o : List ℕ). BlocksSoFar c.args.run c.args.number (c.args.head.now ++ c.args.bytes.now) c.args.out.now.items (l.count + 1) (first_after ++ after) o)
          (sym c.put_block.ensures.items) next;
      len = omega (arith, l.invariant.len, c.put_block.ensures.len);
      grows = omega (arith, l.invariant.grows, c.put_block.ensures.grows);
    }

pub loop-first-init : goal.loop-first-init
loop-first-init c = grind (arith, common_steps) steps 2000000

pub overflow_add-first : goal.overflow_add-first
overflow_add-first c = grind (arith, common_steps) steps 2000000

pub overflow_add-number : goal.overflow_add-number
overflow_add-number c = grind (arith, common_steps) steps 2000000

pub put_block-requires-clause-room : goal.put_block-requires-clause-room
put_block-requires-clause-room c = grind (arith, common_steps) steps 2000000

pub returns-clause-blocks : goal.returns-clause-blocks
returns-clause-blocks c = grind (arith, common_steps) steps 2000000

pub returns-clause-count : goal.returns-clause-count
returns-clause-count c = grind (arith, common_steps) steps 2000000
