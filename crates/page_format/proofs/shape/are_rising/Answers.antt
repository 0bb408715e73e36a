use Rattle.std.proofs.Common.{◌≡◌, ℕ, List, ◌+◌, ◌-◌, ◌≤◌, length, take, sym, ap, ◌∙◌, arith}
use Rattle.std.specs.Ordering.{nat_cmp}
use Rattle.std.specs.Cmp.Lexicographic.{slice_cmp}
use Rattle.page_format.proofs.Rising.{Tells-next, falls}
use Rattle.page_format.proofs.shape.are_rising.Goals as goal

pub returns-in_default : goal.returns-in_default
returns-in_default c =
    let left : 2 ≤ c.args.count + 1 - c.loop.counter = omega arith in
    let others = c.split_at.result.1.now in
    falls c.args.width c.args.count c.args.records.now (c.args.count + 1 - c.loop.counter) c.loop.rest.now others left c.loop.invariant c.split_at.ensures.back
    (λ e. c.in_default.not-Less (c.cmp.ensures ∙ ap (λ (l : List ℕ). slice_cmp nat_cmp l (take c.args.width others)) c.split_at.ensures.front ∙ e))

pub loop-preserved : goal.loop-preserved
loop-preserved c =
    let left : 2 ≤ c.args.count + 1 - c.loop.counter = omega arith in
    let next : c.args.count + 1 - (c.loop.counter + 1) ≡ c.args.count + 1 - c.loop.counter - 1 = omega arith in
    let others = c.split_at.result.1.now in
    let len : length others ≡ length c.loop.rest.now - c.args.width = omega (arith, c.split_at.ensures.back_len) in
    rw next (Tells-next c.args.width c.args.count c.args.records.now (c.args.count + 1 - c.loop.counter) c.loop.rest.now others left c.loop.invariant c.split_at.ensures.back
    (sym (c.in-Less.ensures ∙ ap (λ (l : List ℕ). slice_cmp nat_cmp l (take c.args.width others)) c.split_at.ensures.front)) len)
