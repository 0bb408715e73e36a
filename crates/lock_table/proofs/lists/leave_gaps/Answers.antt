use Rattle.std.proofs.Common.{ap, sym, subst, ◌∙◌, length, ◌+◌, ◌≤◌, vec_capacity, arith}
use Rattle.lock_table.specs.Queue.{is_covered}
use Rattle.lock_table.specs.Records.{as_gap, elsewhere}
use Rattle.lock_table.proofs.Gaps.{left_and_stay, room_left, room_next}
use Rattle.lock_table.proofs.lists.leave_gaps.Goals as goal

pub add_gap-requires : goal.add_gap-requires
add_gap-requires c = λ free.
    let one = c.as_gap.ensures ∙ ap (λ r. as_gap r c.args.next.now c.asked-item.result) c.number.ensures in
    room_next c.args.by c.args.gone.now c.args.next.now c.args.granted.now.items c.loop-asked.granted.items c.deref-asked-items.result.now (vec_capacity c.loop-asked.granted)
    (omega (arith, c.requires.room, c.loop-asked.invariant.stays, ap length c.deref-asked-items.ensures.value))
    c.loop-asked.asked-index c.asked-item.result c.loop-asked-test.true c.asked-item.is (sym c.is_at.ensures ∙ c.if-is_at.true) (sym c.becomes_gap.ensures ∙ c.if-becomes_gap.true)
    c.loop-asked.invariant.same (sym (ap (is_covered c.loop-asked.granted.items) one) ∙ free)

pub returns-clause-room : goal.returns-clause-room
returns-clause-room c =
    subst (λ ws. length c.loop-asked.granted.items + length ws ≤ vec_capacity c.loop-asked.granted) (ap (elsewhere c.args.gone.now) c.deref-asked-items.ensures.value ∙ sym c.keep_elsewhere.ensures)
    (room_left c.args.by c.args.gone.now c.args.next.now c.args.granted.now.items c.loop-asked.granted.items c.deref-asked-items.result.now _
    (omega (arith, c.requires.room, c.loop-asked.invariant.stays, ap length c.deref-asked-items.ensures.value)) c.loop-asked.asked-index c.loop-asked-test.false c.loop-asked.invariant.same)

pub returns-clause-fewer : goal.returns-clause-fewer
returns-clause-fewer c = omega (arith, ap length c.keep_elsewhere.ensures, left_and_stay c.args.by c.args.gone.now c.args.next.now c.args.waiting.now.items)
