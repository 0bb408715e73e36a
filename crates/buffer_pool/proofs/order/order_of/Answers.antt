use Rattle.std.proofs.Common.{◌≤◌, ◌-◌, refl, arith}
use Rattle.buffer_pool.proofs.Orders.{put_next}
use Rattle.buffer_pool.proofs.order.order_of.Goals as goal

pub loop-page-init : goal.loop-page-init
loop-page-init c = rw c.in_ok-order.ensures (record { first = record { few = omega arith; known = λ q below. absurd (omega (arith, below)) }; cap = refl })

pub loop-page-preserved : goal.loop-page-preserved
loop-page-preserved c =
    let before = c.loop-page.order in
    let page = c.loop-page.page in
    let fits : page ≤ before.cap - 1 = omega (arith, c.loop-page.invariant.cap) in
    let entries = c.in_ok-put.ensures.entries in
    rw entries (record { first = put_next page before tt fits c.loop-page.invariant.first; cap = c.loop-page.invariant.cap })

pub returns : goal.returns
returns c = λ page below. c.loop-page.invariant.first.known page (omega (arith, below))
