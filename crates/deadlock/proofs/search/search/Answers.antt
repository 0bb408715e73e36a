use Rattle.std.specs.Prelude.{◌≡◌, ◌+◌, ◌<◌, length}
use Rattle.std.proofs.Common.{sym, ◌∙◌, ap, refl, arith}
use Rattle.deadlock.proofs.DepthFirst.{length-path}
use Rattle.deadlock.proofs.Lists.{empty_from_length}
use Rattle.deadlock.proofs.Loop.{order_begun, loop_begun, loop_found, loop_visits, order_visits, loop_leaves, order_leaves, loop_ended}
use Rattle.deadlock.proofs.search.search.Goals as goal

pub loop-lock-init : goal.loop-lock-init
loop-lock-init c = record {
  searching = loop_begun _ _ _ _ _ c.requires.others c.requires.empty;
  ordered = order_begun _ _ _ _ c.requires.empty;
  short = rw c.requires.empty (omega arith);
  path_room = refl;
  other_room = refl;
}

pub returns-then-at-start-clause-found : goal.returns-then-at-start-clause-found
returns-then-at-start-clause-found c =
    rw c.push_reserved.ensures.items
    (loop_found _ _ _ _ _ _ _ c.loop-lock.invariant.searching c.loop-lock.invariant.ordered (rw c.deref.ensures.value at c.in-Some.ensures) (sym c.txn-at.ensures ∙ c.if-at-start.true))

pub loop-lock-smaller-in-Some : goal.loop-lock-smaller-in-Some
loop-lock-smaller-in-Some c =
    let fewer : length c.visit.new.unvisited.items < length c.loop-lock.unvisited.items = rw (c.visit.ensures.items, c.txn-at.ensures) (loop_visits _ _ _ _ _ _ _ c.loop-lock.invariant.searching (rw c.deref.ensures.value at c.in-Some.ensures) (λ e. c.if-at-start.false (c.txn-at.ensures ∙ e))).1 in
    let longer : length c.push_reserved.new.self.items ≡ length c.loop-lock.path.items + 1 = ap length c.push_reserved.ensures.items ∙ length-path _ _ in
    omega (arith, fewer, longer)

pub loop-lock-preserved-in-Some : goal.loop-lock-preserved-in-Some
loop-lock-preserved-in-Some c =
    let visited = loop_visits _ _ _ _ _ _ _ c.loop-lock.invariant.searching (rw c.deref.ensures.value at c.in-Some.ensures) (λ e. c.if-at-start.false (c.txn-at.ensures ∙ e)) in
    let fewer : length c.visit.new.unvisited.items < length c.loop-lock.unvisited.items = rw (c.visit.ensures.items, c.txn-at.ensures) visited.1 in
    let longer : length c.push_reserved.new.self.items ≡ length c.loop-lock.path.items + 1 = ap length c.push_reserved.ensures.items ∙ length-path _ _ in
    record {
      searching = rw (c.visit.ensures.items, c.push_reserved.ensures.items, c.txn-at.ensures) visited.0;
      ordered =
          rw (c.push_reserved.ensures.items, c.txn-at.ensures)
          (order_visits _ _ _ _ _ _ _ c.loop-lock.invariant.searching c.loop-lock.invariant.ordered (rw c.deref.ensures.value at c.in-Some.ensures));
      short = omega (arith, fewer, longer, c.loop-lock.invariant.short);
      path_room = c.push_reserved.ensures.capacity ∙ c.loop-lock.invariant.path_room;
      other_room = c.visit.ensures.room ∙ c.loop-lock.invariant.other_room;
    }

pub loop-lock-preserved : goal.loop-lock-preserved
loop-lock-preserved c = record {
  searching = loop_leaves _ _ _ _ _ _ _ _ c.loop-lock.invariant.searching (rw c.deref.ensures.value at c.in-None.ensures) c.in-Some-pop.ensures.items;
  ordered = order_leaves _ _ _ _ _ _ _ c.loop-lock.invariant.ordered c.in-Some-pop.ensures.items;
  short = let e : length c.loop-lock.path.items ≡ length c.pop.new.self.items + 1 = ap length c.in-Some-pop.ensures.items ∙ length-path _ _ in omega (arith, e, c.loop-lock.invariant.short);
  path_room = c.in-Some-pop.ensures.capacity ∙ c.loop-lock.invariant.path_room;
  other_room = c.loop-lock.invariant.other_room;
}

pub returns-in-None-pop-clause-none : goal.returns-in-None-pop-clause-none
returns-in-None-pop-clause-none c = loop_ended _ _ _ _ _ _ c.loop-lock.invariant.searching (rw c.deref.ensures.value at c.in-None.ensures) (empty_from_length _ (omega (arith, c.in-None-pop.ensures.cases.0)))
