use Rattle.std.proofs.Common.{ℕ, List, [], ◌∷◌, subst, arith}
use Rattle.std.proofs.lemmas.Result.{err_from_is_err_and, IfOk-weaker, IfErr-weaker}
use Rattle.mtr.proofs.Consulting.{goes_then}
use Rattle.btree.proofs.Steps.{asked_one}
use Rattle.btree_change.proofs.Steps.{asked_visited}
use Rattle.btree_grow.specs.Grown.{HasGrown}
use Rattle.btree_grow.proofs.Going.{on_then, on_more, few_visit, looked_known_on, halt_later}
use Rattle.btree_grow.proofs.Next as next
use Rattle.btree_grow.proofs.splits.split_below.Goals as goal

pub returns-in_err-place-clause-reason : goal.returns-in_err-place-clause-reason
returns-in_err-place-clause-reason g c =
    let p = err_from_is_err_and c.from_residual-in_err-place.result c.from_residual-in_err-place.ensures.1 in
    rw (p.1, p.2)
    (next.parent_stop g.M.Mtr.state c.args.tree c.args.key.now c.args.parent c.in_ok-above.above (g.M.Mtr.state c.args.m.now)
    (g.M.Mtr.state c.copy_of.new.m) c.requires.above
    (asked_one c.args.parent (g.M.Mtr.state c.args.m.now) (g.M.Mtr.state c.copy_of.new.m) c.copy_of.result c.copy_of.ensures.asks)
    c.in_ok-above.ensures.shown c.in_err-place.field-0.0 c.in_err-place.ensures.refused)

pub returns-then-not-has_room-clause-reason : goal.returns-then-not-has_room-clause-reason
returns-then-not-has_room-clause-reason g c =
    next.room_stop g.M.Mtr.state c.args.tree c.args.key.now c.args.parent c.in_ok-above.above (g.M.Mtr.state c.args.m.now)
    (g.M.Mtr.state c.copy_of.new.m) c.requires.above
    (asked_one c.args.parent (g.M.Mtr.state c.args.m.now) (g.M.Mtr.state c.copy_of.new.m) c.copy_of.result c.copy_of.ensures.asks)
    c.in_ok-above.ensures.shown c.if-not-has_room.ensures

pub copy_of-requires-2 : goal.copy_of-requires-2
copy_of-requires-2 g c =
    omega (
      arith,
      few_visit c.child_at-child.result (g.M.Mtr.state c.copy_of.new.m).visited,
      (looked_known_on c.args.parent (g.M.Mtr.state c.args.m.now) (g.M.Mtr.state c.copy_of.new.m) c.requires.dealt_with
          (asked_one c.args.parent (g.M.Mtr.state c.args.m.now) (g.M.Mtr.state c.copy_of.new.m) c.copy_of.result c.copy_of.ensures.asks)).longer,
      c.requires.few,
    )

pub returns-in_err-middle-clause-goes_on : goal.returns-in_err-middle-clause-goes_on
returns-in_err-middle-clause-goes_on g c =
    on_more 1 2 (g.M.Mtr.state c.args.m.now) (g.M.Mtr.state c.copy_of-2.new.m) (omega arith)
    (next.two_on g.M.Mtr.state c.args.tree c.args.key.now c.args.parent c.in_ok-above.above (g.M.Mtr.state c.args.m.now)
    (g.M.Mtr.state c.copy_of.new.m) c.requires.above
    (asked_one c.args.parent (g.M.Mtr.state c.args.m.now) (g.M.Mtr.state c.copy_of.new.m) c.copy_of.result c.copy_of.ensures.asks)
    c.in_ok-above.ensures.shown c.in_ok-place.place c.child_at-child.result c.in_ok-bytes.bytes (g.M.Mtr.state c.copy_of-2.new.m)
    (asked_one c.child_at-child.result (g.M.Mtr.state c.copy_of.new.m) (g.M.Mtr.state c.copy_of-2.new.m) c.copy_of-2.result c.copy_of-2.ensures.asks)
    c.in_ok-place.ensures.leads c.child_at-child.ensures c.in_ok-bytes.ensures.shown c.requires.dealt_with)

pub returns-in_err-middle-clause-reason : goal.returns-in_err-middle-clause-reason
returns-in_err-middle-clause-reason g c =
    let p = err_from_is_err_and c.from_residual-in_err-middle.result c.from_residual-in_err-middle.ensures.1 in
    rw (p.1, p.2)
    (next.child_stop g.M.Mtr.state c.args.tree c.args.key.now c.args.parent c.in_ok-above.above (g.M.Mtr.state c.args.m.now)
    (g.M.Mtr.state c.copy_of.new.m) c.requires.above
    (asked_one c.args.parent (g.M.Mtr.state c.args.m.now) (g.M.Mtr.state c.copy_of.new.m) c.copy_of.result c.copy_of.ensures.asks)
    c.in_ok-above.ensures.shown c.in_ok-place.place c.child_at-child.result c.in_ok-bytes.bytes (g.M.Mtr.state c.copy_of-2.new.m)
    (asked_one c.child_at-child.result (g.M.Mtr.state c.copy_of.new.m) (g.M.Mtr.state c.copy_of-2.new.m) c.copy_of-2.result c.copy_of-2.ensures.asks)
    c.in_ok-place.ensures.leads c.child_at-child.ensures c.in_ok-bytes.ensures.shown c.in_err-middle.field-0.0 c.in_err-middle.ensures.refused)

pub split_page-requires-clause-few : goal.split_page-requires-clause-few
split_page-requires-clause-few g c =
    omega (
      arith,
      (next.two_on g.M.Mtr.state c.args.tree c.args.key.now c.args.parent c.in_ok-above.above (g.M.Mtr.state c.args.m.now)
          (g.M.Mtr.state c.copy_of.new.m) c.requires.above
          (asked_one c.args.parent (g.M.Mtr.state c.args.m.now) (g.M.Mtr.state c.copy_of.new.m) c.copy_of.result c.copy_of.ensures.asks)
          c.in_ok-above.ensures.shown c.in_ok-place.place c.child_at-child.result c.in_ok-bytes.bytes (g.M.Mtr.state c.copy_of-2.new.m)
          (asked_one c.child_at-child.result (g.M.Mtr.state c.copy_of.new.m) (g.M.Mtr.state c.copy_of-2.new.m) c.copy_of-2.result c.copy_of-2.ensures.asks)
          c.in_ok-place.ensures.leads c.child_at-child.ensures c.in_ok-bytes.ensures.shown c.requires.dealt_with).longer,
      c.requires.few,
    )

pub split_page-requires-clause-parent_dealt_with : goal.split_page-requires-clause-parent_dealt_with
split_page-requires-clause-parent_dealt_with g c =
    (next.two_on g.M.Mtr.state c.args.tree c.args.key.now c.args.parent c.in_ok-above.above (g.M.Mtr.state c.args.m.now)
    (g.M.Mtr.state c.copy_of.new.m) c.requires.above
    (asked_one c.args.parent (g.M.Mtr.state c.args.m.now) (g.M.Mtr.state c.copy_of.new.m) c.copy_of.result c.copy_of.ensures.asks)
    c.in_ok-above.ensures.shown c.in_ok-place.place c.child_at-child.result c.in_ok-bytes.bytes (g.M.Mtr.state c.copy_of-2.new.m)
    (asked_one c.child_at-child.result (g.M.Mtr.state c.copy_of.new.m) (g.M.Mtr.state c.copy_of-2.new.m) c.copy_of-2.result c.copy_of-2.ensures.asks)
    c.in_ok-place.ensures.leads c.child_at-child.ensures c.in_ok-bytes.ensures.shown c.requires.dealt_with).stay c.args.parent c.requires.dealt_with

pub split_page-requires-clause-child_dealt_with : goal.split_page-requires-clause-child_dealt_with
split_page-requires-clause-child_dealt_with g c =
    asked_visited c.child_at-child.result (g.M.Mtr.state c.copy_of.new.m)
    (g.M.Mtr.state c.copy_of-2.new.m) c.copy_of-2.result c.in_ok-bytes.bytes c.in_ok-bytes.was c.copy_of-2.ensures.asks

pub split_page-requires-clause-ready : goal.split_page-requires-clause-ready
split_page-requires-clause-ready g c =
    next.some_ready g.M.Mtr.state c.args.tree c.args.key.now c.args.parent c.in_ok-above.above (g.M.Mtr.state c.args.m.now)
    (g.M.Mtr.state c.copy_of.new.m) c.requires.above
    (asked_one c.args.parent (g.M.Mtr.state c.args.m.now) (g.M.Mtr.state c.copy_of.new.m) c.copy_of.result c.copy_of.ensures.asks)
    c.in_ok-above.ensures.shown c.in_ok-place.place c.child_at-child.result c.in_ok-bytes.bytes (g.M.Mtr.state c.copy_of-2.new.m)
    (asked_one c.child_at-child.result (g.M.Mtr.state c.copy_of.new.m) (g.M.Mtr.state c.copy_of-2.new.m) c.copy_of-2.result c.copy_of-2.ensures.asks)
    c.in_ok-place.ensures.leads c.child_at-child.ensures c.in_ok-bytes.ensures.shown c.in_ok-middle.middle

pub returns-clause-goes_on : goal.returns-clause-goes_on
returns-clause-goes_on g c =
    on_then 1 1 2 (g.M.Mtr.state c.args.m.now) (g.M.Mtr.state c.copy_of-2.new.m) (g.M.Mtr.state c.split_page.new.m) (omega arith)
    (next.two_on g.M.Mtr.state c.args.tree c.args.key.now c.args.parent c.in_ok-above.above (g.M.Mtr.state c.args.m.now)
    (g.M.Mtr.state c.copy_of.new.m) c.requires.above
    (asked_one c.args.parent (g.M.Mtr.state c.args.m.now) (g.M.Mtr.state c.copy_of.new.m) c.copy_of.result c.copy_of.ensures.asks)
    c.in_ok-above.ensures.shown c.in_ok-place.place c.child_at-child.result c.in_ok-bytes.bytes (g.M.Mtr.state c.copy_of-2.new.m)
    (asked_one c.child_at-child.result (g.M.Mtr.state c.copy_of.new.m) (g.M.Mtr.state c.copy_of-2.new.m) c.copy_of-2.result c.copy_of-2.ensures.asks)
    c.in_ok-place.ensures.leads c.child_at-child.ensures c.in_ok-bytes.ensures.shown c.requires.dealt_with)
    c.split_page.ensures.goes_on

pub returns-clause-split : goal.returns-clause-split
returns-clause-split g c =
    IfOk-weaker c.split_page.result _ _ (λ half split told n above.
    let told_d = c.split_page.ensures.goes_on.goes.told told in
    subst (λ (f : ℕ → List ℕ). HasGrown c.args.tree c.args.key.now 1 n half f (g.M.Mtr.state c.split_page.new.m).seen)
    (next.seen_same g.M.Mtr.state c.args.tree c.args.key.now c.args.parent c.in_ok-above.above (g.M.Mtr.state c.args.m.now)
    (g.M.Mtr.state c.copy_of.new.m) c.requires.above
    (asked_one c.args.parent (g.M.Mtr.state c.args.m.now) (g.M.Mtr.state c.copy_of.new.m) c.copy_of.result c.copy_of.ensures.asks)
    c.in_ok-above.ensures.shown c.in_ok-place.place c.child_at-child.result c.in_ok-bytes.bytes (g.M.Mtr.state c.copy_of-2.new.m)
    (asked_one c.child_at-child.result (g.M.Mtr.state c.copy_of.new.m) (g.M.Mtr.state c.copy_of-2.new.m) c.copy_of-2.result c.copy_of-2.ensures.asks)
    c.in_ok-place.ensures.leads c.child_at-child.ensures c.in_ok-bytes.ensures.shown told_d)
    (split told n (next.is_ready g.M.Mtr.state c.args.tree c.args.key.now c.args.parent c.in_ok-above.above (g.M.Mtr.state c.args.m.now)
    (g.M.Mtr.state c.copy_of.new.m) c.requires.above
    (asked_one c.args.parent (g.M.Mtr.state c.args.m.now) (g.M.Mtr.state c.copy_of.new.m) c.copy_of.result c.copy_of.ensures.asks)
    c.in_ok-above.ensures.shown c.in_ok-place.place c.child_at-child.result c.in_ok-bytes.bytes (g.M.Mtr.state c.copy_of-2.new.m)
    (asked_one c.child_at-child.result (g.M.Mtr.state c.copy_of.new.m) (g.M.Mtr.state c.copy_of-2.new.m) c.copy_of-2.result c.copy_of-2.ensures.asks)
    c.in_ok-place.ensures.leads c.child_at-child.ensures c.in_ok-bytes.ensures.shown c.in_ok-middle.middle n told_d above)))
    c.split_page.ensures.split

pub returns-clause-reason : goal.returns-clause-reason
returns-clause-reason g c =
    IfErr-weaker c.split_page.result _ _ (λ why reason.
    halt_later g.M.Mtr.state (c.args.parent ∷ []) (g.M.Mtr.state c.args.m.now) (g.M.Mtr.state c.copy_of.new.m) (g.M.Mtr.state c.split_page.new.m) why
    (asked_one c.args.parent (g.M.Mtr.state c.args.m.now) (g.M.Mtr.state c.copy_of.new.m) c.copy_of.result c.copy_of.ensures.asks)
    (goes_then (g.M.Mtr.state c.copy_of.new.m) (g.M.Mtr.state c.copy_of-2.new.m) (g.M.Mtr.state c.split_page.new.m)
    (asked_one c.child_at-child.result (g.M.Mtr.state c.copy_of.new.m) (g.M.Mtr.state c.copy_of-2.new.m) c.copy_of-2.result c.copy_of-2.ensures.asks).goes
    c.split_page.ensures.goes_on.goes)
    (halt_later g.M.Mtr.state (c.child_at-child.result ∷ []) (g.M.Mtr.state c.copy_of.new.m) (g.M.Mtr.state c.copy_of-2.new.m)
    (g.M.Mtr.state c.split_page.new.m) why
    (asked_one c.child_at-child.result (g.M.Mtr.state c.copy_of.new.m) (g.M.Mtr.state c.copy_of-2.new.m) c.copy_of-2.result c.copy_of-2.ensures.asks)
    c.split_page.ensures.goes_on.goes reason))
    c.split_page.ensures.reason
