use Rattle.std.proofs.Common.{[], refl, arith}
use Rattle.std.proofs.lemmas.Result.{err_from_is_err_and}
use Rattle.entries.proofs.Edits.{on_err}
use Rattle.tree_check.proofs.Walking.{upper_node, walk_begins, walk_on, walk_ends, comes_on, tree_fields}
use Rattle.tree_check.proofs.Exact.{must_fit, must_end, never_endless}
use Rattle.tree_check.proofs.rows.check_level.Goals as goal

pub loop-init : goal.loop-init
loop-init c = record {
  walked = λ us above. walk_begins c.args.tree c.args.pages.now c.args.level c.args.first us c.args.top above;
  comes = record { way = []; steps = refl };
}

pub ends_with-requires : goal.ends_with-requires
ends_with-requires c = λ some.
    let is = (c.loop.invariant.walked c.requires.above.us c.requires.above.checked).last_node some in
    (is.within, tree_fields c.args.tree c.args.pages.now c.args.level c.loop.walk.last is)

pub returns-then-ends_with-clause-rows : goal.returns-then-ends_with-clause-rows
returns-then-ends_with-clause-rows c = λ us above.
    walk_ends c.args.tree c.args.pages.now c.args.level c.args.first us c.args.top above c.loop.walk c.loop.counter (c.loop.invariant.walked us above)
    c.if-walk-eq0.true c.if-ends_with.ensures

pub returns-then-walk-eq0-clause-refused : goal.returns-then-walk-eq0-clause-refused
returns-then-walk-eq0-clause-refused c = λ us above below.
    c.if-ends_with.ensures (must_end c.args.tree c.args.pages.now c.args.level c.args.first us c.args.top above c.loop.walk c.loop.counter
    (c.loop.invariant.walked us above) below c.if-walk-eq0.true)

pub step-requires-clause-upper : goal.step-requires-clause-upper
step-requires-clause-upper c =
    upper_node c.args.tree c.args.pages.now c.args.level c.args.first c.requires.above.us c.args.top c.requires.above.checked c.loop.walk c.loop.counter
    (c.loop.invariant.walked c.requires.above.us c.requires.above.checked) c.if-walk-eq0.false

pub step-requires-clause-last : goal.step-requires-clause-last
step-requires-clause-last c = (c.loop.invariant.walked c.requires.above.us c.requires.above.checked).last_node

pub step-requires-clause-place : goal.step-requires-clause-place
step-requires-clause-place c = (c.loop.invariant.walked c.requires.above.us c.requires.above.checked).place c.if-walk-eq0.false

pub returns-in_err-walk-clause-refused : goal.returns-in_err-walk-clause-refused
returns-in_err-walk-clause-refused c =
    on_err c.from_residual.result (λ us above below.
    c.in_err-walk.ensures.refused (must_fit c.args.tree c.args.pages.now c.args.level c.args.first us c.args.top above c.loop.walk c.loop.counter
    (c.loop.invariant.walked us above) below c.if-walk-eq0.false))

pub returns-then-walk-eq0-clause-fault : goal.returns-then-walk-eq0-clause-fault
returns-then-walk-eq0-clause-fault c = record {
  now = c.loop.walk;
  comes = c.loop.invariant.comes;
  stop = (refl, (λ some. absurd (some c.if-walk-eq0.true)), (λ _. c.if-ends_with.ensures));
}

pub returns-in_err-walk-clause-fault : goal.returns-in_err-walk-clause-fault
returns-in_err-walk-clause-fault c =
    let p = err_from_is_err_and c.from_residual.result c.from_residual.ensures.1 in
    rw (p.1, p.2) (record { now = c.loop.walk; comes = c.loop.invariant.comes; stop = c.in_err-walk.ensures.fault })

pub loop-preserved : goal.loop-preserved
loop-preserved c = record {
  walked = λ us above.
      walk_on c.args.tree c.args.pages.now c.args.level c.args.first us c.args.top above c.loop.walk c.in_ok-walk.walk
      (upper_node c.args.tree c.args.pages.now c.args.level c.args.first us c.args.top above c.loop.walk c.loop.counter
      (c.loop.invariant.walked us above) c.if-walk-eq0.false) c.in_ok-walk.ensures.step c.loop.counter (c.loop.invariant.walked us above);
  comes = comes_on c.args.tree c.args.pages.now c.args.level c.args.top c.args.first c.loop.walk c.in_ok-walk.walk c.loop.invariant.comes
      c.in_ok-walk.ensures.step;
}

pub unreachable-requires : goal.unreachable-requires
unreachable-requires c =
    never_endless c.args.tree c.args.pages.now c.args.level c.args.first c.requires.above.us c.args.top c.requires.above.checked c.loop.walk c.loop.counter
    c.requires.some (c.loop.invariant.walked c.requires.above.us c.requires.above.checked) (omega (arith, c.loop-test.false))
