use Rattle.std.proofs.Common.{length, refl}
use Rattle.std.proofs.lemmas.Result.{err_from_is_err_and}
use Rattle.sql_conditions.specs.Conditions.{marks, after_condition}
use Rattle.sql_conditions.proofs.Settled.{steps_fail, steps_whole, steps_more, steps_run_out}
use Rattle.sql_conditions.proofs.conditions.condition.Goals as goal

pub returns-in_err-filter-clause-exact : goal.returns-in_err-filter-clause-exact
returns-in_err-filter-clause-exact c =
    let p = err_from_is_err_and c.from_residual.result c.from_residual.ensures.1 in
    rw (p.1, p.2) (steps_fail (length c.args.tokens.now) c.loop.counter (marks c.loop.stack) c.loop.rest.now c.loop.rest.now (after_condition c.args.tokens.now) c.loop.invariant.left c.in_err-filter.field-0.0 c.loop-test.true c.in_err-filter.ensures.exact)

pub returns-in-Whole-clause-exact : goal.returns-in-Whole-clause-exact
returns-in-Whole-clause-exact c =
    let exact = rw c.in-Whole.is at c.in_ok-filter.ensures.exact in
    steps_whole (length c.args.tokens.now) c.loop.counter (marks c.loop.stack) c.loop.rest.now c.in-Whole.rest.now (after_condition c.args.tokens.now) c.loop.invariant.left c.loop-test.true exact

pub loop-preserved : goal.loop-preserved
loop-preserved c =
    let exact = rw c.in-Wants.is at c.in_ok-filter.ensures.exact in
    let spelled = rw c.in-Wants.is at c.in_ok-filter.ensures.spelled in
    record {
      stands = spelled c.args.tokens.now c.loop.invariant.stands;
      left = steps_more (length c.args.tokens.now) c.loop.counter (marks c.loop.stack) c.loop.rest.now c.in-Wants.more.now (after_condition c.args.tokens.now) c.loop.invariant.left (marks c.step.new.stack) c.loop-test.true exact;
    }

pub returns-clause-exact : goal.returns-clause-exact
returns-clause-exact c =
    rw c.unexpected.ensures (c.loop.rest.now, steps_run_out (length c.args.tokens.now) c.loop.counter (marks c.loop.stack) c.loop.rest.now c.loop.rest.now (after_condition c.args.tokens.now) c.loop.invariant.left c.loop-test.false, refl)
