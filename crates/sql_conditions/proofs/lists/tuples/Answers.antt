use Rattle.std.proofs.Common.{refl, length, sym}
use Rattle.std.proofs.lemmas.Result.{err_from_is_err_and}
use Rattle.sql_conditions.specs.Parts.{tuple_at, commas_at}
use Rattle.sql_conditions.proofs.Items.{goes_on, stops, fails, runs_out}
use Rattle.sql_conditions.proofs.lists.tuples.Goals as goal

pub returns-in_err-tuple : goal.returns-in_err-tuple
returns-in_err-tuple c =
    let p = err_from_is_err_and c.from_residual.result c.from_residual.ensures.1 in
    rw (p.1, p.2) (fails tuple_at c.loop.tuples.items (length c.args.tokens.now) c.loop.counter c.loop.rest.now (commas_at tuple_at c.args.tokens.now) c.in_err-tuple.field-0.0 c.loop-test.true c.in_err-tuple.ensures c.loop.invariant)

pub returns-in-None : goal.returns-in-None
returns-in-None c =
    let e = c.in_ok-push.ensures.items in
    rw (c.from_vec.ensures, e) (stops tuple_at c.loop.tuples.items (length c.args.tokens.now) c.loop.counter c.loop.rest.now (commas_at tuple_at c.args.tokens.now) c.in_ok-tuple.tuple c.in_ok-tuple.after.now c.loop-test.true c.in_ok-tuple.ensures (sym c.in-None.ensures) c.loop.invariant)

pub loop-preserved : goal.loop-preserved
loop-preserved c =
    let e = c.in_ok-push.ensures.items in
    rw e (goes_on tuple_at c.loop.tuples.items (length c.args.tokens.now) c.loop.counter c.loop.rest.now (commas_at tuple_at c.args.tokens.now) c.in_ok-tuple.tuple c.in_ok-tuple.after.now c.in-Some.more.now c.loop-test.true c.in_ok-tuple.ensures (sym c.in-Some.ensures) c.loop.invariant)

pub returns : goal.returns
returns c = rw c.unexpected.ensures (c.loop.rest.now, runs_out tuple_at c.loop.tuples.items (length c.args.tokens.now) c.loop.counter c.loop.rest.now (commas_at tuple_at c.args.tokens.now) c.loop-test.false c.loop.invariant, refl)
