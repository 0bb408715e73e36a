use Rattle.std.proofs.Common.{refl, length, sym}
use Rattle.std.proofs.lemmas.Result.{err_from_is_err_and}
use Rattle.sql_conditions.specs.Parts.{name_at, commas_at}
use Rattle.sql_conditions.proofs.Items.{goes_on, stops, fails, runs_out}
use Rattle.sql_conditions.proofs.lists.names.Goals as goal

pub returns-in_err-name : goal.returns-in_err-name
returns-in_err-name c =
    let p = err_from_is_err_and c.from_residual.result c.from_residual.ensures.1 in
    rw (p.1, p.2) (fails name_at c.loop.names.items (length c.args.tokens.now) c.loop.counter c.loop.rest.now (commas_at name_at c.args.tokens.now) c.in_err-name.field-0.0 c.loop-test.true c.in_err-name.ensures c.loop.invariant)

pub returns-in-None : goal.returns-in-None
returns-in-None c =
    let e = c.in_ok-push.ensures.items in
    rw (c.from_vec.ensures, e) (stops name_at c.loop.names.items (length c.args.tokens.now) c.loop.counter c.loop.rest.now (commas_at name_at c.args.tokens.now) c.in_ok-name.name c.in_ok-name.after.now c.loop-test.true c.in_ok-name.ensures (sym c.in-None.ensures) c.loop.invariant)

pub loop-preserved : goal.loop-preserved
loop-preserved c =
    let e = c.in_ok-push.ensures.items in
    rw e (goes_on name_at c.loop.names.items (length c.args.tokens.now) c.loop.counter c.loop.rest.now (commas_at name_at c.args.tokens.now) c.in_ok-name.name c.in_ok-name.after.now c.in-Some.more.now c.loop-test.true c.in_ok-name.ensures (sym c.in-Some.ensures) c.loop.invariant)

pub returns : goal.returns
returns c = rw c.unexpected.ensures (c.loop.rest.now, runs_out name_at c.loop.names.items (length c.args.tokens.now) c.loop.counter c.loop.rest.now (commas_at name_at c.args.tokens.now) c.loop-test.false c.loop.invariant, refl)
