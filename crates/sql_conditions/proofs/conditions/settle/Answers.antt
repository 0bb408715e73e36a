use Rattle.std.proofs.lemmas.Result.{err_from_is_err_and}
use Rattle.sql_conditions.specs.Conditions.{marks, settle}
use Rattle.sql_conditions.proofs.Settled.{settle_fails, settle_goes, settle_waits, joins}
use Rattle.sql_conditions.proofs.conditions.settle.Goals as goal

pub returns-in_err-more-clause-exact : goal.returns-in_err-more-clause-exact
returns-in_err-more-clause-exact c =
    let p = err_from_is_err_and c.from_residual.result c.from_residual.ensures.1 in
    rw (p.1, p.2) (settle_fails c.frames.stack c.pop.new.self c.close.new.stack c.in-Some.frame c.frames.rest.now c.frames.rest.now (settle (marks c.args.stack.now) c.args.tokens.now) c.in-Some.ensures c.frames.invariant.same c.in_err-more.field-0.0 c.in_err-more.ensures.exact)

pub frames-preserved : goal.frames-preserved
frames-preserved c =
    let exact = rw c.in-Goes.is at c.in_ok-more.ensures.exact in
    let keeps = rw c.in-Goes.is at c.in_ok-more.ensures.keeps in
    let spelled = rw c.in-Goes.is at c.in_ok-more.ensures.spelled in
    record {
      joins = λ all h. spelled all (joins all c.frames.stack c.pop.new.self c.in-Some.frame c.frames.joined c.frames.rest.now c.in-Some.ensures (c.frames.invariant.joins all h));
      same = settle_goes c.frames.stack c.pop.new.self c.close.new.stack c.in-Some.frame c.frames.rest.now c.in-Goes.after.now (settle (marks c.args.stack.now) c.args.tokens.now) c.in-Some.ensures c.frames.invariant.same exact keeps;
    }

pub returns-in-Wants-clause-exact : goal.returns-in-Wants-clause-exact
returns-in-Wants-clause-exact c =
    let exact = rw c.in-Wants.is at c.in_ok-more.ensures.exact in
    settle_waits c.frames.stack c.pop.new.self c.close.new.stack c.in-Some.frame c.frames.rest.now c.in-Wants.after.now (settle (marks c.args.stack.now) c.args.tokens.now) c.in-Some.ensures c.frames.invariant.same exact

pub returns-in-Wants-clause-spelled : goal.returns-in-Wants-clause-spelled
returns-in-Wants-clause-spelled c =
    let spelled = rw c.in-Wants.is at c.in_ok-more.ensures.spelled in
    λ all h. spelled all (joins all c.frames.stack c.pop.new.self c.in-Some.frame c.frames.joined c.frames.rest.now c.in-Some.ensures (c.frames.invariant.joins all h))
