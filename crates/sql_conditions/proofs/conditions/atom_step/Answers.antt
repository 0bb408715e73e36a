use Rattle.std.proofs.lemmas.Result.{err_from_is_err_and}
use Rattle.sql_conditions.specs.Conditions.{marks, stage_of}
use Rattle.sql_conditions.proofs.Settled.{after_atom, atom_fails, stands_after}
use Rattle.sql_conditions.proofs.conditions.atom_step.Goals as goal

pub returns-in_err-operand-clause-exact : goal.returns-in_err-operand-clause-exact
returns-in_err-operand-clause-exact c =
    let p = err_from_is_err_and c.from_residual.result c.from_residual.ensures.1 in
    rw (p.1, p.2) (atom_fails c.in_err-operand.field-0.0 (marks c.args.stack.now) c.args.tokens.now c.in_err-operand.ensures)

pub returns-clause-exact : goal.returns-clause-exact
returns-clause-exact c = after_atom (stage_of c.settle.new.stack) c.settle.result (marks c.args.stack.now) c.args.tokens.now c.in_ok-operand.rest.now c.in_ok-operand.operand c.in_ok-operand.ensures c.settle.ensures.exact

pub returns-clause-spelled : goal.returns-clause-spelled
returns-clause-spelled c = stands_after c.settle.result c.args.stack.now c.settle.new.stack c.in_ok-operand.operand c.args.tokens.now c.in_ok-operand.rest.now c.in_ok-operand.ensures c.settle.ensures.spelled
