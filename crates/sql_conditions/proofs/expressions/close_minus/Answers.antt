use Rattle.std.proofs.Common.{◌∷◌, sym}
use Rattle.sql_conditions.specs.declared.expressions.Frame.TheVariants as frame
use Rattle.sql_conditions.proofs.Operands.{closes_minus, waits_times, goes_in_difference, waits_in_difference, no_star_at}
use Rattle.sql_conditions.proofs.expressions.close_minus.Goals as goal

pub returns-in_ok-push_two-in-Times-clause-exact : goal.returns-in_ok-push_two-in-Times-clause-exact
returns-in_ok-push_two-in-Times-clause-exact c = waits_in_difference c.args.left c.args.operand c.args.stack.now c.push_two.new.self c.args.tokens.now
    c.in-Times.rest.now c.in_ok-push_two-in-Times.ensures (sym c.in-Times.ensures)

pub returns-in_ok-push_two-in-Times-clause-spelled : goal.returns-in_ok-push_two-in-Times-clause-spelled
returns-in_ok-push_two-in-Times-clause-spelled c = λ all h.
    waits_times all (frame.Minus c.args.left ∷ c.args.stack.now) c.push_two.new.self c.args.operand c.args.tokens.now c.in-Times.rest.now
    c.in_ok-push_two-in-Times.ensures tt (sym c.in-Times.ensures) h

pub returns-in_ok-left-in_default-clause-exact : goal.returns-in_ok-left-in_default-clause-exact
returns-in_ok-left-in_default-clause-exact c =
    goes_in_difference c.args.stack.now c.args.tokens.now (no_star_at c.next_of.result c.args.tokens.now c.next_of.ensures c.in_default.not-Times)

pub returns-in_ok-left-in_default-clause-spelled : goal.returns-in_ok-left-in_default-clause-spelled
returns-in_ok-left-in_default-clause-spelled c = λ all h.
    closes_minus all c.args.stack.now c.args.left c.args.operand _ _ _ _ c.args.tokens.now
    (no_star_at c.next_of.result c.args.tokens.now c.next_of.ensures c.in_default.not-Times) c.in_ok-left-in_default.ensures.0
    c.in_ok-left-in_default.ensures.1 h
