use Rattle.std.proofs.Common.{[], sym}
use Rattle.sql_conditions.proofs.Waiting.{on_bottom}
use Rattle.sql_conditions.proofs.Operands.{waits_times, waits_plus, waits_minus, times_at_bottom, plus_at_bottom, minus_at_bottom, no_operator_at, whole_at_bottom, whole_expression}
use Rattle.sql_conditions.proofs.expressions.finish.Goals as goal

pub returns-in_ok-push-in-Times-clause-exact : goal.returns-in_ok-push-in-Times-clause-exact
returns-in_ok-push-in-Times-clause-exact c = times_at_bottom c.args.operand c.push.new.self c.args.tokens.now c.in-Times.rest.now (on_bottom c.in_ok-push-in-Times.ensures c.requires) (sym c.in-Times.ensures)

pub returns-in_ok-push-in-Times-clause-spelled : goal.returns-in_ok-push-in-Times-clause-spelled
returns-in_ok-push-in-Times-clause-spelled c = λ all h. waits_times all [] c.push.new.self c.args.operand c.args.tokens.now c.in-Times.rest.now (on_bottom c.in_ok-push-in-Times.ensures c.requires) tt (sym c.in-Times.ensures) h

pub returns-in_ok-push-in-Plus-clause-exact : goal.returns-in_ok-push-in-Plus-clause-exact
returns-in_ok-push-in-Plus-clause-exact c = plus_at_bottom c.args.operand c.push-in-Plus.new.self c.args.tokens.now c.in-Plus.rest.now (on_bottom c.in_ok-push-in-Plus.ensures c.requires) (sym c.in-Plus.ensures)

pub returns-in_ok-push-in-Plus-clause-spelled : goal.returns-in_ok-push-in-Plus-clause-spelled
returns-in_ok-push-in-Plus-clause-spelled c = λ all h. waits_plus all [] c.push-in-Plus.new.self c.args.operand c.args.tokens.now c.in-Plus.rest.now (on_bottom c.in_ok-push-in-Plus.ensures c.requires) tt (sym c.in-Plus.ensures) h

pub returns-in_ok-push-in-Minus-clause-exact : goal.returns-in_ok-push-in-Minus-clause-exact
returns-in_ok-push-in-Minus-clause-exact c = minus_at_bottom c.args.operand c.push-in-Minus.new.self c.args.tokens.now c.in-Minus.rest.now (on_bottom c.in_ok-push-in-Minus.ensures c.requires) (sym c.in-Minus.ensures)

pub returns-in_ok-push-in-Minus-clause-spelled : goal.returns-in_ok-push-in-Minus-clause-spelled
returns-in_ok-push-in-Minus-clause-spelled c = λ all h. waits_minus all [] c.push-in-Minus.new.self c.args.operand c.args.tokens.now c.in-Minus.rest.now (on_bottom c.in_ok-push-in-Minus.ensures c.requires) tt (sym c.in-Minus.ensures) h

pub returns-in_default-clause-exact : goal.returns-in_default-clause-exact
returns-in_default-clause-exact c = whole_at_bottom c.args.tokens.now (no_operator_at c.next_of.result c.args.tokens.now c.next_of.ensures c.in_default.not-Times c.in_default.not-Plus c.in_default.not-Minus)

pub returns-in_default-clause-spelled : goal.returns-in_default-clause-spelled
returns-in_default-clause-spelled c = λ all h. whole_expression all c.args.operand c.args.tokens.now h
