use Rattle.std.proofs.Common.{[], sym}
use Rattle.sql_conditions.proofs.Waiting.{waits_and, waits_or, on_bottom, and_at_bottom, or_at_bottom, no_operator_at, whole_at_bottom, whole_condition}
use Rattle.sql_conditions.proofs.conditions.finish.Goals as goal

pub returns-in_ok-push-in-And-clause-exact : goal.returns-in_ok-push-in-And-clause-exact
returns-in_ok-push-in-And-clause-exact c = and_at_bottom c.args.operand c.push.new.self c.args.tokens.now c.in-And.rest.now (on_bottom c.in_ok-push-in-And.ensures c.requires) (sym c.in-And.ensures)

pub returns-in_ok-push-in-And-clause-spelled : goal.returns-in_ok-push-in-And-clause-spelled
returns-in_ok-push-in-And-clause-spelled c = λ all h. waits_and all [] c.push.new.self c.args.operand c.args.tokens.now c.in-And.rest.now (on_bottom c.in_ok-push-in-And.ensures c.requires) tt (sym c.in-And.ensures) h

pub returns-in_ok-push-in-Or-clause-exact : goal.returns-in_ok-push-in-Or-clause-exact
returns-in_ok-push-in-Or-clause-exact c = or_at_bottom c.args.operand c.push-in-Or.new.self c.args.tokens.now c.in-Or.rest.now (on_bottom c.in_ok-push-in-Or.ensures c.requires) (sym c.in-Or.ensures)

pub returns-in_ok-push-in-Or-clause-spelled : goal.returns-in_ok-push-in-Or-clause-spelled
returns-in_ok-push-in-Or-clause-spelled c = λ all h. waits_or all [] c.push-in-Or.new.self c.args.operand c.args.tokens.now c.in-Or.rest.now (on_bottom c.in_ok-push-in-Or.ensures c.requires) tt (sym c.in-Or.ensures) h

pub returns-in_default-clause-exact : goal.returns-in_default-clause-exact
returns-in_default-clause-exact c = whole_at_bottom c.args.tokens.now (no_operator_at c.next_of.result c.args.tokens.now c.next_of.ensures c.in_default.not-And c.in_default.not-Or)

pub returns-in_default-clause-spelled : goal.returns-in_default-clause-spelled
returns-in_default-clause-spelled c = λ all h. whole_condition all c.args.operand c.args.tokens.now h
