use Rattle.std.proofs.Common.{sym}
use Rattle.sql_conditions.specs.Expressions as read
use Rattle.sql_conditions.proofs.Operands.{negate_waits, bracket_waits, negate_step, bracket_step, value_opens}
use Rattle.sql_conditions.proofs.expressions.step.Goals as goal

pub returns-in_ok-push-in-Minus-clause-exact : goal.returns-in_ok-push-in-Minus-clause-exact
returns-in_ok-push-in-Minus-clause-exact c = negate_step c.args.stack.now c.push.new.self c.args.tokens.now c.in-Minus.rest.now c.in_ok-push-in-Minus.ensures (sym c.in-Minus.ensures)

pub returns-in_ok-push-in-Minus-clause-spelled : goal.returns-in_ok-push-in-Minus-clause-spelled
returns-in_ok-push-in-Minus-clause-spelled c = λ all h. negate_waits all c.args.stack.now c.push.new.self c.args.tokens.now c.in-Minus.rest.now c.in_ok-push-in-Minus.ensures (sym c.in-Minus.ensures) h

pub returns-in_ok-push-in-Bracket-clause-exact : goal.returns-in_ok-push-in-Bracket-clause-exact
returns-in_ok-push-in-Bracket-clause-exact c = bracket_step c.args.stack.now c.push-in-Bracket.new.self c.args.tokens.now c.in-Bracket.rest.now c.in_ok-push-in-Bracket.ensures (sym c.in-Bracket.ensures)

pub returns-in_ok-push-in-Bracket-clause-spelled : goal.returns-in_ok-push-in-Bracket-clause-spelled
returns-in_ok-push-in-Bracket-clause-spelled c = λ all h. bracket_waits all c.args.stack.now c.push-in-Bracket.new.self c.args.tokens.now c.in-Bracket.rest.now c.in_ok-push-in-Bracket.ensures (sym c.in-Bracket.ensures) h

pub returns-in-Value-clause-exact : goal.returns-in-Value-clause-exact
returns-in-Value-clause-exact c = rw (value_opens (read.marks c.args.stack.now) c.args.tokens.now (sym c.in-Value.ensures)) c.value_step.ensures.exact
