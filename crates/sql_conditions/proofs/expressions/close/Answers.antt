use Rattle.std.proofs.Common.{refl}
use Rattle.sql_conditions.specs.Expressions as read
use Rattle.sql_conditions.proofs.Operands.{closes_negate, closes_times}
use Rattle.sql_conditions.proofs.expressions.close.Goals as goal

pub returns-in_ok-new-in-Negate-clause-exact : goal.returns-in_ok-new-in-Negate-clause-exact
unfolding read.close
returns-in_ok-new-in-Negate-clause-exact c = rw c.in-Negate.is refl

pub returns-in_ok-new-in-Negate-clause-spelled : goal.returns-in_ok-new-in-Negate-clause-spelled
returns-in_ok-new-in-Negate-clause-spelled c = λ all h. closes_negate all c.args.frame c.args.stack.now c.args.operand _ _ c.args.tokens.now
    c.in-Negate.is c.in_ok-new-in-Negate.ensures.ok h

pub returns-in_ok-left-in-Times-clause-exact : goal.returns-in_ok-left-in-Times-clause-exact
unfolding read.close
returns-in_ok-left-in-Times-clause-exact c = rw c.in-Times.is refl

pub returns-in_ok-left-in-Times-clause-spelled : goal.returns-in_ok-left-in-Times-clause-spelled
returns-in_ok-left-in-Times-clause-spelled c = λ all h. closes_times all c.args.frame c.args.stack.now c.in-Times.left c.args.operand _ _ _ _
    c.args.tokens.now c.in-Times.is c.in_ok-left-in-Times.ensures.0 c.in_ok-left-in-Times.ensures.1 h
