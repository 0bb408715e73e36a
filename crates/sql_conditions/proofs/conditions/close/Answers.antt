use Rattle.std.proofs.Common.{refl}
use Rattle.sql_conditions.specs.Conditions as read
use Rattle.sql_conditions.proofs.Waiting.{closes_not, closes_and}
use Rattle.sql_conditions.proofs.conditions.close.Goals as goal

pub returns-in_ok-new-in-Not-clause-exact : goal.returns-in_ok-new-in-Not-clause-exact
unfolding read.close
returns-in_ok-new-in-Not-clause-exact c = rw c.in-Not.is refl

pub returns-in_ok-new-in-Not-clause-spelled : goal.returns-in_ok-new-in-Not-clause-spelled
returns-in_ok-new-in-Not-clause-spelled c = λ all h. closes_not all c.args.frame c.args.stack.now c.args.operand _ _ c.args.tokens.now c.in-Not.is
    c.in_ok-new-in-Not.ensures.ok h

pub returns-in_ok-left-in-And-clause-exact : goal.returns-in_ok-left-in-And-clause-exact
unfolding read.close
returns-in_ok-left-in-And-clause-exact c = rw c.in-And.is refl

pub returns-in_ok-left-in-And-clause-spelled : goal.returns-in_ok-left-in-And-clause-spelled
returns-in_ok-left-in-And-clause-spelled c = λ all h. closes_and all c.args.frame c.args.stack.now c.in-And.left c.args.operand _ _ _ _
    c.args.tokens.now c.in-And.is c.in_ok-left-in-And.ensures.0 c.in_ok-left-in-And.ensures.1 h
