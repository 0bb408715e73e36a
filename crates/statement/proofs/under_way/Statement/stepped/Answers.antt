use Rattle.std.proofs.Common.{subst}
use Rattle.statement.specs.Running.{IsRunning}
use Rattle.statement.proofs.Quiet.{transaction_tells_none}
use Rattle.statement.proofs.under_way.Statement.stepped.Goals as goal

pub returns-in-Transaction-clause-quiet : goal.returns-in-Transaction-clause-quiet
returns-in-Transaction-clause-quiet g c = λ wants-none.
    transaction_tells_none c.args.session c.args.lists.now c.step-statement.new.lists c.in-Transaction.statement c.step-statement.result.0
    c.step-statement.result.1 (subst (IsRunning c.args.lists.now c.args.session) c.in-Transaction.is c.requires.may.running) c.step-statement.ensures.steps
    c.step-statement.ensures.nears
