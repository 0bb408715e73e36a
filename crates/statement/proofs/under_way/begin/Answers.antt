use Rattle.std.proofs.Common.{subst}
use Rattle.sql_lists.specs.Steps.{IsTaken}
use Rattle.statement.specs.Running.{IsOfKind}
use Rattle.statement.proofs.Looking.{taken_with, unrefused}
use Rattle.statement.proofs.under_way.begin.Goals as goal

pub new-requires-clause-taken : goal.new-requires-clause-taken
new-requires-clause-taken g c =
    (taken_with c.args.session c.requires.running.0 c.args.stmt c.args.lists.now.past c.requires.running.1 c.requires.running.2 c.args.ready
    c.requires.ready).taken

pub new-requires-in-Read-clause-taken : goal.new-requires-in-Read-clause-taken
new-requires-in-Read-clause-taken g c =
    taken_with c.args.session c.requires.running.0 c.args.stmt c.args.lists.now.past c.requires.running.1 c.requires.running.2 c.args.ready
    c.requires.ready

pub new-requires-in-Write-clause-taken : goal.new-requires-in-Write-clause-taken
new-requires-in-Write-clause-taken g c =
    (taken_with c.args.session c.requires.running.0 c.args.stmt c.args.lists.now.past c.requires.running.1 c.requires.running.2 c.args.ready
    c.requires.ready).taken

pub new-requires-in-Read-clause-unrefused : goal.new-requires-in-Read-clause-unrefused
new-requires-in-Read-clause-unrefused g c =
    unrefused c.args.session c.requires.ready.0 c.args.stmt c.args.lists.now.past c.requires.ready.2

pub new-requires-in-Write-clause-unrefused : goal.new-requires-in-Write-clause-unrefused
new-requires-in-Write-clause-unrefused g c =
    unrefused c.args.session c.requires.ready.0 c.args.stmt c.args.lists.now.past c.requires.ready.2

pub new-requires-in-Transaction-clause-taken : goal.new-requires-in-Transaction-clause-taken
new-requires-in-Transaction-clause-taken g c =
    subst (λ stmt. IsTaken c.args.session stmt c.args.lists.now.past)
    (subst (λ kind. IsOfKind kind c.args.stmt) c.in-Transaction.is c.requires.ready.5)
    (taken_with c.args.session c.requires.running.0 c.args.stmt c.args.lists.now.past c.requires.running.1 c.requires.running.2 c.args.ready
    c.requires.ready).taken
