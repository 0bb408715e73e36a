use Rattle.std.proofs.Common.{subst}
use Rattle.transaction_statements.specs.Running.{RunsBy}
use Rattle.transaction_statements.specs.declared.statement.TransactionStatement.TheVariants as statements
use Rattle.transaction_statements.specs.declared.committer.Committer.TheVariants as committers
use Rattle.transaction_statements.proofs.Ending.{finishes_commit, finishes_turn_on}
use Rattle.transaction_statements.proofs.commits.step_closed.Goals as goal

pub finish-requires-clause-finished : goal.finish-requires-clause-finished
finish-requires-clause-finished g c =
    let s = c.args.session in
    let past = c.args.lists.now.past in
    let r : RunsBy past s (statements.Closed committers.Commit) =
    subst (λ committer. RunsBy past s (statements.Closed committer)) c.in-Commit.is c.requires.running.0 in
    finishes_commit s past r.0 r.1 r.2

pub finish-requires-in-TurnOn-clause-finished : goal.finish-requires-in-TurnOn-clause-finished
finish-requires-in-TurnOn-clause-finished g c =
    let s = c.args.session in
    let past = c.args.lists.now.past in
    let r : RunsBy past s (statements.Closed committers.TurnOn) =
    subst (λ committer. RunsBy past s (statements.Closed committer)) c.in-TurnOn.is c.requires.running.0 in
    finishes_turn_on s past r.0 r.1 r.2
