use Rattle.page_recovery.proofs.GoingOn.{taken_run, newest, placed}
use Rattle.page_recovery.proofs.laws.a_recovered_run_goes_on.Goals as goal

pub returns-clause-run : goal.returns-clause-run
returns-clause-run c = λ capacity run first flushed groups base before r is still leaves rec.
    taken_run capacity run first flushed groups base before is still leaves r rec

pub returns-clause-newest : goal.returns-clause-newest
returns-clause-newest c = λ capacity run first flushed groups base before r page is still leaves rec below.
    newest capacity run first flushed groups base before is still leaves r rec page below

pub returns-clause-placed : goal.returns-clause-placed
returns-clause-placed c = λ capacity run first flushed last groups base before s r is still leaves rec repaired reads left is_last.
    placed capacity run first flushed groups base before is still leaves r rec s repaired reads left last is_last
