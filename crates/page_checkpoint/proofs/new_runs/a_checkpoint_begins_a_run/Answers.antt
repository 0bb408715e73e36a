use Rattle.page_checkpoint.proofs.NewRuns.{begins, begun_other}
use Rattle.page_checkpoint.proofs.new_runs.a_checkpoint_begins_a_run.Goals as goal

pub returns-clause-run : goal.returns-clause-run
returns-clause-run c = λ capacity run first groups base batch before is check. begins capacity run first groups base batch before is check

pub returns-clause-same : goal.returns-clause-same
returns-clause-same c = λ groups base header page unlike. begun_other header base groups page unlike
