use Rattle.page_checkpoint.proofs.NewRuns.{either_run}
use Rattle.page_checkpoint.proofs.new_runs.a_crash_leaves_one_of_both_runs.Goals as goal

pub returns : goal.returns
returns c = λ capacity run first flushed groups base batch before s image bytes is clean log check keeps left honest at.
    either_run capacity run first groups base batch before is check flushed clean s image keeps left honest bytes at log
