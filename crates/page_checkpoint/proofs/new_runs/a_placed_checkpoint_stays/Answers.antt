use Rattle.page_checkpoint.proofs.Staying.{placed_new}
use Rattle.page_checkpoint.proofs.new_runs.a_placed_checkpoint_stays.Goals as goal

pub returns : goal.returns
returns c = λ capacity run first flushed groups base staged before s is clean check done has all.
    placed_new capacity run first groups base staged before is check flushed clean s done has all
