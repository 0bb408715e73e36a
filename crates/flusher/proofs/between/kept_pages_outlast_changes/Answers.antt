use Rattle.flusher.proofs.Homes.{kept_outlasts}
use Rattle.flusher.proofs.between.kept_pages_outlast_changes.Goals as goal

pub returns : goal.returns
returns c = kept_outlasts
