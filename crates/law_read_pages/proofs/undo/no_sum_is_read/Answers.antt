use Rattle.law_read_pages.proofs.Sums.{ignores}
use Rattle.law_read_pages.proofs.undo.no_sum_is_read.Goals as goal

pub returns : goal.returns
returns c = ignores
