use Rattle.std.proofs.Common.{◌≡◌, take}
use Rattle.run_outcome.specs.Report.{sum_at}
use Rattle.run_outcome.proofs.total.sum_at.Given as goal

abbrev pub invariant-loop-row : goal.invariant-loop-row
invariant-loop-row l = (l.sum ≡ sum_at l.place (take l.row-index l.row-items)) × (l.row-items ≡ l.rows)
