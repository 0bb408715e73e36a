use Rattle.std.proofs.Common.{◌≡◌, take, reverse}
use Rattle.std.specs.List.{sum_by}
use Rattle.sql_history.specs.Counts.{capped, rows_of_entry}
use Rattle.sql_history.proofs.counts.rows_kept.Given as goal

-- the rows of the entries so far are counted, the oldest first
abbrev pub invariant-loop-event : goal.invariant-loop-event
invariant-loop-event l = (l.total ≡ capped (sum_by rows_of_entry (take l.event-index l.event-items))) × (reverse l.event-items ≡ l.history.past)
