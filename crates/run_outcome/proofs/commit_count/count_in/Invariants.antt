use Rattle.std.proofs.Common.{◌≡◌, ◌≤◌, take}
use Rattle.std.specs.List.{count_by}
use Rattle.run_outcome.specs.Report.{is_commit}
use Rattle.run_outcome.proofs.commit_count.count_in.Given as goal

abbrev pub invariant-loop-event : goal.invariant-loop-event
invariant-loop-event l = (l.count ≡ count_by is_commit (take l.event-index l.events)) × (l.count ≤ l.event-index)
