use Rattle.std.proofs.Common.{◌≡◌, take, reverse}
use Rattle.run_outcome.proofs.Going.{IsReplayed}
use Rattle.run_outcome.proofs.commits.replayed_db.Given as goal

-- the entries so far are replayed
abbrev pub invariant-loop-event : goal.invariant-loop-event
invariant-loop-event l =
    IsReplayed (reverse (take l.event-index l.event-items)) l.db l.pending.items × (reverse l.event-items ≡ l.history.past)
