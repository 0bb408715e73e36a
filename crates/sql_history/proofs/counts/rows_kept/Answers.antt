use Rattle.std.proofs.Common.{arith}
use Rattle.sql_history.proofs.Counting.{all_counted}
use Rattle.sql_history.proofs.counts.rows_kept.Goals as goal

pub returns : goal.returns
returns c =
    all_counted c.events-event-items.result.now c.args.history.now.past c.loop-event.event-index c.loop-event.total c.loop-event.invariant.0
    (omega (arith, c.loop-event-test.false)) c.events-event-items.ensures
