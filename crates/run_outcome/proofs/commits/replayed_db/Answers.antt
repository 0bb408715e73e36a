use Rattle.std.proofs.Common.{take, reverse, sym, subst}
use Rattle.run_outcome.proofs.Going.{IsReplayed, next_past, once_here, goes_on}
use Rattle.run_outcome.proofs.commits.replayed_db.Goals as goal

pub loop-event-preserved : goal.loop-event-preserved
loop-event-preserved c =
    let entries = c.events-event-items.result.now in
    let i = c.loop-event.event-index in
    let e = c.event-item.result in
    let once = once_here entries c.args.history.now.past i e c.loop-event-test.true c.event-item.is c.loop-event.invariant.1 c.requires in
    let next = goes_on e (reverse (take i entries)) c.loop-event.db c.replay_entry.new.db c.loop-event.pending.items
    c.replay_entry.new.pending.items once c.loop-event.invariant.0 c.in_ok-replay_entry.ensures in (
      subst (λ past. IsReplayed past c.replay_entry.new.db c.replay_entry.new.pending.items)
          (sym (next_past entries i e c.loop-event-test.true c.event-item.is)) next,
      c.loop-event.invariant.1,
    )
