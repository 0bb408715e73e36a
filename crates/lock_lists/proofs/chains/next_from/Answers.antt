use Rattle.lock_lists.proofs.Walks.{goes_past, past_falls}
use Rattle.lock_lists.proofs.chains.next_from.Goals as goal

pub loop-at-smaller : goal.loop-at-smaller
loop-at-smaller c =
    past_falls c.args.newest.now c.args.older.now c.args.marks.now c.requires.linked c.args.bucket c.args.from c.loop-at.next c.loop-at.at c.loop-at.invariant c.loop-at-test.true

pub loop-at-preserved : goal.loop-at-preserved
loop-at-preserved c =
    goes_past c.args.newest.now c.args.older.now c.args.marks.now c.requires.linked c.args.bucket c.args.from c.loop-at.next c.loop-at.at c.loop-at.invariant c.loop-at-test.true
