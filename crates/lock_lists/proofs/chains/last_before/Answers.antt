use Rattle.lock_lists.proofs.Walks.{goes_back, back_falls}
use Rattle.lock_lists.proofs.chains.last_before.Goals as goal

pub loop-at-smaller : goal.loop-at-smaller
loop-at-smaller c = back_falls c.args.newest.now c.args.older.now c.args.marks.now c.requires.linked c.args.bucket c.args.limit c.loop-at.at c.loop-at.invariant c.loop-at-test.true

pub loop-at-preserved : goal.loop-at-preserved
loop-at-preserved c = goes_back c.args.newest.now c.args.older.now c.args.marks.now c.requires.linked c.args.bucket c.args.limit c.loop-at.at c.loop-at.invariant c.loop-at-test.true
