use Rattle.std.proofs.Common.{arith}
use Rattle.mini_txn.proofs.Keeping.{none_fixed, one_fixed, all_fixed}
use Rattle.mini_txn.proofs.placing.keep_all.Goals as goal

pub loop-page-init : goal.loop-page-init
loop-page-init c = none_fixed c.args.pool.now

pub loop-page-preserved : goal.loop-page-preserved
loop-page-preserved c = one_fixed c.args.pool.now c.loop-page.page c.loop-page.pool c.keep.new.pool c.loop-page.invariant c.keep.ensures

pub returns : goal.returns
returns c = all_fixed c.args.pool.now c.loop-page.page c.loop-page.pool (omega (arith, c.loop-page-test.false, c.pages-page-end.ensures)) c.loop-page.invariant
