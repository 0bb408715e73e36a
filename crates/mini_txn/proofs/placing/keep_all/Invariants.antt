use Rattle.mini_txn.proofs.Keeping.{AreFirstFixed}
use Rattle.mini_txn.proofs.placing.keep_all.Given as goal

abbrev pub invariant-loop-page : goal.invariant-loop-page
invariant-loop-page l = AreFirstFixed l.fn.pool l.page l.pool
