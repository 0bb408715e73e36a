use Rattle.std.proofs.Common.{[]}
use Rattle.lock_table.specs.Queue.{without}
use Rattle.law_locks.proofs.Guarding as lemmas
use Rattle.law_locks.proofs.guards.withdrawals_keep_guards.Goals as goal

pub returns : goal.returns
returns c = record {
  guards = λ txn other index records key granted waiting was. lemmas.guards_kept txn index records key granted _
      (lemmas.served_locks txn index granted [] (without other waiting)) was;
  guarded = λ txn other index records key made log granted waiting was. lemmas.guarded_kept txn index records key made log granted _
      (lemmas.served_locks txn index granted [] (without other waiting)) was;
  alone = λ txn other index key granted waiting has. (lemmas.served_locks txn index granted [] (without other waiting)).alone key has;
}
