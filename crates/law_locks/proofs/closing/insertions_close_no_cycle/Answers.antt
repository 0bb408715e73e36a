use Rattle.law_locks.proofs.Calls.{stood_before, inserted_less}
use Rattle.law_locks.proofs.closing.insertions_close_no_cycle.Goals as goal

pub returns : goal.returns
returns c txn new next granted waiting cycle single dead stands = stood_before granted waiting _ waiting single
    (inserted_less txn new next granted waiting dead) cycle stands
