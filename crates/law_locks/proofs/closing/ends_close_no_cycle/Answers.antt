use Rattle.std.specs.Prelude.{◌==◌, not}
use Rattle.law_locks.proofs.Calls.{stood_before, served_less}
use Rattle.law_locks.proofs.closing.ends_close_no_cycle.Goals as goal

pub returns : goal.returns
returns c txn granted waiting cycle single stands =
    stood_before granted waiting _ _ single (served_less (λ lock. not (lock.txn == txn)) (λ lock. not (lock.txn == txn)) granted waiting single) cycle stands
