use Rattle.store_api.specs.declared.answers.Asked.TheVariants.{Granted}
use Rattle.law_locks.proofs.Clashes.{nobody_beside}
use Rattle.law_locks.proofs.Guarding.{answered_locks}
use Rattle.law_locks.proofs.Granting.{granted_record}
use Rattle.law_locks.proofs.alone.nobody_is_granted_what_another_has_alone.Goals as goal

pub returns : goal.returns
returns c other key old new lock differ apart is at own alone =
    nobody_beside lock.txn other lock.spot.index key differ new.granted apart
    ((answered_locks other lock.spot.index old new lock Granted is).alone key alone) (granted_record lock key at old new is own)
