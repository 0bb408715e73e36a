use Rattle.law_locks.proofs.Calls.{stood_before, granted_less}
use Rattle.law_locks.proofs.closing.grants_close_no_cycle.Goals as goal

pub returns : goal.returns
returns c old new lock cycle single dead is stands = stood_before old.granted old.waiting new.granted new.waiting single
    (granted_less old lock new is dead) cycle stands
