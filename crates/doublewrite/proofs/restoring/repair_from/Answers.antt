use Rattle.store_api.proofs.Moments.{Meanwhile-join}
use Rattle.doublewrite.specs.Repairing.{ReadsAs}
use Rattle.doublewrite.proofs.restoring.repair_from.Goals as goal

pub returns-clause-repaired : goal.returns-clause-repaired
returns-clause-repaired g c = λ before known. c.clear_all.ensures.stands before (c.in_ok-restore_all.ensures.stands before known)

pub returns-clause-crash : goal.returns-clause-crash
returns-clause-crash g c = λ before known.
    Meanwhile-join (ReadsAs before) _ _ _ (c.restore_all.ensures.crash before known) (c.clear_all.ensures.crash before (c.in_ok-restore_all.ensures.stands before known))
