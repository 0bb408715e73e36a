use Rattle.std.specs.Prelude.{not}
use Rattle.lock_rules.specs.Conflicts.{same_lock}
use Rattle.law_locks.proofs.Calls.{stood_before, released_less}
use Rattle.law_locks.proofs.closing.releases_close_no_cycle.Goals as goal

pub returns : goal.returns
returns c gone granted waiting cycle single stands = stood_before granted waiting _ _ single
    (released_less (λ lock. not (same_lock lock gone)) granted waiting single) cycle stands
