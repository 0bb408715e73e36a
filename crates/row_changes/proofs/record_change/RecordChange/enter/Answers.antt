use Rattle.std.proofs.Common.{ap}
use Rattle.row_changes.proofs.{Changing.entered, Awaited.awaits_same}
use Rattle.world.specs.State.{WorldState}
use Rattle.row_changes.proofs.record_change.RecordChange.enter.Goals as goal

abbrev pub returns-in-Ok-clause-changes : goal.returns-in-Ok-clause-changes
returns-in-Ok-clause-changes g c =
    let p = c.requires.changing in
    rw c.then.ensures
    (entered _ _ _ _ p c.requires.stage (c.in-Ok.ensures.ok p.session p.has_work.session_is))

pub returns-in-Ok-clause-awaits : goal.returns-in-Ok-clause-awaits
returns-in-Ok-clause-awaits g c =
    let p = c.requires.changing in
    awaits_same _ _ (ap (λ (state : WorldState). state.indexes) (c.in-Ok.ensures.ok p.session p.has_work.session_is))
