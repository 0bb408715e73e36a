use Rattle.std.proofs.Common.{None}
use Rattle.row_changes.proofs.Awaited.{awaits_at, replace_with_here, change_stays_if, replace_leaves, replace_hinders}
use Rattle.row_changes.proofs.Changing.{put_hindered, put_lacks_memory}
use Rattle.row_changes.proofs.entry_put.EntryPut.unmark.Goals as goal

pub returns-clause-awaits : goal.returns-clause-awaits
returns-clause-awaits g c =
    awaits_at _ _ _ _ c.replace-2.ensures.index_is
    (replace_with_here None c.args.actor c.args.self.now.entry _ _ _ c.replace-2.result c.replace-2.ensures.index_is.here)

pub returns-clause-puts : goal.returns-clause-puts
returns-clause-puts g c =
    let call = c.replace-2.ensures in
    let differs = c.in_default-replace.not-Done in
    put_hindered _ _ _ _ _ c.requires.putting (change_stays_if call (replace_leaves None _ _ _ _ _ _ call.index_is.here differs).0)
    (replace_hinders None _ _ _ _ _ _ (rw c.requires.phase at c.requires.putting.phase) call.index_is.here differs)

pub returns-in_default-clause-puts : goal.returns-in_default-clause-puts
returns-in_default-clause-puts g c = put_lacks_memory _ _ _ c.requires.putting
