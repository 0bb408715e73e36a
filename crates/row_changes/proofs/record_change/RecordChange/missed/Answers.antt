use Rattle.row_changes.proofs.Changing.{missed}
use Rattle.row_changes.proofs.record_change.RecordChange.missed.Goals as goal

abbrev pub returns-in-Remove-clause-changes : goal.returns-in-Remove-clause-changes
returns-in-Remove-clause-changes g c = λ start missing.
    missed _ _ _ _ missing.changing _ c.in-Remove.is missing.stays missing.absent
