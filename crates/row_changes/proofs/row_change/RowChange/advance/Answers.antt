use Rattle.row_changes.proofs.{Pushed.record_went, Pushed.record_recorded, Pushed.record_waits}
use Rattle.row_changes.proofs.row_change.RowChange.advance.Goals as goal

abbrev pub returns-in-Went-clause-makes : goal.returns-in-Went-clause-makes
returns-in-Went-clause-makes g c =
    λ chains beside p. record_went c.args.s chains beside _ c.in-Record.is p c.step.new.self c.in-Went.ensures.changes

abbrev pub returns-in-Done-clause-makes : goal.returns-in-Done-clause-makes
returns-in-Done-clause-makes g c = λ chains beside p.
    rw c.replace.ensures.after
    (record_recorded c.args.s chains beside _ c.in-Record.is p c.in-Done.before c.keys_of-next.result c.keys_of-next.ensures c.in-Done.ensures.changes)

abbrev pub returns-in-Hindered-clause-makes : goal.returns-in-Hindered-clause-makes
returns-in-Hindered-clause-makes g c =
    λ chains beside p. record_waits c.args.s chains beside _ c.in-Record.is p c.step.new.self c.in-Hindered.why c.in-Hindered.ensures.changes
