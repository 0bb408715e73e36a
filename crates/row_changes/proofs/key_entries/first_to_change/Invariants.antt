use Rattle.row_changes.specs.Keys.{StayBetween}
use Rattle.row_changes.proofs.key_entries.first_to_change.Given as goal

abbrev pub invariant-loop-which : goal.invariant-loop-which
invariant-loop-which l = StayBetween l.fn.schema l.fn.from l.which l.fn.before l.fn.after
