use Rattle.std.proofs.Common.{◌≡◌, drop}
use Rattle.inno_db.specs.Storing.{all_assigned}
use Rattle.sql_values.proofs.storing.assign_all.Given as goal

-- the assignments that are left make of the row so far what all make of the first one
abbrev pub invariant-loop-set : goal.invariant-loop-set
invariant-loop-set l =
    all_assigned l.columns l.after (drop l.set-index l.sets) ≡ all_assigned l.columns l.fn.row l.sets
