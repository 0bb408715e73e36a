use Rattle.std.proofs.Common.{◌≡◌, ◌++◌, drop, map}
use Rattle.inno_db.specs.declared.change.Change.TheVariants.{Put}
use Rattle.inno_db.specs.Outcome.{inserted}
use Rattle.plain_sql.proofs.Writing.{after_all}
use Rattle.plain_sql.proofs.changes.insert.Given as goal

-- the rows so far, and then those of the tuples that are left, are all that is inserted
abbrev pub invariant-loop-tuple : goal.invariant-loop-tuple
invariant-loop-tuple l =
    after_all (map (λ row. Put l.table row) l.added.items)
    (inserted l.table l.schema l.names (l.rows ++ l.added.items) (drop l.tuple-index l.tuples))
    ≡ inserted l.table l.schema l.names l.rows l.tuples
