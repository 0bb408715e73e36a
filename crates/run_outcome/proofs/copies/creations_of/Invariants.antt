use Rattle.std.proofs.Common.{◌≡◌, map, take}
use Rattle.inno_db.specs.declared.change.Change.TheVariants.{Create}
use Rattle.run_outcome.proofs.copies.creations_of.Given as goal

abbrev pub invariant-loop-schema : goal.invariant-loop-schema
invariant-loop-schema l = (l.changes.items ≡ map Create (take l.schema-index l.schema-items)) × (l.schema-items ≡ l.db.schemas)
