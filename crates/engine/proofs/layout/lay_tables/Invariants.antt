use Rattle.std.proofs.Common.{◌≡◌, take}
use Rattle.engine.proofs.Grown.{tables_alone}
use Rattle.engine.proofs.layout.lay_tables.Given as goal

abbrev pub invariant-loop-schema : goal.invariant-loop-schema
invariant-loop-schema l = (l.opening ≡ tables_alone (take l.schema-index l.schema-items)) × (l.schema-items ≡ l.db.schemas)
