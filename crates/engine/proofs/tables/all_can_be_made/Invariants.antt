use Rattle.std.proofs.Common.{All, take}
use Rattle.engine.specs.Fit.{CanBeMade}
use Rattle.engine.proofs.tables.all_can_be_made.Given as goal

abbrev pub invariant-loop-schema : goal.invariant-loop-schema
invariant-loop-schema l = All CanBeMade (take l.schema-index l.schemas)
