use Rattle.std.proofs.Common.{All, take}
use Rattle.law_stored_rows.specs.Storable.{IsKeyOn}
use Rattle.engine.proofs.tables.are_keys_on.Given as goal

abbrev pub invariant-loop-key : goal.invariant-loop-key
invariant-loop-key l = All (IsKeyOn l.columns l.primary) (take l.key-index l.keys)
