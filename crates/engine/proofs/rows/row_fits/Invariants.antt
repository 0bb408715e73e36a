use Rattle.std.proofs.Common.{All, take, drop}
use Rattle.key_codec.specs.Keys.{Has64Bits}
use Rattle.row_codec.specs.Rows.{IsRowOf}
use Rattle.engine.proofs.rows.row_fits.Given as goal

-- the values so far fit, so the row does where the rest does
abbrev pub invariant-loop-place : goal.invariant-loop-place
invariant-loop-place l = record {
  range : All Has64Bits (take l.place l.row);
  whole : IsRowOf (drop l.place l.columns) (drop l.place l.row) → IsRowOf l.columns l.row;
  rest : IsRowOf l.columns l.row → IsRowOf (drop l.place l.columns) (drop l.place l.row);
}
