use Rattle.std.proofs.Common.{◌≡◌, drop}
use Rattle.inno_db.specs.Typing.{tuple_fits}
use Rattle.sql_refusals.proofs.typing.fits_tuple.Given as goal

-- the columns that are left decide
abbrev pub invariant-loop-place : goal.invariant-loop-place
invariant-loop-place l =
    tuple_fits l.names l.tuple l.place (drop l.place l.columns) ≡ tuple_fits l.names l.tuple 0 l.columns
