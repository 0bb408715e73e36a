use Rattle.std.proofs.Common.{◌≡◌, drop}
use Rattle.inno_db.specs.Refusals.{is_named_twice}
use Rattle.sql_refusals.proofs.refusal.repeats.Given as goal

-- the names that are left decide
abbrev pub invariant-loop-place : goal.invariant-loop-place
invariant-loop-place l = is_named_twice (drop l.place l.names) ≡ is_named_twice l.names
