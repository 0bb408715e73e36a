use Rattle.std.proofs.Common.{◌≡◌}
use Rattle.tests_locks.proofs.turns.take_turn.Given as goal

-- until the seat has the turn it stays as it was
abbrev pub invariant-loop : goal.invariant-loop
invariant-loop g l = (l.pass.table_id ≡ l.initial.pass.table_id) × (l.pass.me ≡ l.initial.pass.me)
