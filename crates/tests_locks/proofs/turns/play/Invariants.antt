use Rattle.std.proofs.Common.{◌≡◌}
use Rattle.turn_rule.specs.Steps.{IsAtRest}
use Rattle.tests_locks.proofs.turns.play.Given as goal

-- between two turns the seat is at rest
abbrev pub invariant-loop-j : goal.invariant-loop-j
invariant-loop-j g l = (l.pass.table_id ≡ l.initial.pass.table_id) × IsAtRest l.pass.me l.number
