use Rattle.session_engine.specs.Seats.{IsWorking}
use Rattle.tests_engine.specs.Alone.{IsAlone}
use Rattle.tests_engine.proofs.sessions.asked.Given as goal

abbrev pub invariant-loop : goal.invariant-loop
invariant-loop g l = record { alone : IsAlone l.engine; working : IsWorking 0 l.engine }
