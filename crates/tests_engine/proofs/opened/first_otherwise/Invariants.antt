use Rattle.tests_engine.specs.Alone.{IsAlone}
use Rattle.tests_engine.proofs.opened.first_otherwise.Given as goal

abbrev pub invariant-loop-text : goal.invariant-loop-text
invariant-loop-text g l = IsAlone l.engine
