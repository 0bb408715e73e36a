use Rattle.deadlock.proofs.VictimLemmas.{IsChosen}
use Rattle.deadlock.proofs.rollback.victim.Given as goal

abbrev pub invariant-loop-edge : goal.invariant-loop-edge
invariant-loop-edge l = IsChosen l.edges l.sizes l.asked l.edge-index l.chosen
