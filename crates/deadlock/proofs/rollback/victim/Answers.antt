use Rattle.std.proofs.Common.{sym}
use Rattle.deadlock.proofs.VictimLemmas.{chosen_first, chosen_next, chosen_stays, chosen_last}
use Rattle.deadlock.proofs.rollback.victim.Goals as goal
use Rattle.deadlock.proofs.rollback.victim.Goals.{then-goes_before, else-goes_before}

pub loop-edge-init : goal.loop-edge-init
loop-edge-init c = chosen_first _ _ _ _ (rw c.as_slice-edges.ensures c.requires)

pub loop-edge-preserved : goal.loop-edge-preserved
loop-edge-preserved c =
    elim c.if-goes_before.branch [
      | then-goes_before w ↦ rw w.chosen-is (chosen_next _ _ _ _ _ _ c.loop-edge.invariant c.loop-edge-test.true c.edge-item.is (rw w.if-goes_before.true at c.goes_before.ensures))
      | else-goes_before w ↦ rw w.chosen-is (chosen_stays _ _ _ _ _ _ c.loop-edge.invariant c.loop-edge-test.true c.edge-item.is (rw w.if-goes_before.false at c.goes_before.ensures))
    ]

pub returns : goal.returns
returns c = rw (sym c.as_slice-edges.ensures) (chosen_last _ _ _ _ _ c.loop-edge.invariant c.loop-edge-test.false)
