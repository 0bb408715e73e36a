use Rattle.std.proofs.Common.{length, vec_capacity}
use Rattle.waits.specs.Falls.{IsOpenAt}
use Rattle.waits.proofs.Under.{IsUnderWay}
use Rattle.waits.proofs.settling.settle_through.Given as goal

abbrev pub invariant-loop-cycle : goal.invariant-loop-cycle
invariant-loop-cycle g l = record {
  open_at : IsOpenAt (g.W.World.state l.world) l.session l.txn;
  under : IsUnderWay l.sessions l.txn l.sizes l.asked l.fn.fallen.items l.fallen.items (vec_capacity l.fallen) (g.W.World.state l.fn.world)
      (g.W.World.state l.world);
}

abbrev pub decreases-loop-cycle : goal.decreases-loop-cycle
decreases-loop-cycle g l = length (g.W.World.state l.world).locks.waiting
