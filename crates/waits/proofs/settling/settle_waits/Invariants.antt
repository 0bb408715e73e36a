use Rattle.std.proofs.Common.{◌+◌, ◌≤◌, length, take, vec_capacity}
use Rattle.std.specs.List.{AllByRecursion}
use Rattle.waits.specs.Falls.{MaySettle, Settles, AreCopied}
use Rattle.waits.proofs.settling.settle_waits.Given as goal

abbrev pub invariant-loop-txn : goal.invariant-loop-txn
invariant-loop-txn g l = record {
  settles : Settles (take l.txn-index l.grown) l.sizes l.asked l.fallen.items (g.W.World.state l.fn.world) (g.W.World.state l.world);
  may : MaySettle l.sessions (g.W.World.state l.world);
  room : length l.fallen.items + length (g.W.World.state l.world).locks.waiting ≤ vec_capacity l.fallen;
  copied : AllByRecursion AreCopied l.fallen.items;
}
