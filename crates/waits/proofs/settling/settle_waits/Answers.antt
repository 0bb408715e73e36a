use Rattle.std.proofs.Common.{get_or, take}
use Rattle.std.proofs.lemmas.List.{take_more}
use Rattle.std.proofs.lemmas.List.Elements.{All-from_recursion, All-get_or}
use Rattle.waits.specs.Falls.{IsOwned, AreCopied}
use Rattle.waits.proofs.Under.{all_joined, settles_next, owned_still}
use Rattle.waits.proofs.settling.settle_waits.Goals as goal

pub settle_through-requires-clause-owned : goal.settle_through-requires-clause-owned
settle_through-requires-clause-owned g c =
    let start = g.W.World.state c.args.world.now in
    owned_still (take c.loop-txn.txn-index c.args.grown.now) c.args.sizes.now c.args.asked c.loop-txn.fallen.items start
    (g.W.World.state c.loop-txn.world) (get_or c.args.grown.now c.loop-txn.txn-index 0) c.loop-txn.invariant.settles
    (All-get_or (IsOwned start) c.args.grown.now c.loop-txn.txn-index 0 c.loop-txn-test.true
    (All-from_recursion (IsOwned start) c.args.grown.now c.requires.grown))

pub loop-txn-preserved : goal.loop-txn-preserved
loop-txn-preserved g c =
    let e = c.settle_through.ensures in
    let txn = get_or c.args.grown.now c.loop-txn.txn-index 0 in
    let front = take c.loop-txn.txn-index c.args.grown.now in
    record {
      settles =
          rw (take_more c.args.grown.now c.loop-txn.txn-index 0 c.loop-txn-test.true)
          (settles_next front txn c.args.sizes.now c.args.asked c.loop-txn.fallen.items c.settle_through.new.fallen.items
          (g.W.World.state c.args.world.now) (g.W.World.state c.loop-txn.world) (g.W.World.state c.settle_through.new.world) c.requires.may.sound
          c.loop-txn.invariant.settles e.settles);
      may = e.may;
      room = e.room;
      copied =
          rw e.settles.items
          (all_joined AreCopied c.loop-txn.fallen.items e.settles.falls c.loop-txn.invariant.copied e.settles.copied);
    }
