use Rattle.std.specs.Prelude.{◌≤◌, IsTrue}
use Rattle.mtr.specs.Calls.{GivesUp}
use Rattle.btree.specs.Reads.{IsIdle}
use Rattle.btree_split.proofs.Followed.{Followed}
use Rattle.btree_split.proofs.way.lowest_room.Given as goal

abbrev pub invariant-loop : goal.invariant-loop
invariant-loop g l = record {
  reads : GivesUp (g.M.Mtr.state l.fn.m) (g.M.Mtr.state l.m);
  idle : IsIdle (g.M.Mtr.state l.m);
  few : l.so_far.full ≤ l.counter;
  followed : IsTrue (g.M.Mtr.state l.m).told
      → Followed l.tree (g.M.Mtr.state l.fn.m).standing l.key l.counter l.page l.so_far.above l.so_far.full;
}
