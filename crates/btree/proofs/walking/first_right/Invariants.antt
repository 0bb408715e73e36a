use Rattle.std.proofs.Common.{List, ℕ}
use Rattle.std.specs.Prelude.{IsTrue}
use Rattle.mtr.specs.Calls.{GivesUp}
use Rattle.btree.specs.Reads.{IsIdle}
use Rattle.btree.specs.Walks.{AreRest}
use Rattle.btree.proofs.Passed.{Passed}
use Rattle.btree.proofs.walking.first_right.Given as goal

abbrev pub invariant-loop : goal.invariant-loop
invariant-loop g l = record {
  reads : GivesUp (g.M.Mtr.state l.fn.m) (g.M.Mtr.state l.m);
  idle : IsIdle (g.M.Mtr.state l.m);
  passed : IsTrue (g.M.Mtr.state l.m).told → (ys : List ℕ) → AreRest l.tree (g.M.Mtr.state l.fn.m).standing l.fn.from ys
      → Passed l.tree (g.M.Mtr.state l.fn.m).standing ys l.counter l.page;
}
