use Rattle.std.specs.Prelude.{◌*◌, ◌+◌, ℕ, ◌≡◌, IsTrue}
use Rattle.mtr.specs.Seen.{is_in}
use Rattle.btree_grow.specs.Going.{GoesOn}
use Rattle.btree_grow.specs.Grown.{HasGrown}
use Rattle.btree_grow.proofs.growing.split_down.Given as goal

abbrev pub invariant-loop-taken : goal.invariant-loop-taken
invariant-loop-taken g l = record {
  on : GoesOn (2 * l.taken) (g.M.Mtr.state l.fn.m) (g.M.Mtr.state l.m);
  dealt_with : IsTrue (is_in l.page (g.M.Mtr.state l.m).visited);
  grown : IsTrue (g.M.Mtr.state l.m).told → (n : ℕ) → l.taken + n ≡ l.full
      → HasGrown l.tree l.key l.taken n l.page (g.M.Mtr.state l.fn.m).seen (g.M.Mtr.state l.m).seen;
}
