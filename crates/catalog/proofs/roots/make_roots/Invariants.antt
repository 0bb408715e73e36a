use Rattle.catalog.specs.Creating.{MakesRoots}
use Rattle.catalog.proofs.roots.make_roots.Given as goal

abbrev pub invariant-loop-which : goal.invariant-loop-which
invariant-loop-which g l = MakesRoots l.schema l.table l.which l.roots.items (g.M.Mtr.state l.fn.m) (g.M.Mtr.state l.m)
