use Rattle.std.proofs.Common.{subst}
use Rattle.entries.specs.Pairs.{AreSound}
use Rattle.tree_use.specs.Stored.{Stored}
use Rattle.tree_use.proofs.Widths.{tree_sound}
use Rattle.tree_use.proofs.pages.TreePages.are_sound.Goals as goal

pub returns : goal.returns
returns g c =
    let is = c.self.invariant in
    subst (λ (s : Stored). AreSound s.pairs) c.self.view_is
    (tree_sound c.self.inside.tree (g.M.Mtr.state c.self.inside.m).standing is.0 is.1.placed.whole.sound)
