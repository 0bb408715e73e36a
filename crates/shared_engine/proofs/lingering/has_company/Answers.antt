use Rattle.std.proofs.Common.{◌≡◌, true, false, below_more}
use Rattle.shared_engine.proofs.lingering.has_company.Goals as goal

pub loop-other-preserved : goal.loop-other-preserved
loop-other-preserved g c =
    below_more _ _ c.loop-other.invariant (λ may. let no : false ≡ true = c.if-may_commit.ensures.1 may in absurd (cc))
