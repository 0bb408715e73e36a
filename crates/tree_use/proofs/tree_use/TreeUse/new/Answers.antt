use Rattle.std.proofs.Common.{ℕ, List, None, ap, ◌∙◌}
use Rattle.std.specs.Ordering.{nat_cmp}
use Rattle.std.specs.Map.{lookup}
use Rattle.std.specs.BTreeMap.{get, is_at}
use Rattle.entries.specs.Pairs.{Pair}
use Rattle.tree_use.specs.Stored.{Stored, stored_of}
use Rattle.tree_use.specs.Shown.{index_of}
use Rattle.tree_use.proofs.tree_use.TreeUse.new.Goals as goal

pub returns : goal.returns
returns g c =
    ap (λ (s : Stored). index_of s (get nat_cmp c.new-2.result) None) c.in_ok-new.ensures.shown
    ∙ ap (λ (entries : List (ℕ × Pair)). index_of (stored_of c.args.tree (g.M.Mtr.state c.args.m).standing)
    (λ actor. lookup (is_at (nat_cmp actor)) entries) None)
    c.new-2.ensures.empty
