use Rattle.std.proofs.Common.{◌≡◌, length}
use Rattle.inno_model.specs.Past.{changed}
use Rattle.run_outcome.proofs.changes.make_from_back.Given as goal

-- what is left leads to where all changes do; the next one stands at the end
abbrev pub invariant-loop-change : goal.invariant-loop-change
invariant-loop-change l = changed l.db l.left.items ≡ changed l.fn.db l.fn.changes.items

abbrev pub decreases-loop-change : goal.decreases-loop-change
decreases-loop-change l = length l.left.items
