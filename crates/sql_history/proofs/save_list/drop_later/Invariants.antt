use Rattle.std.proofs.Common.{◌≡◌, length}
use Rattle.sql_history.specs.Settings.{back_to}
use Rattle.sql_history.proofs.save_list.drop_later.Given as goal

-- those that went stand before the savepoint of the name
abbrev pub invariant-loop-saves : goal.invariant-loop-saves
invariant-loop-saves l = back_to l.name l.saves.items ≡ back_to l.name l.initial.saves.items

abbrev pub decreases-loop-saves : goal.decreases-loop-saves
decreases-loop-saves l = goal.left-loop-saves l
