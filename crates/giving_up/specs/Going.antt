-- What a statement that ends has before it at most: its phases, and the changes that it may yet take back.
use Rattle.std.specs.Prelude.{ℕ, List, length}
use Rattle.inno_model.specs.Past.{own}
use Rattle.shared_lists.specs.Tasks.{undo_to_go}
use Rattle.shared_lists.specs.State.{State, task_of}
use Rattle.sql_lists.specs.Going.{left}
use Rattle.giving_up.specs.declared.leaving.Leaving.{Leaving}
use Rattle.giving_up.specs.declared.leaving.Leaving.TheVariants as leaving

abbrev pub to_leave : ℕ → State → Leaving → List ℕ
to_leave s state (leaving.BackingOut work) = left 3 (length (own s state.past)) (undo_to_go (task_of s state)) 0
to_leave s state (leaving.Failed alone) = left 2 0 0 0
to_leave s state (leaving.Unacked kept given) = left 2 0 0 0
to_leave s state (leaving.Ending kept given) = left 0 0 0 0
to_leave s state leaving.Ended = left 0 0 0 0
