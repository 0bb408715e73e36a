-- A statement that wants no room for a change.
use Rattle.std.proofs.Common.{◌≡◌, ℕ, false, None, sym, ap}
use Rattle.std.proofs.lemmas.Bool.{false≢true}
use Rattle.shared_lists.specs.Tasks.{asked}
use Rattle.shared_lists.specs.State.{State, task_of}
use Rattle.write_statement.specs.declared.machine.WriteStatement.{WriteStatement}
use Rattle.write_statement.specs.declared.machine.WriteStatement.TheVariants as machine
use Rattle.write_statement.specs.Running.{IsRunning, wants_room}
use Rattle.giving_up.proofs.Closing.{asks_for_none as leaving_asks_none}

pub asks_for_none : (state : State) (s : ℕ) (m : WriteStatement) → wants_room m ≡ false → IsRunning state s m → asked (task_of s state) ≡ None
asks_for_none state s (machine.Fresh statement) wants-none r = ap asked r.2
asks_for_none state s (machine.Locking statement alone) wants-none r = ap asked r.1
asks_for_none state s (machine.Searching part) wants-none r = ap asked r.task_is
asks_for_none state s (machine.Changing part todo) wants-none r = absurd (false≢true (sym wants-none))
asks_for_none state s (machine.Making part todo rows) wants-none r = absurd (false≢true (sym wants-none))
asks_for_none state s (machine.Finishing part todo) wants-none r = r.told
asks_for_none state s (machine.Leaving leaving) wants-none r = leaving_asks_none state s leaving r
