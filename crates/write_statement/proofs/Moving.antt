-- How near a step brings the statement to its end.
use Rattle.std.proofs.Common.{ℕ}
use Rattle.shared_lists.specs.State.{State}
use Rattle.sql_lists.specs.Going.{Nears}
use Rattle.sql_lists.specs.declared.advance.Advance.{Advance}
use Rattle.sql_lists.specs.declared.advance.Advance.TheVariants as advance
use Rattle.write_statement.specs.declared.machine.WriteStatement.{WriteStatement}
use Rattle.write_statement.specs.Going.{to_go, IsNearer}

-- what is nearer than what was left before
pub nears_of : (s : ℕ) (old : State) (before : WriteStatement) (new : State) (after : WriteStatement) (a : Advance)
    → IsNearer (to_go s old before) s new after a → Nears to_go s old before new after a
nears_of s old before new after advance.Went nears = nears
nears_of s old before new after (advance.Waiting by blockers) nears = tt
nears_of s old before new after advance.NoMemory nears = nears
nears_of s old before new after (advance.Done reply) nears = tt
