-- A CREATE TABLE for whose table there is no room gives up.
use Rattle.std.proofs.Common.{◌≡◌, ℕ, true, refl, inl, inr, arith}
use Rattle.std.proofs.lemmas.Bool.{false≢true}
use Rattle.shared_lists.specs.State.{State}
use Rattle.sql_lists.proofs.Moving.{moves_none}
use Rattle.sql_lists.specs.declared.advance.Advance.TheVariants as advance
use Rattle.giving_up.specs.Machines.{StepsAs}
use Rattle.create_statement.specs.declared.machine.CreateStatement.{CreateStatement}
use Rattle.create_statement.specs.declared.machine.CreateStatement.TheVariants as machine
use Rattle.create_statement.specs.Running as of_create
use Rattle.create_statement.proofs.Rooms as rooms
use Rattle.statement.specs.declared.under_way.Statement.TheVariants as statements
use Rattle.statement.specs.Running.{IsRunning}
use Rattle.statement.specs.Going.{statement_to_go}

pub creation_gives_up : (s : ℕ) (state : State) (m : CreateStatement) → of_create.IsRunning state s m → of_create.wants_room m ≡ true
    → StepsAs IsRunning statement_to_go s state (statements.Create m) state (statements.Create (of_create.without_room m)) advance.NoMemory
creation_gives_up s state (machine.Closed statement level) runs wants =
    record {
      steps = (moves_none s state, rooms.runs_without_room state s (machine.Closed statement level) runs, refl);
      nears = inr (refl, inl (omega arith));
    }
creation_gives_up s state other runs wants = absurd (false≢true wants)
