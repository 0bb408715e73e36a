-- Sessions of which one has joined, whose commits were all acknowledged at moment 0.
use Rattle.std.specs.Prelude.{◌≡◌}
use Rattle.sql_history.specs.Counts.{last_moment}
use Rattle.session_engine.specs.Seats.{State, IsJoined}

pub record IsAlone (state : State) : Type 0 where
  pub joined : IsJoined 0 state
  pub moment : last_moment state.lists.past ≡ 0
