-- When a commit that is yet to be acknowledged waits for others.
use Rattle.std.specs.Prelude.{◌≡◌, ◌≢◌, ℕ, ◌<◌, true, false, length}
use Rattle.durable_engine.specs.Seats.{phase_at}
use Rattle.durable_engine.specs.StoppedCalls.{is_at_work}
use Rattle.durable_engine.specs.State.{State, owes_ack}

-- The other session, one of the 68 that may join, is at work and owes no acknowledgement itself. One that waits for what this
-- one has held may go on as well.
pub record MayCommit {D : Type 0} (s other : ℕ) (state : State D) : Type 0 where
  pub apart : other ≢ s
  pub few : other < 68
  pub joined : other < length state.names
  pub works : is_at_work (phase_at state.seats other) ≡ true
  pub acked : owes_ack other state ≡ false

-- The session's commit waits for others: it is yet to be acknowledged, so many of its steps are left until it is flushed at the
-- latest, and another session may still commit.
pub record Lingers {D : Type 0} (s left : ℕ) (state : State D) : Type 0 where
  pub owes : owes_ack s state ≡ true
  pub more : 1 < left
  pub company : (other : ℕ) × MayCommit s other state
