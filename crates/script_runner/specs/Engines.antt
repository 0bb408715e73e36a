-- What play sees of an engine.
use Rattle.std.specs.Prelude.{ℕ}
use Rattle.durable_engine.specs.Seats.{phase_at}
use Rattle.durable_engine.specs.StoppedCalls.{is_at_work, has_left}
use Rattle.durable_engine.specs.State.{State}
use Rattle.durable_engine.specs.Going.{to_go}
use Rattle.script_play.specs.Sessions.{Shown}

-- the moment is that of the steps to come
abbrev pub shown_of : {D : Type 0} → ℕ → State D → Shown
shown_of moment state = record {
  names = state.names;
  past = state.past;
  moment = moment;
  is_working = λ s. is_at_work (phase_at state.seats s);
  has_left = λ s. has_left (phase_at state.seats s);
  to_go = λ s. to_go s state;
}
