-- What each call of a stopped engine does, between two states.
use Rattle.std.specs.Prelude.{◌≡◌, ◌≢◌, ℕ, ◌+◌, Bool, true, false, List, [], ◌∷◌, ◌++◌}
use Rattle.inno_types.specs.declared.reply.Item.{Item}
use Rattle.inno_model.specs.declared.event.Event.TheVariants.{Started}
use Rattle.inno_model.specs.Past.{started}
use Rattle.store_api.specs.declared.answers.Progress.{Progress}
use Rattle.store_api.specs.declared.answers.Progress.TheVariants as progress
use Rattle.inno_model.specs.declared.board.Phase.{Phase}
use Rattle.inno_model.specs.declared.board.Phase.TheVariants.{Idle, Busy, Leaving, Left}
use Rattle.durable_engine.specs.declared.stopped_seats.Seat.{Seat}
use Rattle.durable_engine.specs.Seats.{State, phase_at, halted, ended, phase_after}

-- a session that has an item under way, or is on its way out
abbrev pub is_at_work : Phase → Bool
is_at_work Idle = false
is_at_work Busy = true
is_at_work Leaving = true
is_at_work Left = false

abbrev pub IsAtWork : Phase → Type 0
IsAtWork phase = is_at_work phase ≡ true

abbrev pub has_left : Phase → Bool
has_left Left = true
has_left other = false

-- the state is the same to all sessions
pub record SameState (old new : State) : Type 0 where
  pub names_stay : new.names ≡ old.names
  pub past_stays : new.past ≡ old.past
  pub cause_stays : new.cause ≡ old.cause
  pub phases_stay : (s : ℕ) → phase_at new.seats s ≡ phase_at old.seats s

-- the other sessions are as far as they were
abbrev pub OthersStay : ℕ → List Seat → List Seat → Type 0
OthersStay s old new = (u : ℕ) → u ≢ s → phase_at new u ≡ phase_at old u

pub record Joins (name : List ℕ) (old new : State) : Type 0 where
  pub names_are : new.names ≡ old.names ++ name ∷ []
  pub past_stays : new.past ≡ old.past
  pub cause_stays : new.cause ≡ old.cause
  pub phases_stay : (s : ℕ) → phase_at new.seats s ≡ phase_at old.seats s

pub record Starts (s : ℕ) (item : Item) (old new : State) : Type 0 where
  pub names_stay : new.names ≡ old.names
  pub past_is : new.past ≡ Started s (started s old.past + 1) item ∷ old.past
  pub cause_stays : new.cause ≡ old.cause
  pub works : phase_at new.seats s ≡ Busy
  pub others_stay : OthersStay s old.seats new.seats

pub record Leaves (s : ℕ) (old new : State) : Type 0 where
  pub names_stay : new.names ≡ old.names
  pub past_stays : new.past ≡ old.past
  pub cause_stays : new.cause ≡ old.cause
  pub leaving : phase_at new.seats s ≡ Leaving
  pub others_stay : OthersStay s old.seats new.seats

-- The engine has stopped, and then the session's item ends with the reply that says so, or its ending is over.
pub record StepsOn (s : ℕ) (old new : State) : Type 0 where
  pub names_stay : new.names ≡ old.names
  pub past_is : new.past ≡ ended s (started s old.past) (phase_at old.seats s) (halted old.cause old.past)
  pub cause_stays : new.cause ≡ old.cause
  pub phase_is : phase_at new.seats s ≡ phase_after (phase_at old.seats s)
  pub others_stay : OthersStay s old.seats new.seats

-- a step answers why the engine stopped, or it finds no memory and does nothing
abbrev pub StepsBy : ℕ → Progress → State → State → Type 0
StepsBy s (progress.Stopped cause) old new = (cause ≡ old.cause) × StepsOn s old new
StepsBy s progress.NoMemory old new = SameState old new
StepsBy s other old new = ⊥
