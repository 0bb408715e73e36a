-- What every machine of statements promises, whatever its states are: what is known of a statement while it runs (`IsRunning`), and how much
-- it has before it (`to_go`), are each machine's own.
use Rattle.std.specs.Prelude.{◌≡◌, ℕ, ◌<◌, Bool, true, false, List, length}
use Rattle.shared_lists.specs.State.{State}
use Rattle.sql_lists.specs.declared.advance.Advance.{Advance}
use Rattle.sql_lists.specs.Kept.{OwesAck}
use Rattle.sql_lists.specs.Steps.{Steps, GoesOnAcked}
use Rattle.sql_lists.specs.Going.{Nears, NearsAcked}

-- what a step asks for: no commit of the statement awaits its acknowledgement
pub record MayStep {M : Type 0} (IsRunning : State → ℕ → M → Type 0) (owes_ack : M → Bool) (s : ℕ) (state : State) (m : M) : Type 0 where
  pub joined : s < length state.names
  pub running : IsRunning state s m
  pub acked : owes_ack m ≡ false

-- a step from one state and statement to another, by its answer: what it does, and that it brings the statement nearer to its end
pub record StepsAs {M : Type 0} (IsRunning : State → ℕ → M → Type 0) (to_go : ℕ → State → M → List ℕ) (s : ℕ) (old : State) (before : M)
    (new : State) (after : M) (answer : Advance) : Type 0 where
  pub steps : Steps IsRunning s old new after answer
  pub nears : Nears to_go s old before new after answer

-- A commit that is owed stands in the past. After its acknowledgement the statement goes on as another one, nearer to its end.
pub record GoesOnAs {M : Type 0} (IsRunning : State → ℕ → M → Type 0) (to_go : ℕ → State → M → List ℕ) (before after : M) : Type 0 where
  pub owed : (state : State) (s : ℕ) → IsRunning state s before → OwesAck s state.past
  pub runs : GoesOnAcked IsRunning before after
  pub nears : NearsAcked to_go before after

abbrev pub MovesOnAcked : {M : Type 0} → (State → ℕ → M → Type 0) → (ℕ → State → M → List ℕ) → (M → Bool) → (M → M) → Type 0
MovesOnAcked {M} IsRunning to_go owes_ack acked = (m : M) → owes_ack m ≡ true → GoesOnAs IsRunning to_go m (acked m)
