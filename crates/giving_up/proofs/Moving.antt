-- What a step does to what all sessions share, whatever the machine.
use Rattle.std.proofs.Common.{◌≡◌, ℕ, ◌∷◌, refl, sym, ap, subst, ◌∙◌, arith}
use Rattle.std.proofs.lemmas.Bool.Decides.{nat_tests}
use Rattle.std.proofs.lemmas.Bool.{false≢true}
use Rattle.inno_types.specs.declared.reply.Reply.{Reply}
use Rattle.inno_model.specs.declared.event.Event.TheVariants as events
use Rattle.inno_model.specs.Past.{started}
use Rattle.shared_lists.specs.Tasks.{Idle}
use Rattle.shared_lists.specs.State.{State, task_of, Adds}
use Rattle.sql_lists.specs.Steps.{Steps, HasRowsAlone}
use Rattle.sql_lists.specs.declared.advance.Advance.{Advance}
use Rattle.sql_lists.specs.declared.advance.Advance.TheVariants as advance
use Rattle.sql_lists.proofs.Moving.{moves_adds}

-- the item ends
pub ended : {M : Type 0} (IsRunning : State → ℕ → M → Type 0) (s : ℕ) (old new : State) (kept given : Reply) (m : M) → given ≡ kept
    → HasRowsAlone s old.past → task_of s old ≡ Idle → Adds (events.Ended s (started s old.past) kept) s old new
    → Steps IsRunning s old new m (advance.Done given)
ended IsRunning s old new kept given m same alone idle adds = (
  moves_adds s (events.Ended s (started s old.past) kept) old new (grind (arith, nat_tests)) refl (λ writes. absurd (false≢true writes)) adds,
  adds.past_is ∙ ap (λ reply. events.Ended s (started s old.past) reply ∷ old.past) (sym same),
  alone,
  adds.task_is ∙ idle,
)

-- ---- by a result that is known

pub steps_as : {M : Type 0} (IsRunning : State → ℕ → M → Type 0) (s : ℕ) (old new : State) (m n : M) (a b : Advance) → m ≡ n → a ≡ b
    → Steps IsRunning s old new n b → Steps IsRunning s old new m a
steps_as {M} IsRunning s old new m n a b same-state same-answer steps =
    subst (λ (x : M). Steps IsRunning s old new x a) (sym same-state) (subst (λ (x : Advance). Steps IsRunning s old new n x) (sym same-answer) steps)
