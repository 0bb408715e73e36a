-- Several calls one after the other, and the right to write as it is given up.
-- `sql_lists` and what meets the trait cite these.
use Rattle.std.proofs.Common.{◌≡◌, ℕ, Option, Some, None, List, ap, ◌∙◌, inl, inr, refl}
use Rattle.std.proofs.lemmas.Bool.Decides.{eqb_tells}
use Rattle.inno_model.specs.declared.event.Event.{Event}
use Rattle.law_past_agreement.specs.Slots.{writer_without}
use Rattle.shared_lists.specs.{Tasks.Task, State.State, State.IsNow, State.task_of}

pub then_now : {s : ℕ} {past : List Event} {task : Task} {writer : Option ℕ} {old mid new : State} → IsNow past s task writer old mid
    → (f : List Event → List Event) (g : Option ℕ → Option ℕ) → IsNow (f mid.past) s (task_of s mid) (g mid.writer) mid new
    → IsNow (f past) s task (g writer) old new
then_now first f g now = record {
  names_are = now.names_are ∙ first.names_are;
  past_is = now.past_is ∙ ap f first.past_is;
  writer_is = now.writer_is ∙ ap g first.writer_is;
  task_is = now.task_is ∙ first.task_is;
  others = λ t differ. now.others t differ ∙ first.others t differ;
}

pub writer_gone : (s : ℕ) → writer_without (Some s) s ≡ None
writer_gone s = elim (eqb_tells s s) [ inl same ↦ rw same.0 refl | inr differ ↦ absurd (differ.1 refl) ]
