-- What the parts of a step do to a world.
use Rattle.std.specs.Prelude.{◌≡◌, ℕ, ◌-◌, Bool, true, false, List, is_some}
use Rattle.row_versions.specs.Chains.{Chains, versions_at, newest}
use Rattle.law_stored_rows.specs.Tables.{Said}
use Rattle.world.specs.State.{WorldState, Session, Work, IsSession, HasWork, standing_of}
use Rattle.world.specs.{Sessions.undone_added, Undoing.IsCutBack}
use Rattle.row_changes.specs.{declared.row_change.RowChange.RowChange, declared.row_change.RowChange.TheVariants.Record}
use Rattle.row_changes.specs.{declared.row_change.RowChange.TheVariants.Keys, Reached.Reached, Rows.IsChangingRow, Rows.ChangesRow}
use Rattle.row_changes.specs.{Awaited.AwaitsNoMore, Awaited.AwaitsNobody, declared.row_edit.RowEdit.RowEdit}
use Rattle.row_changes.specs.declared.row_edit.RowEdit.TheVariants.{Put, Remove}
use Rattle.store_api.specs.declared.stepped.Stepped.TheVariants.{Went, Done, Hindered}
use Rattle.shared_lists.specs.Answers.{Changed}
use Rattle.shared_lists.specs.declared.answers.ChangePart.TheVariants as part
use Rattle.desks.specs.{declared.desk.Doing.Doing, declared.desk.Doing.TheVariants.Nothing, declared.desk.Doing.TheVariants.Changing, Desks.doing_at}
use Rattle.desks.specs.{Desks.with_doing, declared.desk.Desk.Desk}
use Rattle.law_held_steps.specs.{Making.given_up, Making.doing_after, Hindering.IsForWant}
use Rattle.law_held_steps.specs.Hindering.{hindrance_of}
use Rattle.row_changes.specs.Reached as reached

-- whether the history tells the change
abbrev pub is_told : RowChange → Bool
is_told (Record change key after) = false
is_told (Keys change) = true

-- how far a change came
abbrev pub answer_for : RowChange → Reached RowChange → Changed
answer_for (Record change key after) (reached.Went (Keys next)) = Done part.Record
answer_for change (reached.Went next) = Went
answer_for change reached.Done = Done part.Keys
answer_for change (reached.Hindered same why) = Hindered (hindrance_of why)

-- one that was hindered was so for want of memory, of pages or of levels
abbrev pub IsForWantIfHindered : Reached RowChange → Type 0
IsForWantIfHindered (reached.Hindered same why) = IsForWant why
IsForWantIfHindered other = Unit {0}

-- The change has made a step, which leaves nobody awaited.
pub record StepsChange (s : ℕ) (change : RowChange) (old new : WorldState) (doing : Doing) (answer : Changed) : Type 0 where
  pub reached : Reached RowChange
  pub made : (chains : Chains) (beside : Said) → IsChangingRow s chains beside old change → ChangesRow s chains beside old new change reached
  pub awaits : AwaitsNoMore old new
  pub wants : IsForWantIfHindered reached
  pub doing_is : doing ≡ doing_after change reached
  pub answer_is : answer ≡ answer_for change reached

-- what a desk has after a step with this answer: the change as it lies there now, or what is left of one that is over
abbrev pub doing_now : RowChange → RowChange → Changed → Doing
doing_now change next Went = Changing next
doing_now change next (Done part.Record) = Changing next
doing_now change next (Done part.Keys) = Nothing
doing_now change next (Hindered why) = given_up change

-- a row that is to be removed from the table is there
abbrev pub IsThereToRemove : Chains → ℕ → RowEdit → Type 0
IsThereToRemove chains table (Put row) = Unit {0}
IsThereToRemove chains table (Remove key) = is_some (newest (versions_at (record { table = table; key = key }) chains)) ≡ true

-- the same of a change whose record has not changed yet
abbrev pub RemovesRow : Chains → RowChange → Type 0
RemovesRow chains (Record change key after) = IsThereToRemove chains change.table change.edit
RemovesRow chains (Keys change) = Unit {0}

-- The change may make its next step, which over a store at hand nothing but want of memory, of pages or of levels hinders: nobody is
-- awaited, and a row that it removes is there.
pub record MayGoOn (s : ℕ) (state : WorldState) (change : RowChange) : Type 0 where
  pub chains : Chains
  pub beside : Said
  pub changing : IsChangingRow s chains beside state change
  pub removes : RemovesRow chains change
  pub nobody : AwaitsNobody state

-- The session has a change at its desk that may make a step.
abbrev pub HasChange : ℕ → WorldState → List Desk → Type 0
HasChange s state desks = (change : RowChange) × (doing_at s desks ≡ Changing change) × MayGoOn s state change

-- The change at the session's desk has made a step, and nothing else has changed at desks.
abbrev pub StepsAtDesk : ℕ → WorldState → WorldState → List Desk → List Desk → Changed → Type 0
StepsAtDesk s old new desks later answer = (change : RowChange) → doing_at s desks ≡ Changing change
    → (doing : Doing) × StepsChange s change old new doing answer × (later ≡ with_doing s doing desks)

-- The newest undo record of the session is gone, and the history tells that its change is taken back.
pub record DropsNewest (s : ℕ) (old new : WorldState) : Type 0 where
  pub session : Session
  pub there : IsSession s session old
  pub cut : WorldState
  pub cuts : IsCutBack s old cut
  pub added : (now : Session) (work : Work) → HasWork s now work cut → new ≡ undone_added s ((standing_of session).own - 1) now work cut
