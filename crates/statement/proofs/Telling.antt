-- Steps by which the history is told no change.
use Rattle.std.proofs.Common.{◌≡◌, ℕ, Option, Some, None, List, [], ◌∷◌, ◌++◌, refl, sym, ap, ◌∙◌, inl, inr}
use Rattle.std.specs.Prelude.{count_by}
use Rattle.inno_types.specs.declared.stmt.Stmt.{Stmt}
use Rattle.inno_db.specs.declared.change.Change.{Change}
use Rattle.inno_model.specs.declared.event.Event.{Event}
use Rattle.inno_model.specs.declared.event.Event.TheVariants as events
use Rattle.inno_model.specs.Past.{started}
use Rattle.sql_grammar.specs.Grammar.{Spells}
use Rattle.sql_history.specs.Items.{Asks}
use Rattle.sql_history.specs.Legal.{IsCreation}
use Rattle.shared_lists.specs.Tasks.{asked}
use Rattle.shared_lists.specs.State.{State, task_of}
use Rattle.sql_lists.specs.Steps.{Moves, Intends, TellsOne, Steps, changes_rows}
use Rattle.sql_lists.specs.declared.advance.Advance.{Advance}
use Rattle.sql_lists.specs.declared.advance.Advance.TheVariants as advance
use Rattle.create_statement.proofs.Rooms.{not_counted, tells_no_change}
use Rattle.statement.proofs.Creating.{creation_same}

-- nothing is asked for that the history could be told
abbrev pub IntendsNone : ℕ → State → Type 0
IntendsNone t old = (change : Change) → Intends t old change → ⊥

none_counted : (t : ℕ) (old : State) (entries : List Event) → TellsOne t old entries → IntendsNone t old
    → count_by changes_rows (entries ++ old.past) ≡ count_by changes_rows old.past
none_counted t old [] tells none = refl
none_counted t old (events.Changed s change ∷ earlier) tells none = absurd (none change tells.0)
none_counted t old (e ∷ earlier) tells none = not_counted e (earlier ++ old.past) refl ∙ none_counted t old earlier tells none

pub tells_none : (t : ℕ) (old new : State) → Moves t old new → IntendsNone t old → count_by changes_rows new.past ≡ count_by changes_rows old.past
tells_none t old new moves none = ap (count_by changes_rows) moves.adding.past_is ∙ none_counted t old moves.adding.entries moves.tells none

-- a step that goes nowhere, and one that ends the item, tell none
pub step_tells_none : {M : Type 0} (IsRunning : State → ℕ → M → Type 0) (s : ℕ) (old new : State) (after : M) (a : Advance)
    → Steps IsRunning s old new after a → (a ≡ advance.Went → IntendsNone s old) → count_by changes_rows new.past ≡ count_by changes_rows old.past
step_tells_none IsRunning s old new after advance.Went steps none = tells_none s old new steps.0 (none refl)
step_tells_none IsRunning s old new after (advance.Waiting by blockers) steps none = ap (count_by changes_rows) steps.0.past_is
step_tells_none IsRunning s old new after advance.NoMemory steps none = ap (count_by changes_rows) steps.2
step_tells_none IsRunning s old new after (advance.Done reply) steps none =
    tells_no_change (events.Ended s (started s old.past) reply) old.past new.past refl steps.1

asks_no_change : (o : Option Change) (change : Change) → o ≡ None → o ≡ Some change → ⊥
asks_no_change o change none some = (let x : None ≡ Some change = sym none ∙ some in cc)

-- a statement that makes no table, while no change is under way
pub intends_none : (s : ℕ) (old : State) (statement : Stmt) → Asks Spells s statement old.past → (IsCreation statement → ⊥)
    → asked (task_of s old) ≡ None → IntendsNone s old
intends_none s old statement asks makes-none none change intends = elim intends [
  | inl asked_for ↦ asks_no_change (asked (task_of s old)) change none asked_for
  | inr other ↦ makes-none (creation_same s old.past statement other.0 asks other.1.asks other.2)
]
