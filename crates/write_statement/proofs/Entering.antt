-- The steps of one change, before the history tells it and behind that.
use Rattle.std.proofs.Common.{◌≡◌, ◌≢◌, ℕ, ◌+◌, ◌≤◌, ◌<◌, ◌⊎◌, true, Option, Some, None, List, [], ◌∷◌, ◌++◌, Vec, length, sym, ap, subst, ◌∙◌, inl, inr}
use Rattle.std.proofs.lemmas.Bool.{false≢true}
use Rattle.std.proofs.lemmas.Option.{same_Some}
use Rattle.std.specs.declared.alloc.Global.{Global}
use Rattle.inno_db.specs.declared.change.Change.{Change}
use Rattle.inno_model.specs.declared.event.Event.{Event}
use Rattle.inno_model.specs.declared.event.Event.TheVariants as events
use Rattle.inno_model.specs.Past.{own, started}
use Rattle.sql_grammar.specs.Grammar.{Spells}
use Rattle.sql_history.specs.Counts.{rows_kept, most_rows}
use Rattle.sql_history.specs.Legal.{MayChange}
use Rattle.law_past_agreement.specs.Order.{created, IsTabled, IsOfRow, IsOrdered}
use Rattle.shared_lists.specs.Fitting.{FitsThen, RemovesOne}
use Rattle.shared_lists.specs.Answers.{Changed}
use Rattle.store_api.specs.declared.stepped.Stepped.TheVariants as stepped
use Rattle.shared_lists.specs.declared.answers.ChangePart.TheVariants as parts
use Rattle.shared_lists.specs.Tasks.{Task, Idle, MayTakeBack, asked, left_by, is_changing}
use Rattle.shared_lists.specs.State.{State, Turns, task_of}
use Rattle.shared_lists.specs.Steps.{GoesOn, Enters, Changes}
use Rattle.sql_lists.specs.Kept.{AreStanding, IsInOrder}
use Rattle.sql_lists.specs.Steps.{Moves, Steps}
use Rattle.sql_lists.specs.declared.advance.Advance.{Advance}
use Rattle.sql_lists.specs.declared.advance.Advance.TheVariants as advance
use Rattle.sql_lists.proofs.Moving.{moves_turns, moves_goes_on, moves_enters}
use Rattle.write_statement.specs.declared.machine.Part.{Part}
use Rattle.write_statement.specs.declared.machine.WriteStatement.{WriteStatement}
use Rattle.giving_up.specs.declared.leaving.Leaving.TheVariants as leaving
use Rattle.write_statement.specs.declared.machine.WriteStatement.TheVariants as machine
use Rattle.write_statement.specs.Parts.{of_rest}
use Rattle.giving_up.specs.Leaving.{given_up, given_up_for}
use Rattle.write_statement.specs.Going.{advance_for}
use Rattle.shared_lists.specs.declared.answers.Hindrance.{Hindrance}
use Rattle.shared_lists.specs.declared.answers.Hindrance.TheVariants as hindrances
use Rattle.write_statement.specs.Running.{IsChanging, IsMaking, IsFinishing, IsRunning, AreParts, HasRoomFor, is_at_change}
use Rattle.law_claims.specs.Claims.{Tables}
use Rattle.law_claims.proofs.Keeping.{keeper_writes, keeper_alone}
use Rattle.write_statement.proofs.Changes.{with_entry, tabled, may_change, changing_then, stands_now}
use Rattle.write_statement.proofs.There.{removes_one}
use Rattle.write_statement.proofs.Turning.{changing_given_up_for}

-- the change that is asked for may come
pub may_make : (past : List Event) (writer : Option ℕ) (task : Task) (s : ℕ) (part : Part) (todo : List Change) (rows : ℕ)
    → IsMaking past writer task s part todo rows → rows_kept past + rows ≤ most_rows
    → (change : Change) → asked task ≡ Some change → MayChange Spells s change past × IsTabled (length (created past)) change × IsOfRow change
may_make past writer task s part todo rows r within change is =
    let same = same_Some r.change change (sym r.asked_is ∙ is) in
    subst (λ (x : Change). MayChange Spells s x past × IsTabled (length (created past)) x × IsOfRow x) same (
      may_change past writer s part (of_rest part) todo r.change r.changing (with_entry s rows r.change past r.rows_are within),
      tabled past writer s part (of_rest part) todo r.change
          r.changing,
      r.of_row,
    )

-- the history tells it
pub entered : (s : ℕ) (old new : State) (part : Part) (todo : List Change) (rows : ℕ) → IsMaking old.past old.writer (task_of s old) s part todo rows
    → Enters s old new
    → Moves s old new × IsFinishing new.past new.writer (task_of s new) s part todo × (started s new.past ≡ started s old.past)
entered s old new part todo rows r enters =
    let same : enters.change ≡ r.change = same_Some enters.change r.change (sym enters.asked_was ∙ r.asked_is) in
    let past-is : new.past ≡ events.Changed s r.change ∷ old.past = enters.now.past_is ∙ ap (λ x. events.Changed s x ∷ old.past) same in
    let changing : IsChanging new.past new.writer s part (of_rest part) todo =
    subst (λ h. IsChanging h new.writer s part (of_rest part) todo) (sym past-is)
    (subst (λ w. IsChanging (events.Changed s r.change ∷ old.past) w s part (of_rest part) todo) (sym enters.now.writer_is)
    (changing_then old.past old.writer s part (of_rest part) todo r.change r.changing r.of_row)) in
    let stands : part.before < length (own s new.past) =
    subst (λ (h : List Event). part.before < length (own s h)) (sym past-is)
    (stands_now old.past old.writer s part (of_rest part) todo r.change r.changing r.of_row) in (
      moves_enters s old new (keeper_writes s Tables old.past old.writer (r.changing.keeps Tables tt)) enters,
      record
          { changing = changing; under_way = enters.still; told = enters.asked_is; stands = stands },
      ap (started s) past-is,
    )

-- it comes a step nearer, before the history tells it
pub making_went : (s : ℕ) (old new : State) (part : Part) (todo : Vec Change Global) (rows : ℕ)
    → IsMaking old.past old.writer (task_of s old) s part todo.items rows → GoesOn s old new
    → Steps IsRunning s old new (machine.Making part todo rows) advance.Went
making_went s old new part todo rows r goes =
    let there : IsChanging new.past new.writer s part (of_rest part) (todo.items ++ r.change ∷ []) =
    subst (λ h. IsChanging h new.writer s part (of_rest part) (todo.items ++ r.change ∷ [])) (sym goes.turns.past_is)
    (subst (λ w. IsChanging old.past w s part (of_rest part) (todo.items ++ r.change ∷ [])) (sym goes.turns.writer_is) r.changing) in (
      moves_goes_on s old new goes,
      record {
        change = r.change;
        of_row = r.of_row;
        rows_are = r.rows_are;
        changing = there;
        under_way = goes.still;
        asked_is = goes.asked_is ∙ r.asked_is;
      },
      ap (started s) goes.turns.past_is,
    )

module _ (s : ℕ) (old new : State) (part : Part) (todo : Vec Change Global) (r : IsFinishing old.past old.writer (task_of s old) s part todo.items) where
  changing_on : new.past ≡ old.past → new.writer ≡ old.writer → IsChanging new.past new.writer s part (of_rest part) todo.items
  changing_on same-past same-writer =
      subst (λ h. IsChanging h new.writer s part (of_rest part) todo.items) (sym same-past)
      (subst (λ w. IsChanging old.past w s part (of_rest part) todo.items) (sym same-writer) r.changing)

  -- and behind that
  finishing_on : GoesOn s old new → Steps IsRunning s old new (machine.Finishing part todo) advance.Went
  finishing_on goes = (
    moves_goes_on s old new goes,
    record {
      changing = changing_on goes.turns.past_is goes.turns.writer_is;
      under_way = goes.still;
      told = goes.asked_is ∙ r.told;
      stands = subst (λ (h : List Event). part.before < length (own s h)) (sym goes.turns.past_is) r.stands;
    },
    ap (started s) goes.turns.past_is,
  )

  -- the history tells it once
  told_once : Enters s old new → ⊥
  told_once enters = (let x : None ≡ Some enters.change = sym r.told ∙ enters.asked_was in cc)

  pub finishing_went : (answer : Changed) → (answer ≡ stepped.Went) ⊎ (answer ≡ stepped.Done parts.Record) → Changes s old new answer
      → Steps IsRunning s old new (machine.Finishing part todo) advance.Went
  finishing_went answer (inl went) changes = finishing_on (subst (Changes s old new) went changes)
  finishing_went answer (inr entered) changes = absurd (told_once (subst (Changes s old new) entered changes))

  -- the change is made
  pub finishing_done : Turns s Idle old new → Steps IsRunning s old new (machine.Changing part todo) advance.Went
  finishing_done turns =
      (moves_turns s Idle old new turns, (changing_on turns.past_is turns.writer_is, turns.task_is), ap (started s) turns.past_is)

-- ---- given up

-- what the history doesn't tell was never made
making_hindered : (s : ℕ) (old new : State) (part : Part) (todo : List Change) (rows : ℕ) (why : Hindrance) (m : WriteStatement) (a : Advance)
    → IsMaking old.past old.writer (task_of s old) s part todo rows → Changes s old new (stepped.Hindered why)
    → m ≡ machine.Leaving (leaving.BackingOut (given_up_for why part.alone part.before)) → a ≡ advance_for why → Steps IsRunning s old new m a
making_hindered s old new part todo rows why m a r changes state answer =
    changing_given_up_for s old new (left_by (asked (task_of s old))) part (of_rest part) (todo ++ r.change ∷ []) why m a changes.0 r.changing changes.1
    (inl (ap left_by r.asked_is)) state answer

pub making_given_up : (s : ℕ) (old new : State) (part : Part) (todo : List Change) (rows : ℕ) (m : WriteStatement) (a : Advance)
    → IsMaking old.past old.writer (task_of s old) s part todo rows → Turns s (left_by (asked (task_of s old))) old new
    → m ≡ machine.Leaving (leaving.BackingOut (given_up part.alone part.before)) → a ≡ advance.NoMemory → Steps IsRunning s old new m a
making_given_up s old new part todo rows m a r turns state answer =
    making_hindered s old new part todo rows hindrances.NoMemory m a r (tt, turns) state answer

-- and what it tells is to be taken back
finishing_hindered : (s : ℕ) (old new : State) (part : Part) (todo : List Change) (why : Hindrance) (m : WriteStatement) (a : Advance)
    → IsFinishing old.past old.writer (task_of s old) s part todo → Changes s old new (stepped.Hindered why)
    → m ≡ machine.Leaving (leaving.BackingOut (given_up_for why part.alone part.before)) → a ≡ advance_for why → Steps IsRunning s old new m a
finishing_hindered s old new part todo why m a r changes state answer =
    changing_given_up_for s old new (left_by (asked (task_of s old))) part (of_rest part) todo why m a changes.0 r.changing changes.1
    (inr (subst MayTakeBack (sym (ap left_by r.told)) tt, r.stands)) state answer

-- ---- where the statement lies

module _ (s : ℕ) (old new : State) where
  -- who makes a change may write, alone
  pub at_change : (m : WriteStatement) → is_at_change m ≡ true → IsRunning old s m
      → (old.writer ≡ Some s) × ((other : ℕ) → other ≢ s → own other old.past ≡ []) × (is_changing (task_of s old) ≡ true)
  at_change (machine.Making part todo rows) is r =
      let keeps = r.changing.keeps Tables tt in
      (keeper_writes s Tables old.past old.writer keeps, keeper_alone s Tables old.past old.writer keeps, r.under_way)
  at_change (machine.Finishing part todo) is r =
      let keeps = r.changing.keeps Tables tt in
      (keeper_writes s Tables old.past old.writer keeps, keeper_alone s Tables old.past old.writer keeps, r.under_way)
  at_change other is r = absurd (false≢true is)

  pub may_be_made : (m : WriteStatement) → is_at_change m ≡ true → IsRunning old s m → HasRoomFor m old.past → (change : Change)
      → asked (task_of s old) ≡ Some change → MayChange Spells s change old.past × IsTabled (length (created old.past)) change × IsOfRow change
  may_be_made (machine.Making part todo rows) is r within change asks =
      may_make old.past old.writer (task_of s old) s part todo.items rows r within change asks
  may_be_made (machine.Finishing part todo) is r within change asks = absurd (let x : None ≡ Some change = sym r.told ∙ asks in cc)
  may_be_made other is r within change asks = absurd (false≢true is)

  -- and a row that it removes is there
  pub removes : (m : WriteStatement) → is_at_change m ≡ true → IsRunning old s m → FitsThen old.past → IsOrdered old.past → IsInOrder old.past
      → AreStanding old.past → (change : Change) → asked (task_of s old) ≡ Some change → RemovesOne s old.past change
  removes (machine.Making part todo rows) is r fits ordered in-order stands change asks =
      subst (λ (c : Change). RemovesOne s old.past c) (same_Some r.change change (sym r.asked_is ∙ asks))
      (removes_one old.past old.writer s part (of_rest part) todo.items r.change r.changing fits ordered in-order stands)
  removes (machine.Finishing part todo) is r fits ordered in-order stands change asks = absurd (let x : None ≡ Some change = sym r.told ∙ asks in cc)
  removes other is r fits ordered in-order stands change asks = absurd (false≢true is)

  pub change_went : (m : WriteStatement) (answer : Changed) → is_at_change m ≡ true → IsRunning old s m → answer ≡ stepped.Went → Changes s old new answer
      → Steps IsRunning s old new m advance.Went
  change_went (machine.Making part todo rows) answer is r went changes = making_went s old new part todo rows r (subst (Changes s old new) went changes)
  change_went (machine.Finishing part todo) answer is r went changes = finishing_went s old new part todo r answer (inl went) changes
  change_went other answer is r went changes = absurd (false≢true is)

  pub change_entered : (m : WriteStatement) (answer : Changed) (part : Part) (todo : Vec Change Global) → AreParts m part todo → IsRunning old s m
      → answer ≡ stepped.Done parts.Record → Changes s old new answer → Steps IsRunning s old new (machine.Finishing part todo) advance.Went
  change_entered (machine.Making it behind rows) answer part todo are r told changes =
      rw (are.0, are.1) (entered s old new it behind.items rows r (subst (Changes s old new) told changes))
  change_entered (machine.Finishing it behind) answer part todo are r told changes =
      rw (are.0, are.1) (finishing_went s old new it behind r answer (inr told) changes)
  change_entered other answer part todo are r told changes = absurd are

  pub change_done : (m : WriteStatement) (answer : Changed) (part : Part) (todo : Vec Change Global) → AreParts m part todo → IsRunning old s m
      → answer ≡ stepped.Done parts.Keys → Changes s old new answer → Steps IsRunning s old new (machine.Changing part todo) advance.Went
  change_done (machine.Making it behind rows) answer part todo are r done changes =
      absurd (let x : None ≡ Some r.change = sym (subst (Changes s old new) done changes).0 ∙ r.asked_is in cc)
  change_done (machine.Finishing it behind) answer part todo are r done changes =
      rw (are.0, are.1) (finishing_done s old new it behind r (subst (Changes s old new) done changes).1)
  change_done other answer part todo are r done changes = absurd are

  pub change_fails : (m : WriteStatement) (answer : Changed) (why : Hindrance) (part : Part) (todo : Vec Change Global) (next : WriteStatement) (a : Advance)
      → AreParts m part todo → IsRunning old s m → answer ≡ stepped.Hindered why → Changes s old new answer
      → next ≡ machine.Leaving (leaving.BackingOut (given_up_for why part.alone part.before)) → a ≡ advance_for why → Steps IsRunning s old new next a
  change_fails (machine.Making it behind rows) answer why part todo next a are r failed changes state told =
      making_hindered s old new it behind.items rows why next a r (subst (Changes s old new) failed changes)
      (state ∙ ap (λ (p : Part). machine.Leaving (leaving.BackingOut (given_up_for why p.alone p.before))) are.0) told
  change_fails (machine.Finishing it behind) answer why part todo next a are r failed changes state told =
      finishing_hindered s old new it behind.items why next a r (subst (Changes s old new) failed changes)
      (state ∙ ap (λ (p : Part). machine.Leaving (leaving.BackingOut (given_up_for why p.alone p.before))) are.0) told
  change_fails other answer why part todo next a are r failed changes state told = absurd are
