-- Each step as a whole, by what it does to the lists.
use Rattle.std.proofs.Common.{◌≡◌, ◌≢◌, ℕ, ◌+◌, ◌≤◌, true, false, Some, None, List, [], ◌∷◌, refl, sym, ap, subst, ◌∙◌, inl, inr, arith}
use Rattle.std.proofs.lemmas.Bool.Decides.{nat_tests}
use Rattle.std.proofs.lemmas.Bool.{false≢true}
use Rattle.std.specs.Prelude.{is_some}
use Rattle.inno_types.specs.declared.lock.Level.{Level}
use Rattle.inno_types.specs.declared.lock.Edge.{Edge}
use Rattle.inno_types.specs.declared.value.Schema.{Schema}
use Rattle.inno_types.specs.declared.reply.Reply.{Reply}
use Rattle.inno_types.specs.declared.stmt.Stmt.{Stmt}
use Rattle.inno_db.specs.declared.change.Change.{Change}
use Rattle.inno_db.specs.declared.change.Change.TheVariants.{Create}
use Rattle.inno_db.specs.Outcome.{outcome}
use Rattle.inno_model.specs.declared.event.Event.{Event}
use Rattle.inno_model.specs.declared.event.Event.TheVariants as events
use Rattle.inno_model.specs.Past.{is_of, of_item, started, level, own, begins, txn, awaits_ack, IsOpen, IsClosed}
use Rattle.sql_history.specs.Items.{base}
use Rattle.sql_history.specs.Counts.{rows_kept, most_rows}
use Rattle.law_past_agreement.specs.Order.{created}
use Rattle.shared_lists.specs.Tasks.{Idle}
use Rattle.shared_lists.specs.State.{State, IsNow, Adds, Closes, Stays, task_of}
use Rattle.sql_lists.specs.Kept.{AreStanding}
use Rattle.sql_lists.specs.Tables.{MayMake, MakesNone}
use Rattle.shared_lists.specs.Tables.{begun, created_by, table_made}
use Rattle.giving_up.specs.Machines.{MovesOnAcked}
use Rattle.sql_lists.specs.Steps.{Steps, AsksToWrite, changes_rows, HasRowsAlone, plain_edge, open_txn, is_apart}
use Rattle.sql_lists.specs.declared.advance.Advance.TheVariants as advance
use Rattle.sql_lists.proofs.Moving.{stays_none, moves_none, moves_stays, moves_adds, moves_closes, moves_made, moves_none_made, below_phase}
use Rattle.create_statement.specs.declared.machine.CreateStatement.{CreateStatement}
use Rattle.create_statement.specs.declared.machine.CreateStatement.TheVariants as machine
use Rattle.create_statement.specs.Making.{Makes}
use Rattle.giving_up.specs.Ends.{IsEmptied, IsGivingUp}
use Rattle.create_statement.specs.Knowing.{IsAt, IsToBegin, IsCommitted, IsFinished}
use Rattle.create_statement.specs.Running.{RunsBy, IsRunning, owes_ack, acked}
use Rattle.create_statement.specs.Going.{to_go}
use Rattle.giving_up.proofs.Ends.{spares_ack, emptied_on}
use Rattle.create_statement.proofs.Staying.{to_begin_spared, committed_spared}
use Rattle.create_statement.proofs.Tables.{tables_met, tables_begun}
use Rattle.create_statement.proofs.Stepping.{HasOpened, rows_of_none, emptied_committed, emptied_closed, to_begin_committed, acks_now, committed_skipped}
use Rattle.create_statement.proofs.Stepping.{committed_made, acked_now, opened_begun, at_begun, may_begin}
use Rattle.create_statement.proofs.Stepping.{may_create, may_commit_made, may_roll_back, opened_created, at_created, gives_up_closed, gives_up_rolled}

-- ---- by the answer

pub lacks_memory : (s : ℕ) (old new : State) (m : CreateStatement) → Stays s old new → RunsBy new s m → task_of s old ≡ Idle
    → Steps IsRunning s old new m advance.NoMemory
lacks_memory s old new m stays runs idle = (moves_stays s old new stays, (runs, stays.task_is ∙ idle), stays.past_is)

pub waits : (s : ℕ) (state : State) (m : CreateStatement) (by : ℕ) (blockers : List Edge) → AsksToWrite s state.past → by ≢ s → state.writer ≡ Some by
    → IsOpen by state.past
    → blockers ≡ plain_edge (open_txn s state.past) (txn by state.past) ∷ [] → IsRunning state s m
    → Steps IsRunning s state state m (advance.Waiting by blockers)
waits s state m by blockers asks other holds is-open edge runs =
    (stays_none s state, runs, record { asks = asks; other = other; holds = holds; is_open = is-open; edge = edge })

pub ends : (s : ℕ) (old new : State) (m : CreateStatement) (reply : Reply) → Adds (events.Ended s (started s old.past) reply) s old new
    → HasRowsAlone s old.past → task_of s old ≡ Idle → Steps IsRunning s old new m (advance.Done reply)
ends s old new m reply adds rows idle = (
  moves_adds s (events.Ended s (started s old.past) reply) old new (grind (arith, nat_tests)) refl (λ changes. absurd (false≢true changes)) adds,
  adds.past_is,
  rows,
  adds.task_is ∙ idle,
)

-- an entry of its own that changes no rows
adds_one : (s : ℕ) (e : Event) (old new : State) (m : CreateStatement) → is_of s e ≡ true → is_apart e ≡ false
    → changes_rows e ≡ false
    → started s (e ∷ old.past) ≡ started s old.past → Adds e s old new → RunsBy new s m → task_of s old ≡ Idle → Steps IsRunning s old new m advance.Went
adds_one s e old new m mine unacked spares same adds runs idle = (
  moves_adds s e old new mine unacked (λ changes. absurd (false≢true (sym spares ∙ changes))) adds,
  (runs, adds.task_is ∙ idle),
  ap (started s)
      adds.past_is ∙ same,
)

closes_one : (s : ℕ) (e : Event) (old new : State) (m : CreateStatement) → is_of s e ≡ true → is_apart e ≡ false
    → changes_rows e ≡ false
    → started s (e ∷ old.past) ≡ started s old.past → Closes e s old new → RunsBy new s m → task_of s old ≡ Idle → Steps IsRunning s old new m advance.Went
closes_one s e old new m mine unacked spares same closes runs idle =
    (moves_closes s e old new mine unacked spares closes, (runs, closes.task_is ∙ idle), ap (started s) closes.past_is ∙ same)

-- the session that is closed is no other that is open
pub not_open : (s by : ℕ) (past : List Event) → IsClosed s past → IsOpen by past → by ≢ s
not_open s by past closed is-open same =
    (let x : IsOpen s past = subst (λ t. IsOpen t past) same is-open in let y : is_some (level s past) ≡ false = ap is_some closed in cc)

module _ (s : ℕ) (old new : State) (statement : Stmt) (l : Level) where
  -- ---- before a table is made

  pub skips : IsRunning old s (machine.Asked statement l) → (outcome statement (base s old.past)).changes ≡ [] → Closes (events.Committed s) s old new
      → Steps IsRunning s old new (machine.Committed statement) advance.Went
  skips r none closes =
      closes_one s (events.Committed s) old new (machine.Committed statement) (grind (arith, nat_tests)) refl refl refl closes
      (subst (λ h. IsCommitted s statement h × (awaits_ack (of_item s h) ≡ true)) (sym closes.past_is)
      (committed_skipped s statement old.past r.0.0.at r.0.1 none, acks_now s statement old.past)) r.1

  pub closes_first : IsRunning old s (machine.Asked statement l) → Closes (events.Committed s) s old new
      → Steps IsRunning s old new (machine.Unacked statement l) advance.Went
  closes_first r closes =
      closes_one s (events.Committed s) old new (machine.Unacked statement l) (grind (arith, nat_tests)) refl refl refl closes
      (subst (λ h. IsToBegin s statement l h × IsEmptied s h × (awaits_ack (of_item s h) ≡ true)) (sym closes.past_is)
      (to_begin_committed s statement old.past l r.0.0, emptied_committed s statement old.past r.0.1, acks_now s statement old.past)) r.1

  pub is_closed : IsRunning old s (machine.Asked statement l) → IsClosed s old.past → own s old.past ≡ []
      → Steps IsRunning s old old (machine.Closed statement l) advance.Went
  is_closed r closed new-is = (moves_none s old, ((r.0.0, emptied_closed s statement old.past r.0.1 closed new-is, ap awaits_ack r.0.1), r.1), refl)

  pub lacks_closed : IsRunning old s (machine.Closed statement l) → Stays s old new → Steps IsRunning s old new machine.Failed advance.NoMemory
  lacks_closed r stays =
      lacks_memory s old new machine.Failed stays
      (subst (IsGivingUp s) (sym stays.past_is) (gives_up_closed s statement old.past r.0.0.at r.0.1 r.0.2)) r.1

  -- ---- the table is made

  some_change : (schema : Schema) (changes : List Change) → changes ≡ Create schema ∷ [] → changes ≢ []
  some_change schema changes is none = (let x : Create schema ∷ [] ≡ [] = sym is ∙ none in cc)

  module _ (schema : Schema) (r : IsRunning old s (machine.Closed statement l)) (stands : AreStanding old.past)
      (makes : Makes statement schema (created old.past)) where
    met : (base s old.past).schemas ≡ created old.past
    met = tables_met s old.past stands (rows_of_none s old.past r.0.1.new) r.0.0.at.rows_before

    at_begin : IsAt s statement (begun s l old.past)
    at_begin = at_begun s statement old.past (begins old.past + 1) l r.0.0.at

    opened : HasOpened s (begun s l old.past)
    opened = opened_begun s statement old.past (begins old.past + 1) l r.0.1.not_rolled_back

    new_begun : own s (begun s l old.past) ≡ []
    new_begun = grind (arith, nat_tests)

    makes_it : (outcome statement (base s (begun s l old.past))).changes ≡ Create schema ∷ []
    makes_it = makes.changes (base s (begun s l old.past)) (tables_begun s (begins old.past + 1) l old.past r.0.0.at.rows_before ∙ met)

    own_created : own s (created_by s l schema old.past) ≡ Create schema ∷ []
    own_created =
        (let x : own s (created_by s l schema old.past) ≡ Create schema ∷ own s (begun s l old.past) = grind (arith, nat_tests) in x)
        ∙ ap (λ changes. Create schema ∷ changes) new_begun

    at_create : IsAt s statement (created_by s l schema old.past)
    at_create = at_created s statement (begun s l old.past) schema at_begin

    opened_create : HasOpened s (created_by s l schema old.past)
    opened_create = opened_created s statement (begun s l old.past) schema opened

    pub can_make : rows_kept old.past ≤ most_rows → MayMake s l schema old.past
    can_make within =
        record {
          may_begin = may_begin s statement old.past l r.0.0 r.0.1 r.0.2 (some_change schema _ (makes.changes (base s old.past) met));
          may_create = may_create s statement (begun s l old.past) schema at_begin opened within;
          may_commit = may_commit_made s statement (created_by s l schema old.past) schema at_create opened_create own_created makes_it;
          may_roll_back = may_roll_back s statement (begun s l old.past) at_begin opened new_begun;
        }

    pub makes_table : old.writer ≡ None → IsNow (table_made s l schema old.past) s Idle None old new
        → Steps IsRunning s old new (machine.Committed statement) advance.Went
    makes_table free now = (
      moves_made s l old new free (statement, r.0.0.at.takes, r.0.0.at.kind) schema now,
      (
        subst (λ h. IsCommitted s statement h × (awaits_ack (of_item s h) ≡ true)) (sym now.past_is) (
          committed_made s statement (created_by s l schema old.past) schema at_create opened_create own_created makes_it,
          acks_now s statement (created_by s l schema old.past),
        ),
        now.task_is,
      ),
      ap (started s) now.past_is,
    )

    pub makes_none : old.writer ≡ None → MakesNone s l old new → Steps IsRunning s old new machine.Failed advance.Went
    makes_none free (inl stays) = (
      moves_stays s old new stays,
      (
        subst (IsGivingUp s) (sym stays.past_is) (gives_up_closed s statement old.past r.0.0.at r.0.1 r.0.2),
        stays.task_is ∙ r.1,
      ),
      ap (started s) stays.past_is,
    )
    makes_none free (inr now) = (
      moves_none_made s l old new free now,
      (
        subst (IsGivingUp s) (sym now.past_is) (gives_up_rolled s statement (begun s l old.past) at_begin opened new_begun),
        now.task_is,
      ),
      ap (started s) now.past_is,
    )

module _ (s : ℕ) (old new : State) (statement : Stmt) where
  -- ---- the end

  pub finished : IsRunning old s (machine.Ending statement) → IsFinished s statement old.past
  finished r = record { at = r.0.0.at; ends = r.0.0.ends; acked = r.0.1; rows_alone = rows_of_none s old.past r.0.0.new }

-- ---- the acknowledgement of a commit

pub moves_on_acked : MovesOnAcked IsRunning to_go owes_ack acked
moves_on_acked (machine.Unacked statement l) owes =
    record {
      owed = λ state s r. record { owed = r.0.2; closed = r.0.1.closed };
      runs = λ old new s moment r adds.
          let spared = spares_ack s moment old.past in (
            subst (λ h. IsToBegin s statement l h × IsEmptied s h × (awaits_ack (of_item s h) ≡ false)) (sym adds.past_is) (
              to_begin_spared (events.Acked s moment) old.past s spared statement l r.0.0,
              emptied_on (events.Acked s moment) old.past s spared r.0.1,
              acked_now s statement old.past moment,
            ),
            adds.task_is ∙ r.1,
          );
      nears = λ old new s. below_phase 5 4 _ _ _ _ _ _ (omega arith);
    }
moves_on_acked (machine.Committed statement) owes =
    record {
      owed = λ state s r. record { owed = r.0.1; closed = r.0.0.closed };
      runs = λ old new s moment r adds. (
        subst (λ h. IsCommitted s statement h × (awaits_ack (of_item s h) ≡ false)) (sym adds.past_is)
            (committed_spared (events.Acked s moment) old.past s (spares_ack s moment old.past) statement r.0.0, acked_now s statement old.past moment),
        adds.task_is ∙ r.1,
      );
      nears = λ old new s. below_phase 3 2 _ _ _ _ _ _ (omega arith);
    }
moves_on_acked m owes = absurd (false≢true owes)
