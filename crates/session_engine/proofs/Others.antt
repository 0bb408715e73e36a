-- A step of another session leaves what the engine knows of a seat as it was.
use Rattle.std.proofs.Common.{◌≡◌, ◌≢◌, ℕ, false, Some, None, List, ◌∷◌, length, refl, sym, subst, ◌∙◌, inl, inr, arith}
use Rattle.std.proofs.lemmas.Bool.Decides.{nat_tests}
use Rattle.std.specs.List.{AllByRecursion}
use Rattle.inno_types.specs.declared.reply.Item.{Item}
use Rattle.inno_types.specs.declared.reply.Item.TheVariants as items
use Rattle.inno_types.specs.declared.reply.Item.TheVariants.{Sql}
use Rattle.inno_types.specs.declared.stmt.Stmt.{Stmt}
use Rattle.inno_model.specs.declared.event.Event.{Event}
use Rattle.inno_model.specs.declared.event.Event.TheVariants as events
use Rattle.inno_model.specs.Past.{is_of, under_way, own, IsClosed}
use Rattle.inno_model.proofs.Untouched.{untouched}
use Rattle.sql_grammar.specs.Grammar.{Spells}
use Rattle.sql_prefix.specs.declared.parser.ParseBad.TheVariants.{Syntax}
use Rattle.sql_prefix.specs.Refused.{IsRefusedAt}
use Rattle.sql_history.specs.Legal.{is_leaving}
use Rattle.law_past_agreement.specs.Order.{IsOfRow}
use Rattle.shared_lists.specs.Tasks as tasks
use Rattle.shared_lists.specs.State.{State as Lists, Adds, task_of}
use Rattle.sql_lists.specs.Steps.{Adding, HasRowsAlone}
use Rattle.sql_lists.proofs.Moving.{AddingOne, adding_at_most_one, stays_running}
use Rattle.sql_lists.proofs.Staying.{other_of}
use Rattle.transaction_statements.specs.Running.{TakesBackTo}
use Rattle.transaction_statements.proofs.Others.{stays as transaction_runs, has_item as transaction_item}
use Rattle.create_statement.proofs.Others.{stays as create_runs, has_item as create_item}
use Rattle.read_statement.specs.declared.machine.ReadStatement.{ReadStatement}
use Rattle.read_statement.specs.declared.machine.ReadStatement.TheVariants as reads
use Rattle.read_statement.specs.Running.{IsRunning as IsReading}
use Rattle.read_statement.proofs.Staying.{stays as read_on}
use Rattle.giving_up.specs.declared.leaving.Leaving.{Leaving as LeavingStatement}
use Rattle.giving_up.specs.declared.leaving.Leaving.TheVariants as leaving
use Rattle.giving_up.specs.Leaving.{IsLeaving}
use Rattle.write_statement.specs.declared.machine.WriteStatement.{WriteStatement}
use Rattle.write_statement.specs.declared.machine.WriteStatement.TheVariants as writes
use Rattle.write_statement.specs.Running.{IsRunning as IsChangingRows}
use Rattle.write_statement.proofs.Others.{stays as write_runs}
use Rattle.statement.specs.declared.under_way.Statement.{Statement}
use Rattle.statement.specs.declared.under_way.Statement.TheVariants as statements
use Rattle.session_engine.specs.declared.seats.Seat.{Seat}
use Rattle.session_engine.specs.declared.seats.Seat.TheVariants.{Idle, Busy, Refused, Signalling, Leaving, Left}
use Rattle.statement.specs.Running.{HasOnlyStarted, IsRunning}
use Rattle.session_engine.specs.declared.seats.SignalItem.{SignalItem}
use Rattle.session_engine.specs.declared.seats.SignalItem.TheVariants.{Gives, Awaits}
use Rattle.session_engine.specs.Signals.{HasOnlyAsked, HasSeenNone}
use Rattle.session_engine.specs.Seats.{IsSpelled, IsUnread, MayGoOut, IsGoingOut, HasAsked, SeatAgrees}
use Rattle.session_engine.proofs.Signals.{seen_on}

leaving_same : (e : Event) (h : List Event) (s : ℕ) → is_of s e ≡ false → is_leaving s (e ∷ h) ≡ is_leaving s h
leaving_same e h s other = grind (arith, nat_tests, other)

-- what is a session's own stays where nothing of it is added
module _ (old new : Lists) (t s : ℕ) (differ : t ≢ s) (adding : AddingOne t old new) (same_task : task_of s new ≡ task_of s old) where
  by_past : (P : List Event → Type 0) → ((e : Event) → is_of s e ≡ false → P old.past → P (e ∷ old.past)) → P old.past → P new.past
  by_past P adds before = elim adding [
    | inl same ↦ subst P (sym same) before
    | inr added ↦ subst P (sym added.2) (adds added.0 (other_of added.0 t s added.1 (λ is. differ (sym is))) before)
  ]

  started_on : (text : List ℕ) → HasOnlyStarted s text old.past → HasOnlyStarted s text new.past
  started_on text = by_past (HasOnlyStarted s text) (λ e other before.
      let same = untouched e old.past s other in
      record {
        item = same.item ∙ before.item;
        nothing = same.entries ∙ before.nothing;
        rows_alone = subst (AllByRecursion IsOfRow) (sym same.own_is)
            before.rows_alone;
      })

  spelled_on : IsSpelled s old.past → IsSpelled s new.past
  spelled_on = by_past (IsSpelled s) (λ e other before.
      (before.0, (before.1.0, (untouched e old.past s other).item ∙ before.1.1, before.1.2)))

  unread_on : (at : ℕ) → IsUnread s at old → IsUnread s at new
  unread_on at unread =
      record {
        text = unread.text;
        started = started_on unread.text unread.started;
        refused = unread.refused;
        idle = same_task ∙ unread.idle;
      }

  out_on : MayGoOut s old.past → MayGoOut s new.past
  out_on = by_past (MayGoOut s) (λ e other before.
      let same = untouched e old.past s other in
      record { rests = same.item ∙ before.rests; rows_alone = subst (AllByRecursion IsOfRow) (sym same.own_is) before.rows_alone })

  own_on : own s new.past ≡ own s old.past
  own_on = by_past (λ h. own s h ≡ own s old.past) (λ e other before. (untouched e old.past s other).own_is ∙ before) refl

  going_on : IsGoingOut s old → IsGoingOut s new
  going_on goes =
      record {
        may = out_on goes.may;
        task =
            subst (λ changes. TakesBackTo 0 (length changes) (task_of s new)) (sym own_on)
            (subst (TakesBackTo 0 (length (own s old.past))) (sym same_task) goes.task);
      }

  stays_on : is_leaving s old.past ≡ false → is_leaving s new.past ≡ false
  stays_on = by_past (λ h. is_leaving s h ≡ false) (λ e other before. leaving_same e old.past s other ∙ before)

  closed_on : (under_way s old.past ≡ None) × IsClosed s old.past → (under_way s new.past ≡ None) × IsClosed s new.past
  closed_on =
      by_past (λ h. (under_way s h ≡ None) × IsClosed s h)
      (λ e other before. let same = untouched e old.past s other in (same.item ∙ before.0, same.level_is ∙ before.1))

  only_asked_on : (item : Item) → HasOnlyAsked s item old.past → HasOnlyAsked s item new.past
  only_asked_on item = by_past (HasOnlyAsked s item) (λ e other before.
      let same = untouched e old.past s other in
      record {
        asked = same.item ∙ before.asked;
        nothing = same.entries ∙ before.nothing;
        rows_alone = subst (AllByRecursion IsOfRow) (sym same.own_is) before.rows_alone;
      })

  asked_on : (item : SignalItem) → HasAsked s item old.past → HasAsked s item new.past
  asked_on (Gives name) asked = only_asked_on (items.Signal name) asked
  asked_on (Awaits wait) asked = (
    only_asked_on (items.Await wait.name) asked.0,
    by_past (HasSeenNone wait.name wait.seen) (λ e other before. seen_on wait.name wait.seen e old.past before) asked.1,
  )

  runs_on : (old.writer ≡ Some s → new.writer ≡ Some s) → (statement : Statement) → IsRunning old s statement → IsRunning new s statement
  runs_on keeps (statements.Asked stmt) runs = (runs.0, started_on runs.0 runs.1, runs.2, same_task ∙ runs.3)
  runs_on keeps (statements.Transaction statement) runs =
      transaction_runs old new t s statement differ (adding_at_most_one t old new adding) keeps same_task runs
  runs_on keeps (statements.Create statement) runs = create_runs old new t s statement differ (adding_at_most_one t old new adding) keeps same_task runs
  runs_on keeps (statements.Read statement) runs = read_on old new t s statement differ (adding_at_most_one t old new adding) keeps same_task runs
  runs_on keeps (statements.Write statement) runs = write_runs old new t s statement differ (adding_at_most_one t old new adding) keeps same_task runs
  runs_on keeps statements.Failed runs = (runs.0, started_on runs.0 runs.1, same_task ∙ runs.2)
  runs_on keeps statements.Ended runs = absurd runs

stays_by_one : (old new : Lists) (t s : ℕ) → t ≢ s → AddingOne t old new → (old.writer ≡ Some s → new.writer ≡ Some s) → task_of s new ≡ task_of s old
    → (seat : Seat) → SeatAgrees old s seat → SeatAgrees new s seat
stays_by_one old new t s differ adding keeps same_task Idle agrees =
    (out_on old new t s differ adding same_task agrees.0, stays_on old new t s differ adding same_task agrees.1, same_task ∙ agrees.2)
stays_by_one old new t s differ adding keeps same_task (Busy statement) agrees =
    (runs_on old new t s differ adding same_task keeps statement agrees.0, spelled_on old new t s differ adding same_task agrees.1)
stays_by_one old new t s differ adding keeps same_task (Refused at) agrees = unread_on old new t s differ adding same_task at agrees
stays_by_one old new t s differ adding keeps same_task (Signalling item) agrees =
    (asked_on old new t s differ adding same_task item agrees.0, same_task ∙ agrees.1)
stays_by_one old new t s differ adding keeps same_task Leaving agrees = going_on old new t s differ adding same_task agrees
stays_by_one old new t s differ adding keeps same_task Left agrees =
    (let closed = closed_on old new t s differ adding same_task (agrees.0, agrees.1) in (closed.0, closed.1, same_task ∙ agrees.2))

pub seat_stays : (old new : Lists) (t s : ℕ) → t ≢ s → Adding t old new → (old.writer ≡ Some s → new.writer ≡ Some s) → task_of s new ≡ task_of s old
    → (seat : Seat) → SeatAgrees old s seat → SeatAgrees new s seat
seat_stays old new t s differ adding keeps same_task seat agrees =
    stays_running SeatAgrees (λ old' new' t' s' seat' differ' adding' keeps' task' agrees'. stays_by_one old' new' t' s' differ' adding' keeps' task' seat'
    agrees')
    old new t s seat differ adding keeps same_task agrees

leaving_item : (state : Lists) (s : ℕ) (m : LeavingStatement) → IsLeaving state s m → under_way s state.past ≢ None
leaving_item state s (leaving.BackingOut work) r none = (let x = r.0.working.takes.asks.1 in cc)
leaving_item state s (leaving.Failed alone) r none = (let x = r.0.takes.asks.1 in cc)
leaving_item state s (leaving.Unacked kept given) r none = (let x = r.0.may.item in cc)
leaving_item state s (leaving.Ending kept given) r none = (let x = r.0.may.item in cc)
leaving_item state s leaving.Ended r none = absurd r

read_item : (state : Lists) (s : ℕ) (m : ReadStatement) → IsReading state s m → under_way s state.past ≢ None
read_item state s (reads.Opening asked) r none = (let x = r.0.takes.asks.1 in cc)
read_item state s (reads.Open stmt alone) r none = (let x = r.0.takes.asks.1 in cc)
read_item state s (reads.Viewed stmt alone) r none = (let x = r.0.takes.asks.1 in cc)
read_item state s (reads.Searching read) r none = (let x = r.early.takes.asks.1 in cc)
read_item state s (reads.Found found) r none = (let x = r.0.early.takes.asks.1 in cc)
read_item state s (reads.Leaving m) r none = leaving_item state s m r none

write_item : (state : Lists) (s : ℕ) (m : WriteStatement) → IsChangingRows state s m → under_way s state.past ≢ None
write_item state s (writes.Fresh stmt) r none = (let x = r.0.takes.asks.1 in cc)
write_item state s (writes.Locking stmt alone) r none = (let x = r.0.working.takes.asks.1 in cc)
write_item state s (writes.Searching part) r none = (let x = r.reading.changing.working.takes.asks.1 in cc)
write_item state s (writes.Changing part todo) r none = (let x = r.0.working.takes.asks.1 in cc)
write_item state s (writes.Making part todo rows) r none = (let x = r.changing.working.takes.asks.1 in cc)
write_item state s (writes.Finishing part todo) r none = (let x = r.changing.working.takes.asks.1 in cc)
write_item state s (writes.Leaving m) r none = leaving_item state s m r none

-- a running statement has an item under way
pub has_item : (state : Lists) (s : ℕ) (statement : Statement) → IsRunning state s statement → under_way s state.past ≢ None
has_item state s (statements.Asked stmt) runs none = (let x = runs.1.item in cc)
has_item state s (statements.Transaction statement) runs none = transaction_item state s statement runs none
has_item state s (statements.Create statement) runs none = create_item state s statement runs none
has_item state s (statements.Read statement) runs none = read_item state s statement runs none
has_item state s (statements.Write statement) runs none = write_item state s statement runs none
has_item state s statements.Failed runs none = (let x = runs.1.item in cc)
has_item state s statements.Ended runs none = absurd runs

only_started : (s j : ℕ) (text : List ℕ) (h : List Event) → HasRowsAlone s h → HasOnlyStarted s text (events.Started s j (Sql text) ∷ h)
only_started s j text h rows = record { item = grind (arith, nat_tests); nothing = grind (arith, nat_tests); rows_alone = rows }

-- an item that has just started, whose text is a statement
pub asked_runs : (old new : Lists) (s j : ℕ) (text : List ℕ) (stmt : Stmt) → HasRowsAlone s old.past → task_of s old ≡ tasks.Idle
    → Adds (events.Started s j (Sql text)) s old new → Spells text stmt → IsRunning new s (statements.Asked stmt) × IsSpelled s new.past
asked_runs old new s j text stmt rows idle adds spells =
    let started : HasOnlyStarted s text new.past = subst (HasOnlyStarted s text) (sym adds.past_is) (only_started s j text old.past rows) in
    ((text, started, spells, adds.task_is ∙ idle), (stmt, (text, started.item, spells)))

-- one whose text is none
pub unread_waits : (old new : Lists) (s j at : ℕ) (text : List ℕ) → HasRowsAlone s old.past → task_of s old ≡ tasks.Idle
    → Adds (events.Started s j (Sql text)) s old new → IsRefusedAt text (Syntax at) → IsUnread s at new
unread_waits old new s j at text rows idle adds refused =
    record {
      text = text;
      started = subst (HasOnlyStarted s text) (sym adds.past_is) (only_started s j text old.past rows);
      refused = refused;
      idle = adds.task_is ∙ idle;
    }
