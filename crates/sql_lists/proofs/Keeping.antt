-- Each entry keeps the history legal, and what is kept beside it in agreement.
use Rattle.std.proofs.Common.{◌≡◌, ◌≢◌, ℕ, ◌+◌, ◌-◌, ◌<◌, ◌≤◌, true, false, cond, eqb, Option, Some, None, List, [], ◌∷◌, ◌++◌, length, get_or, set, refl}
use Rattle.std.proofs.Common.{sym, ap, subst, ◌∙◌, inl, inr, arith}
use Rattle.std.proofs.lemmas.Bool.Decides.{nat_tests, eqb_tells}
use Rattle.std.proofs.lemmas.List.{length-set, length-append}
use Rattle.std.proofs.lemmas.List.Sums.{sum_by-cons}
use Rattle.std.specs.Prelude.{is_some, Result, Ok, Err, OnOk, OnErr, IfNone}
use Rattle.inno_types.specs.declared.stmt.Stmt.TheVariants as stmts
use Rattle.inno_types.specs.declared.reply.Reply.TheVariants as replies
use Rattle.inno_model.specs.declared.event.Event.{Event}
use Rattle.inno_model.specs.declared.event.Event.TheVariants as events
use Rattle.inno_model.specs.Past.{is_of, started, under_way, level, own, opening, begins, commits, committed, IsOpen}
use Rattle.sql_grammar.specs.Grammar.{Spells}
use Rattle.sql_history.specs.Items.{Asks}
use Rattle.sql_history.specs.Settings.{Setting, HasSet, at_first, at_begin, at_end, saved, set_by}
use Rattle.sql_history.specs.Counts.{has_stopped, last_moment, rows_of_entry, rows_kept, rows_of_reply, most_rows}
use Rattle.sql_history.specs.Legal.{MayFollow, PaysCommit, MayBegin, MayView, MayChange, MayUndo, MayCommit, MayRollBack, MaySignal, is_leaving, IsWithin}
use Rattle.sql_history.specs.Legal.{EndsBy, owed_by, owes_commit}
use Rattle.law_past_agreement.specs.Order.{created, IsOfRow, IsTabled, IsUndoable, MayCome}
use Rattle.law_past_agreement.proofs.Ids.{ids_of}
use Rattle.shared_lists.specs.Answers.{Changed}
use Rattle.shared_lists.specs.declared.answers.ChangePart.TheVariants as part
use Rattle.shared_lists.specs.Answers.{Undone}
use Rattle.store_api.specs.declared.stepped.Stepped.TheVariants as stepped
use Rattle.shared_lists.specs.Tasks.{Task, Idle, asked}
use Rattle.shared_lists.specs.State.{State, Lists, IsFirst, IsNow, Adds, Closes, Stays, task_of}
use Rattle.law_past_agreement.specs.Slots.{writer_without}
use Rattle.shared_lists.specs.Steps.{Changes, TakesBack, rows_of_change, rows_entered}
use Rattle.sql_lists.specs.Tables.{MayMake}
use Rattle.shared_lists.specs.Tables.{begun, created_by, table_made, none_made, set_after, MakesNoTable}
use Rattle.shared_lists.proofs.Calls.{then_now}
use Rattle.sql_lists.specs.Kept.{IsKept, MayReply, is_of_signal, OwesAck, SetsQuietly, AreStanding, IsInOrder, made as tables_made}
use Rattle.sql_lists.proofs.Settings.{AllSet, set_other, sets_one, sets_none, sets_joined, set_at_begin, set_at_commit, set_at_rollback, set_at_end}
use Rattle.sql_lists.proofs.Settings.{set_at_signal, set_at_done}
use Rattle.sql_lists.proofs.{Ordered.same_seen, Ordered.ordered_changed, Ordered.ordered_undone, Ordered.ordered_committed}
use Rattle.sql_lists.proofs.Standing.{schemas_after, committed_is, stands_plain, stands_row, stands_begun, stands_rolled_back, stands_undone}
use Rattle.sql_lists.proofs.Standing.{stands_committed, stands_made}
use Rattle.inno_types.specs.{declared.lock.Level.Level, declared.lock.Level.TheVariants.ReadUncommitted, declared.lock.Level.TheVariants.ReadCommitted}
use Rattle.inno_types.specs.{declared.lock.Level.TheVariants.RepeatableRead, declared.lock.Level.TheVariants.Serializable, declared.value.Value.Value}
use Rattle.inno_types.specs.{declared.value.Schema.Schema, declared.stmt.Stmt.Stmt, declared.stmt.LevelScope.TheVariants.Session}
use Rattle.inno_types.specs.{declared.stmt.LevelScope.TheVariants.NextTransaction, declared.reply.Item.Item, declared.reply.Reply.Reply}
use Rattle.inno_db.specs.{declared.change.Change.Change, declared.change.Change.TheVariants.Create, declared.change.Change.TheVariants.Put}
use Rattle.inno_db.specs.{declared.change.Change.TheVariants.Remove, declared.limits.TheConstants.MOST_TABLES}
use Rattle.sql_lists.proofs.Staying.{own_of}

cons_is_some : (e : Event) (h : List Event) → e ∷ h ≡ [] → ⊥
cons_is_some e h is = cc

owed_none : (l : Option Level) (s : ℕ) → l ≢ Some Serializable → owed_by l s ≡ None
owed_none None s differ = refl
owed_none (Some ReadUncommitted) s differ = refl
owed_none (Some ReadCommitted) s differ = refl
owed_none (Some RepeatableRead) s differ = refl
owed_none (Some Serializable) s differ = absurd (differ refl)

module _ {names : List (List ℕ)} {h : List Event} {settings : List Setting} {rows : ℕ} (kept : IsKept names h settings rows) where
  pays : (e : Event) → PaysCommit (owes_commit h) e
  pays e = subst (λ owed. PaysCommit owed e) (sym kept.paid) tt

  -- an entry that puts no row, and sets these
  adds : (e : Event) (new : List Setting) → MayFollow Spells h e → MayCome h e → AllSet (e ∷ h) new → length new ≡ length settings
      → rows_kept (e ∷ h) ≡ rows_kept h
      → has_stopped (e ∷ h) ≡ false → owes_commit (e ∷ h) ≡ None → AreStanding (e ∷ h) → IsInOrder (e ∷ h) → IsKept names (e ∷ h) new rows
  adds e new may comes sets long same runs paid stands ordered =
      record {
        legal = (may, kept.legal);
        opened = cons_is_some e h;
        comes = (comes, kept.comes);
        set = sets;
        enough = subst (λ n. length names ≤ n) (sym long) kept.enough;
        counted = kept.counted ∙ sym same;
        few = kept.few;
        runs = runs;
        paid = paid;
        stands = stands;
        ordered = ordered;
      }

  -- the tables that a session sees that alone has changes
  tabled_now : (s : ℕ) (change : Change) → ((other : ℕ) → other ≢ s → own other h ≡ []) → IsTabled (length (created h)) change
      → IsTabled (length ((opening h).schemas ++ tables_made (own s h ++ committed (commits h) h))) change
  tabled_now s change alone tabled =
      subst (λ (schemas : List Schema). IsTabled (length schemas) change)
      (kept.stands.tables s ∙ schemas_after (opening h) (own s h ++ committed (commits h) h)) tabled

  own_gone_at : (t : ℕ) (g : List Event) → own t g ≡ [] → (u : ℕ) → cond (eqb t u) [] (own u g) ≡ own u g
  own_gone_at t g none u = elim (eqb_tells t u) [ inl same ↦ rw same.0 (sym (subst (λ v. own v g ≡ []) same.1 none)) | inr differ ↦ rw differ.0 refl ]

  within : (s : ℕ) → s < length names → s < length settings
  within s joined = omega (arith, joined, kept.enough)

  pub kept_start : (s : ℕ) (item : Item) → under_way s h ≡ None → is_leaving s h ≡ false
      → IsKept names (events.Started s (started s h + 1) item ∷ h) settings rows
  kept_start s item idle stays =
      adds (events.Started s (started s h + 1) item) settings (kept.opened, record { idle = idle; stays = stays; numbered = refl }, pays _) (idle, refl)
      (sets_none (events.Started s (started s h + 1) item) h settings (λ u x held. held) kept.set) refl refl kept.runs refl
      (stands_plain _ h (λ u. refl) refl (λ u. refl) kept.stands) (same_seen (events.Started s (started s h + 1) item) h (λ u. refl) refl refl kept.ordered)

  pub kept_view : (s : ℕ) → MayView Spells s h → IsOpen s h → level s h ≢ Some Serializable → IsKept names (events.View s ∷ h) settings rows
  kept_view s may is_open unlocked =
      adds (events.View s) settings (kept.opened, kept.runs, may, pays _) is_open (sets_none (events.View s) h settings (λ u x held. held) kept.set) refl
      refl kept.runs (owed_none (level s h) s unlocked) (stands_plain _ h (λ u. refl) refl (λ u. refl) kept.stands)
      (same_seen (events.View s) h (λ u. refl) refl refl kept.ordered)

  pub kept_ack : (s moment : ℕ) → OwesAck s h → last_moment h ≤ moment → IsKept names (events.Acked s moment ∷ h) settings rows
  kept_ack s moment owes later =
      adds (events.Acked s moment) settings (kept.opened, kept.runs, record { owed = owes.owed; closed = owes.closed; later = later }, pays _)
      (owes.owed, owes.closed)
      (sets_none (events.Acked s moment) h settings (λ u x held. held) kept.set) refl refl kept.runs refl
      (stands_plain _ h (λ u. refl) refl (λ u. refl) kept.stands)
      (same_seen (events.Acked s moment) h (λ u. refl) refl refl kept.ordered)

  pub kept_signal : (name : List ℕ) → MaySignal name h → IsKept names (events.Signal name ∷ h) settings rows
  kept_signal name may =
      adds (events.Signal name) settings (kept.opened, kept.runs, may, pays _) tt
      (sets_none (events.Signal name) h settings (λ u x held. held) kept.set) refl refl kept.runs refl
      (stands_plain _ h (λ u. refl) refl (λ u. refl) kept.stands)
      (same_seen (events.Signal name) h (λ u. refl) refl refl kept.ordered)

  pub kept_begin : (s : ℕ) (l : Level) → s < length names → MayBegin Spells s (begins h + 1) l h
      → IsKept names (events.Begin s (begins h + 1) l ∷ h) (set settings s (at_begin (get_or settings s at_first))) rows
  kept_begin s l joined may =
      let e = events.Begin s (begins h + 1) l in
      let none : own s h ≡ [] = (ids_of h kept.comes).closed s may.closed in
      adds e (set settings s (at_begin (get_or settings s at_first))) (kept.opened, kept.runs, may, pays _) (refl, may.closed)
      (sets_one e h settings s (at_begin (get_or settings s at_first)) (within s joined) (λ u. own_of e s u (grind (arith, nat_tests))) kept.set
      (set_at_begin h s (begins h + 1) l (get_or settings s at_first) (kept.set s)))
      (length-set settings s _) refl kept.runs refl (stands_begun s (begins h + 1) l h none kept.stands)
      (same_seen e h (own_gone_at s h none) refl refl kept.ordered)

  pub kept_commit : (s : ℕ) → s < length names → MayCommit Spells s h
      → IsKept names (events.Committed s ∷ h) (set settings s (at_end (get_or settings s at_first))) rows
  kept_commit s joined may =
      adds (events.Committed s) (set settings s (at_end (get_or settings s at_first))) (kept.opened, kept.runs, may, pays _) may.is_open
      (sets_one (events.Committed s) h settings s (at_end (get_or settings s at_first)) (within s joined)
      (λ u. own_of (events.Committed s) s u (grind (arith, nat_tests)))
      kept.set (set_at_commit h s (get_or settings s at_first) (kept.set s)))
      (length-set settings s _) refl kept.runs refl (stands_committed s h kept.stands) (ordered_committed s h (committed_is s h) kept.ordered)

  pub kept_rollback : (s : ℕ) → s < length names → MayRollBack Spells s h
      → IsKept names (events.RolledBack s ∷ h) (set settings s (at_end (get_or settings s at_first))) rows
  kept_rollback s joined may =
      adds (events.RolledBack s) (set settings s (at_end (get_or settings s at_first))) (kept.opened, kept.runs, may, pays _) (may.is_open, may.all_undone)
      (sets_one (events.RolledBack s) h settings s (at_end (get_or settings s at_first)) (within s joined)
      (λ u. own_of (events.RolledBack s) s u (grind (arith, nat_tests))) kept.set (set_at_rollback h s (get_or settings s at_first) (kept.set s)))
      (length-set settings s _) refl kept.runs refl (stands_rolled_back s h may.all_undone kept.stands)
      (same_seen (events.RolledBack s) h (own_gone_at s h may.all_undone) refl refl kept.ordered)

  pub kept_undo : (s : ℕ) → MayUndo Spells s (length (own s h) - 1) h → IsUndoable (length (own s h) - 1) (own s h)
      → IsKept names (events.Undone s (length (own s h) - 1) ∷ h) settings rows
  kept_undo s may undoable =
      adds (events.Undone s (length (own s h) - 1)) settings (kept.opened, kept.runs, may, pays _) (may.is_open, undoable)
      (sets_none (events.Undone s (length (own s h) - 1)) h settings (λ u x held. held) kept.set) refl refl kept.runs refl
      (stands_undone s (length (own s h) - 1) h undoable kept.stands) (ordered_undone s (length (own s h) - 1) h undoable kept.ordered)

  pub kept_remove : (s table : ℕ) (key : Value) → MayChange Spells s (Remove table key) h → IsTabled (length (created h)) (Remove table key)
      → ((other : ℕ) → other ≢ s → own other h ≡ []) → IsKept names (events.Changed s (Remove table key) ∷ h) settings rows
  kept_remove s table key may tabled alone =
      adds (events.Changed s (Remove table key)) settings (kept.opened, kept.runs, may, pays _) (may.is_open, tabled)
      (sets_none (events.Changed s (Remove table key)) h settings (λ u x held. held) kept.set) refl refl kept.runs refl
      (stands_row s (Remove table key) h refl kept.stands)
      (ordered_changed s (Remove table key) h (tabled_now s (Remove table key) alone tabled) kept.ordered)

  -- a row more
  pub kept_put : (s table : ℕ) (row : List Value) → MayChange Spells s (Put table row) h → IsTabled (length (created h)) (Put table row)
      → ((other : ℕ) → other ≢ s → own other h ≡ []) → IsKept names (events.Changed s (Put table row) ∷ h) settings (rows + 1)
  kept_put s table row may tabled alone =
      record {
        legal = ((kept.opened, kept.runs, may, pays _), kept.legal);
        opened = cons_is_some _ h;
        comes = ((may.is_open, tabled), kept.comes);
        set = sets_none (events.Changed s (Put table row)) h settings (λ u x held. held) kept.set;
        enough = kept.enough;
        counted = omega (arith, kept.counted, sum_by-cons rows_of_entry (events.Changed s (Put table row)) h);
        few = subst (λ n. n ≤ most_rows) (omega (arith, kept.counted, sum_by-cons rows_of_entry (events.Changed s (Put table row)) h)) may.within;
        runs = kept.runs;
        paid = refl;
        stands = stands_row s (Put table row) h refl kept.stands;
        ordered = ordered_changed s (Put table row) h (tabled_now s (Put table row) alone tabled) kept.ordered;
      }

  -- ---- replies

  few_by : (reply : Reply) → IsWithin reply h → rows + rows_of_reply reply ≤ most_rows
  few_by reply (inl none) = subst (λ n. n ≤ most_rows) (omega (arith, none)) kept.few
  few_by reply (inr fits) = subst (λ n. n + rows_of_reply reply ≤ most_rows) (sym kept.counted) fits

  may_end : (s : ℕ) (reply : Reply) → (may : MayReply s reply h) → MayFollow Spells h (events.Ended s (started s h) reply)
  may_end s reply may = (
    kept.opened,
    record {
      numbered = refl;
      item = may.item;
      asked = may.asked;
      ends = subst (λ stopped. EndsBy stopped Spells s may.item reply h)
          (sym kept.runs) may.ends;
    },
    pays _,
  )

  pub kept_end : (s : ℕ) (reply : Reply) (new : List Setting) → MayReply s reply h → AllSet (events.Ended s (started s h) reply ∷ h) new
      → length new ≡ length settings → IsKept names (events.Ended s (started s h) reply ∷ h) new (rows + rows_of_reply reply)
  kept_end s reply new may sets long =
      record {
        legal = (may_end s reply may, kept.legal);
        opened = cons_is_some _ h;
        comes = ((may.item, may.asked, refl), kept.comes);
        set = sets;
        enough = subst (λ n. length names ≤ n) (sym long) kept.enough;
        counted = omega (arith, kept.counted, sum_by-cons rows_of_entry (events.Ended s (started s h) reply) h);
        few = few_by reply may.ends.1;
        runs = kept.runs;
        paid = refl;
        stands = stands_plain _ h (λ u. refl) refl (λ u. refl) kept.stands;
        ordered = same_seen (events.Ended s (started s h) reply) h (λ u. refl) refl refl kept.ordered;
      }

  pub kept_reply : (s : ℕ) (reply : Reply) → MayReply s reply h → reply ≢ replies.Done
      → IsKept names (events.Ended s (started s h) reply ∷ h) settings (rows + rows_of_reply reply)
  kept_reply s reply may not_done = kept_end s reply settings may (λ u. elim (eqb_tells u s) [
    | inl same ↦ subst (λ v. HasSet Spells v (events.Ended s (started s h) reply ∷ h) (get_or settings v at_first)) (sym same.1)
        (set_at_end h s (started s h) reply (get_or settings s at_first) not_done (kept.set s))
    | inr differ ↦ set_other (events.Ended s (started s h) reply) h u (get_or settings u at_first)
        (own_of (events.Ended s (started s h) reply) s u (grind (arith, nat_tests)) differ.1) (kept.set u)
  ]) refl

  pub kept_signalled : (s : ℕ) → MayReply s replies.Done h → is_of_signal (under_way s h) ≡ true
      → IsKept names (events.Ended s (started s h) replies.Done ∷ h) settings rows
  kept_signalled s may asked =
      subst (λ n. IsKept names (events.Ended s (started s h) replies.Done ∷ h) settings n) (omega arith)
      (kept_end s replies.Done settings may (λ u. elim (eqb_tells u s) [
        | inl same ↦ subst (λ v. HasSet Spells v (events.Ended s (started s h) replies.Done ∷ h) (get_or settings v at_first)) (sym same.1)
            (set_at_signal h s (started s h) (get_or settings s at_first) asked (kept.set s))
        | inr differ ↦ set_other (events.Ended s (started s h) replies.Done) h u (get_or settings u at_first)
            (own_of (events.Ended s (started s h) replies.Done) s u (grind (arith, nat_tests)) differ.1) (kept.set u)
      ]) refl)

  pub kept_done : (s : ℕ) (stmt : Stmt) (x : Setting) → s < length names → MayReply s replies.Done h → Asks Spells s stmt h
      → x ≡ set_by stmt (length (own s h)) (is_some (level s h)) (get_or settings s at_first)
      → IsKept names (events.Ended s (started s h) replies.Done ∷ h) (set settings s x) rows
  kept_done s stmt x joined may asks is =
      let e = events.Ended s (started s h) replies.Done in
      subst (λ n. IsKept names (e ∷ h) (set settings s x) n) (omega arith)
      (kept_end s replies.Done (set settings s x) may
      (sets_one e h settings s x (within s joined) (λ u. own_of e s u (grind (arith, nat_tests))) kept.set
      (subst (HasSet Spells s (e ∷ h)) (sym is) (set_at_done h s (started s h) stmt (get_or settings s at_first) asks (kept.set s))))
      (length-set settings s x))

  pub kept_join : (name : List ℕ) → IsKept (names ++ name ∷ []) h (settings ++ at_first ∷ []) rows
  kept_join name =
      record {
        legal = kept.legal;
        opened = kept.opened;
        comes = kept.comes;
        set = sets_joined h settings kept.set;
        enough = rw (length-append names (name ∷ []), length-append settings (at_first ∷ [])) (omega (arith, kept.enough));
        counted = kept.counted;
        few = kept.few;
        runs = kept.runs;
        paid = kept.paid;
        stands = kept.stands;
        ordered = kept.ordered;
      }

-- ---- a table

module _ {names : List (List ℕ)} {h : List Event} {settings : List Setting} {rows : ℕ} (kept : IsKept names h settings rows) (s : ℕ) (l : Level)
    (schema : Schema) (joined : s < length names) (may : MayMake s l schema h) where
  abbrev early : List Setting
  early = set settings s (at_begin (get_or settings s at_first))

  first : IsKept names (begun s l h) early rows
  first = kept_begin kept s l joined may.may_begin

  -- nothing is made
  pub kept_none_made : IsKept names (none_made s l h) (set_after settings s) rows
  kept_none_made = kept_rollback first s joined may.may_roll_back

  second : AllSet (created_by s l schema h) early
  second = sets_none (events.Changed s (Create schema)) (begun s l h) early (λ u x held. held) first.set

  new : own s (begun s l h) ≡ []
  new = grind (arith, nat_tests)

  commits_it : is_of s (events.Committed s) ≡ true
  commits_it = grind (arith, nat_tests)

  -- it is made and committed
  pub kept_made : length (created h) < MOST_TABLES → IsKept names (table_made s l schema h) (set_after settings s) rows
  kept_made room =
      record {
        legal = ((cons_is_some _ (begun s l h), first.runs, may.may_commit, tt), ((first.opened, first.runs, may.may_create, tt), first.legal));
        opened = cons_is_some _ (created_by s l schema h);
        comes = (may.may_commit.is_open, ((may.may_create.is_open, tt), first.comes));
        set = sets_one (events.Committed s) (created_by s l schema h) early s (at_end (get_or early s at_first)) (omega (arith, joined, first.enough))
            (λ u. own_of (events.Committed s) s u commits_it) second
            (set_at_commit (created_by s l schema h) s (get_or early s at_first) (second s));
        enough = subst (λ n. length names ≤ n) (sym (length-set early s _)) first.enough;
        counted = first.counted;
        few = first.few;
        runs = first.runs;
        paid = refl;
        stands = stands_made s schema (begun s l h) new room first.stands;
        ordered = ordered_committed s (created_by s l schema h) (committed_is s (created_by s l schema h))
            (ordered_changed s (Create schema) (begun s l h) tt first.ordered);
      }

-- ---- from the clauses of what keeps the lists

-- the invariant
abbrev pub AreKept : Lists → Type 0
AreKept lists = IsKept lists.state.names lists.state.past lists.settings lists.rows

pub by_now : {past : List Event} {s : ℕ} {task : Task} {writer : Option ℕ} (old new : Lists) {settings : List Setting} {rows : ℕ}
    → IsNow past s task writer old.state new.state → new.settings ≡ settings → new.rows ≡ rows → IsKept old.state.names past settings rows → AreKept new
by_now {past} old new {settings} now sets counts kept =
    subst (λ names. IsKept names new.state.past new.settings new.rows) (sym now.names_are)
    (subst (λ h. IsKept old.state.names h new.settings new.rows) (sym now.past_is)
    (subst (λ x. IsKept old.state.names past x new.rows) (sym sets)
    (subst (λ n. IsKept old.state.names past settings n) (sym counts) kept)))

-- the lists of a database, which nobody has joined
pub kept_first : (lists : Lists) → IsFirst lists → AreKept lists
kept_first lists first =
    subst (λ names. IsKept names lists.state.past lists.settings lists.rows) (sym first.names)
    (subst (λ past. IsKept [] past lists.settings lists.rows) (sym first.past)
    (subst (λ settings. IsKept [] (events.Opened first.db ∷ []) settings lists.rows) (sym first.settings)
    (record {
      legal = (refl, tt);
      opened = cons_is_some (events.Opened first.db) [];
      comes = (refl, tt);
      set = λ s. refl;
      enough = omega arith;
      counted = omega (arith, first.rows, sum_by-cons rows_of_entry (events.Opened first.db) []);
      few = subst (λ n. n ≤ most_rows) (sym first.rows) first.few_rows;
      runs = refl;
      paid = refl;
      stands = record { none = λ s. refl; tables = λ s. refl; few = first.few_tables };
      ordered = λ s. tt;
    })))

-- an entry that may want memory
pub by_result : {X Y : Type 0} (result : Result X Y) (e : Event) (s : ℕ) (old new : Lists)
    → OnOk result (Adds e s old.state new.state) → OnErr result (Stays s old.state new.state) → new.settings ≡ old.settings → new.rows ≡ old.rows
    → AreKept old → IsKept old.state.names (e ∷ old.state.past) old.settings old.rows → AreKept new
by_result (Ok x) e s old new ok err sets counts before after = by_now old new ok sets counts after
by_result (Err x) e s old new ok err sets counts before after = by_now old new err sets counts before

-- a transaction that is opened
pub by_begin : {X Y : Type 0} (result : Result X Y) (e : Event) (s : ℕ) (old new : Lists) (settings : List Setting)
    → OnOk result (Adds e s old.state new.state) → OnErr result (Stays s old.state new.state) → OnOk result (new.settings ≡ settings) → OnErr result
    (new.settings ≡ old.settings) → new.rows ≡ old.rows
    → AreKept old → IsKept old.state.names (e ∷ old.state.past) settings old.rows → AreKept new
by_begin (Ok x) e s old new settings ok err sets unset counts before after = by_now old new ok sets counts after
by_begin (Err x) e s old new settings ok err sets unset counts before after = by_now old new err unset counts before

pub by_join : {X Y : Type 0} (result : Result X Y) (name : List ℕ) (old new : Lists)
    → OnOk result (new.state.names ≡ old.state.names ++ name ∷ []) → new.state.past ≡ old.state.past → OnOk result
    (new.settings ≡ old.settings ++ at_first ∷ []) → new.rows ≡ old.rows
    → OnErr result ((new.state.names ≡ old.state.names) × (new.settings ≡ old.settings)) → AreKept old → AreKept new
by_join {X} {Y} result name old new names past sets counts err before =
    subst (λ h. IsKept new.state.names h new.settings new.rows) (sym past)
    (subst (λ n. IsKept new.state.names old.state.past new.settings n) (sym counts) (go result names sets err)) where
      go : (r : Result X Y) → OnOk r (new.state.names ≡ old.state.names ++ name ∷ []) → OnOk r (new.settings ≡ old.settings ++ at_first ∷ [])
          → OnErr r ((new.state.names ≡ old.state.names) × (new.settings ≡ old.settings)) → IsKept new.state.names old.state.past new.settings old.rows
      go (Ok x) names sets err =
          subst (λ ns. IsKept ns old.state.past new.settings old.rows) (sym names)
          (subst (λ xs. IsKept (old.state.names ++ name ∷ []) old.state.past xs old.rows) (sym sets)
          (kept_join before name))
      go (Err x) names sets err =
          subst (λ ns. IsKept ns old.state.past new.settings old.rows) (sym err.0)
          (subst (λ xs. IsKept old.state.names old.state.past xs old.rows) (sym err.1) before)

-- the session's change makes a step
pub by_change : (s : ℕ) (old new : Lists) (answer : Changed) → ((other : ℕ) → other ≢ s → own other old.state.past ≡ [])
    → ((change : Change) → asked (task_of s old.state) ≡ Some change → MayChange Spells s change old.state.past × IsTabled (length (created old.state.past))
    change × IsOfRow change)
    → Changes s old.state new.state answer → new.settings ≡ old.settings → new.rows ≡ old.rows + rows_entered answer (task_of s old.state) → AreKept old →
    AreKept new
by_change s old new stepped.Went alone may changes sets counts kept = by_now old new changes.turns sets (counts ∙ omega arith) kept
by_change s old new (stepped.Done part.Keys) alone may changes sets counts kept = by_now old new changes.1 sets (counts ∙ omega arith) kept
by_change s old new (stepped.Hindered why) alone may changes sets counts kept = by_now old new changes.1 sets (counts ∙ omega arith) kept
by_change s old new (stepped.Done part.Record) alone may changes sets counts kept =
    go changes.change (may changes.change changes.asked_was) changes.now (counts ∙ ap (λ change. old.rows + rows_of_change change) changes.asked_was) where
      go : (change : Change) → MayChange Spells s change old.state.past × IsTabled (length (created old.state.past)) change × IsOfRow change
          → IsNow (events.Changed s change ∷ old.state.past) s (task_of s new.state) old.state.writer old.state new.state → new.rows ≡ old.rows + rows_of_change
          (Some change) → AreKept new
      go (Create schema) may now more = absurd may.2
      go (Put table row) may now more = by_now old new now sets more (kept_put kept s table row may.0 may.1 alone)
      go (Remove table key) may now more = by_now old new now sets (more ∙ omega arith) (kept_remove kept s table key may.0 may.1 alone)

-- the session's newest change is taken back by a step
pub by_undo : (s : ℕ) (old new : Lists) (answer : Undone) → MayUndo Spells s (length (own s old.state.past) - 1) old.state.past
    → IsUndoable (length (own s old.state.past) - 1) (own s old.state.past)
    → TakesBack s (length (own s old.state.past) - 1) old.state new.state answer → new.settings ≡ old.settings → new.rows ≡ old.rows → AreKept old → AreKept new
by_undo s old new stepped.Went may undoable takes sets counts kept = by_now old new takes.0 sets counts kept
by_undo s old new (stepped.Hindered never) may undoable takes sets counts kept = absurd takes
by_undo s old new (stepped.Done over) may undoable takes sets counts kept = by_now old new takes sets counts (kept_undo kept s may undoable)

-- an item ends, after what it set was set
pub by_setting : (s : ℕ) (stmt : Stmt) (x : Setting) (old mid new : Lists) → s < length old.state.names → MayReply s replies.Done old.state.past
    → Asks Spells s stmt old.state.past
    → x ≡ set_by stmt (length (own s old.state.past)) (is_some (level s old.state.past)) (get_or old.settings s at_first)
    → Stays s old.state mid.state → mid.settings ≡ set old.settings s x → mid.rows ≡ old.rows
    → Adds (events.Ended s (started s mid.state.past) replies.Done) s mid.state new.state → new.settings ≡ mid.settings → new.rows ≡ mid.rows + 0 → AreKept
    old → AreKept new
by_setting s stmt x old mid new joined may asks is stays sets counts adds later_sets later_counts kept =
    by_now old new (then_now stays (λ h. events.Ended s (started s h) replies.Done ∷ h) (λ w. w) adds) (later_sets ∙ sets)
    (later_counts ∙ (omega arith ∙ counts)) (kept_done kept s stmt x joined may asks is)

-- a statement that keeps no savepoint sets the same with and without a transaction
pub sets_quietly : (stmt : Stmt) (s made : ℕ) (h : List Event) (x : Setting) → SetsQuietly stmt s h
    → set_by stmt 0 false x ≡ set_by stmt made (is_some (level s h)) x
sets_quietly (stmts.Savepoint name) s made h x quiet = ap (λ l. set_by (stmts.Savepoint name) made (is_some l) x) (sym quiet)
sets_quietly (stmts.SetLevel Session l) s made h x quiet = refl
sets_quietly (stmts.SetLevel NextTransaction l) s made h x quiet = refl
sets_quietly other s made h x quiet = refl

-- the savepoint of an open transaction
pub saves_as : (name : List ℕ) (made : ℕ) (l : Option Level) (x : Setting) → is_some l ≡ true
    → record x { saves = saved name made true x.saves } ≡ set_by (stmts.Savepoint name) made (is_some l) x
saves_as name made l x is_open = rw is_open refl

-- ---- a table is made, or none

pub by_make_table : {X Y : Type 0} (s : ℕ) (l : Level) (schema : Schema) (result : Result X Y) (old new : Lists) → AreKept old → s < length old.state.names
    → MayMake s l schema old.state.past → length (created old.state.past) < MOST_TABLES
    → OnOk result (IsNow (table_made s l schema old.state.past) s Idle None old.state new.state) → OnOk result (new.settings ≡ set_after old.settings s)
    → OnErr result (MakesNoTable s l old new) → new.rows ≡ old.rows → AreKept new
by_make_table s l schema (Ok x) old new kept joined may room made sets none counts = by_now old new made sets counts (kept_made kept s l schema joined may room)
by_make_table s l schema (Err x) old new kept joined may room made sets none counts = elim none [
  | inl stays ↦ by_now old new stays.0 stays.1 counts kept
  | inr undone ↦ by_now old new undone.0 undone.1 counts (kept_none_made kept s l schema joined may)
]
