-- The steps by which a transaction of its own ends, its commit is acknowledged, and the item ends.
use Rattle.std.proofs.Common.{◌≡◌, ◌≢◌, ℕ, ◌+◌, ◌<◌, true, false, eqb, Some, None, List, [], ◌∷◌, refl, sym, ap, subst, ◌∙◌, inl, inr, arith}
use Rattle.std.proofs.lemmas.Bool.Decides.{nat_tests}
use Rattle.std.proofs.lemmas.Bool.{false≢true}
use Rattle.std.specs.List.{AllByRecursion}
use Rattle.inno_types.specs.declared.stmt.Stmt.{Stmt}
use Rattle.inno_types.specs.declared.stmt.Stmt.TheVariants as stmt
use Rattle.inno_types.specs.declared.reply.Item.TheVariants.{Sql}
use Rattle.inno_types.specs.declared.reply.Reply.{Reply}
use Rattle.inno_types.specs.declared.reply.Reply.TheVariants as replies
use Rattle.inno_types.specs.declared.reply.SqlError.{SqlError}
use Rattle.inno_types.specs.declared.reply.SqlError.TheVariants as errors
use Rattle.inno_db.specs.Database.{Database}
use Rattle.inno_db.specs.Outcome.{outcome}
use Rattle.inno_model.specs.declared.event.Event.{Event}
use Rattle.inno_model.specs.declared.event.Event.TheVariants as events
use Rattle.inno_model.specs.Past.{under_way, of_item, commits_txn, rolls_back_txn, started, own, awaits_ack, IsClosed}
use Rattle.inno_model.specs.Moments.{Sometime}
use Rattle.sql_grammar.specs.Grammar.{Spells}
use Rattle.sql_history.specs.{Items.point, Items.own_before, Settings.Setting, Statements.Sight, Statements.is_on_rows, Statements.is_select}
use Rattle.sql_history.specs.{Statements.refused_at_once, Answers.MaySee, Counts.rows_of_reply, Counts.rows_kept, Counts.most_rows, Endings.RollsBack}
use Rattle.sql_history.specs.Legal.{AnswersRows, EndsRows, EndsTaken, EndsItem, EndsEarly, LacksPages, IsGivenUp, NextBrings, IsOverfull, IsWithin, RollsBackBy, MayRollBack, is_alone}
use Rattle.law_past_agreement.specs.Order.{IsOfRow}
use Rattle.shared_lists.specs.Tasks.{Task, Idle, Lagging, Undoing, MayTakeBack, asked}
use Rattle.shared_lists.specs.State.{State, Closes, task_of}
use Rattle.sql_lists.specs.{Kept.MayReply, Steps.HasRowsAlone, Steps.Steps}
use Rattle.sql_lists.specs.declared.advance.Advance.TheVariants as advance
use Rattle.sql_lists.proofs.Moving.{moves_closes, below_phase}
use Rattle.giving_up.specs.declared.leaving.Leaving.{Leaving}
use Rattle.giving_up.specs.declared.leaving.Leaving.TheVariants as leaving
use Rattle.giving_up.specs.Going.{to_leave}
use Rattle.giving_up.specs.Ends.{is_rows, IsAnswered, EndsWith, MayEndWith, IsClosing, IsFailed, IsGivingUp}
use Rattle.giving_up.specs.Leaving.{IsLeaving, owes_ack, acked}
use Rattle.giving_up.specs.Machines.{MovesOnAcked}
use Rattle.giving_up.proofs.Ends.{spares_ack, closing_on}
use Rattle.giving_up.proofs.Own.{acked_of, did_same, did_now, point_same}
use Rattle.giving_up.proofs.TakingBack.{may_take_back}

-- ---- the reply that ends an item

ends_taken : (s : ℕ) (setting : Setting) (h : List Event) (reply : Reply) (statement : Stmt) → is_on_rows statement ≡ true
    → AnswersRows s setting statement reply h → EndsRows s setting reply h → EndsTaken s setting statement reply h
ends_taken s setting h reply (stmt.Select selected table condition lock) is answers ends = (answers, ends)
ends_taken s setting h reply (stmt.Insert table columns tuples) is answers ends = (answers, ends)
ends_taken s setting h reply (stmt.Update table sets condition) is answers ends = (answers, ends)
ends_taken s setting h reply (stmt.Delete table condition) is answers ends = (answers, ends)
ends_taken s setting h reply other is answers ends = absurd (false≢true is)

-- for want of pages
early_for_pages : {s : ℕ} {h : List Event} (error : SqlError) → LacksPages error → IsGivenUp Spells s h → EndsEarly Spells s (replies.Fail error) h
early_for_pages (errors.Full need free) lacks given-up = (lacks, given-up)
early_for_pages errors.TooDeep lacks given-up = (lacks, given-up)
early_for_pages other lacks given-up = absurd lacks

module _ (s : ℕ) (h : List Event) (kept given : Reply) (m : MayEndWith s kept given h) where
  answered : (reply : Reply) → IsAnswered s reply h → EndsItem Spells s (Sql m.text) reply h
  answered reply a =
      inl (record {
        statement = a.statement;
        asks = a.takes.asks;
        setting = a.takes.setting;
        is_set = a.takes.is_set;
        refusal = None;
        found = a.takes.not_refused;
        ends = ends_taken s a.takes.setting h reply a.statement a.on_rows a.answers a.ends;
        no_victim = a.no_victim;
      })

  ends_item : (reply : Reply) → EndsWith s reply h → EndsItem Spells s (Sql m.text) reply h
  ends_item (replies.Rows rows) a = answered (replies.Rows rows) a
  ends_item (replies.Count n) a = answered (replies.Count n) a
  ends_item (replies.Fail error) a = elim a [
    | inl refused ↦ answered (replies.Fail error) refused
    | inr lacks ↦ inr (inr (early_for_pages error lacks.0 lacks.1))
  ]
  ends_item (replies.RunLimit rows) broken = inr (inr broken)
  ends_item replies.NoMemory leaves = inr (inr (record { leaves = leaves; made = m.made }))
  ends_item other none = absurd none

  pub may_reply : awaits_ack (of_item s h) ≡ false → IsWithin kept h → MayReply s kept h
  may_reply acks within = record { item = Sql m.text; asked = m.item; ends = (acks, within, ends_item kept m.ends) }

  pub not_done : kept ≢ replies.Done
  not_done is = subst (λ (reply : Reply). EndsWith s reply h) is m.ends

pub may_fail : (s : ℕ) (past : List Event) → IsGivingUp s past → MayReply s replies.NoMemory past
may_fail s past g =
    record { item = Sql g.text; asked = g.item; ends = (g.acked, inl refl, inr (inr (record { leaves = inr (inr g.leaves); made = inl g.made }))) }

-- ---- rows that are too many by now

next_brings : (s : ℕ) (h : List Event) (reply : Reply) (sight : Sight) (db : Database) (statement : Stmt) → is_select statement ≡ true
    → MaySee sight s statement db (point s h) → reply ≡ (outcome statement db).reply → NextBrings sight s statement (rows_of_reply reply) h
next_brings s h reply sight db (stmt.Select selected table condition lock) is sees answer = (db, sees, ap rows_of_reply answer)
next_brings s h reply sight db other is sees answer = absurd (false≢true is)

pub some_now : (P Q : List Event → Type 0) (s : ℕ) (h : List Event) → Sometime P s h → Q h → Sometime Q s h
some_now P Q s [] when now = absurd when
some_now P Q s (e ∷ h) when now = inl now

module _ (s rows : ℕ) (h : List Event) (many : most_rows < rows) where
  pub overfull : (kept : Reply) → IsAnswered s kept h → is_rows kept ≡ true → rows ≡ rows_kept h + rows_of_reply kept → IsOverfull Spells s rows h
  overfull kept a is sum =
      record {
        many = many;
        statement = a.statement;
        takes = a.takes;
        l = a.answers.l;
        level_is = a.answers.level_is;
        more = rows_of_reply kept;
        brings = next_brings s h kept _ a.answers.answers.db a.statement (a.selects is) a.answers.answers.sees a.answers.answers.answer;
        sum =
            some_now (λ g. refused_at_once s a.takes.setting a.statement g ≡ None) (λ g. rows ≡ rows_kept g + rows_of_reply kept) s h a.takes.not_refused sum;
      }

  pub limited : (kept given : Reply) → IsClosing s kept given h → is_rows kept ≡ true → rows ≡ rows_kept h + rows_of_reply kept
      → MayEndWith s (replies.RunLimit rows) (replies.RunLimit rows) h
  limited (replies.Rows answer) given c is sum =
      let m = c.may in
      record {
        same = refl;
        text = m.text;
        item = m.item;
        made = m.made;
        ends = (overfull (replies.Rows answer) m.ends refl sum, inr (c.limited refl));
        rows_alone = m.rows_alone;
      }
  limited other given c is sum = absurd (false≢true is)

-- ---- its own transaction ends

module _ (s : ℕ) (old new : State) (kept given : Reply) (idle : task_of s old ≡ Idle) where
  pub committed : IsClosing s kept given (events.Committed s ∷ old.past) → Closes (events.Committed s) s old new
      → Steps IsLeaving s old new (leaving.Unacked kept given) advance.Went
  committed c closes =
      let owed : awaits_ack (of_item s (events.Committed s ∷ old.past)) ≡ true = grind (arith, nat_tests) in
      let closed : IsClosed s (events.Committed s ∷ old.past) = grind (arith, nat_tests) in (
        moves_closes s (events.Committed s) old new (grind (arith, nat_tests)) refl refl closes,
        rw closes.past_is (c, owed, closed, closes.task_is ∙ idle),
        ap (started s) closes.past_is,
      )

  pub rolled : IsClosing s kept given (events.RolledBack s ∷ old.past) → Closes (events.RolledBack s) s old new
      → Steps IsLeaving s old new (leaving.Ending kept given) advance.Went
  rolled c closes =
      let none : awaits_ack (of_item s (events.RolledBack s ∷ old.past)) ≡ false = grind (arith, nat_tests) in (
        moves_closes s (events.RolledBack s) old new (grind (arith, nat_tests)) refl refl closes,
        rw closes.past_is (c, none, closes.task_is ∙ idle),
        ap (started s) closes.past_is,
      )

-- ---- for want of memory

rolls_back_by : (s : ℕ) (setting : Setting) (h : List Event) (statement : Stmt) → is_on_rows statement ≡ true → is_alone s setting h ≡ true
    → RollsBackBy s setting statement h
rolls_back_by s setting h (stmt.Select selected table condition lock) is alone = (refl, inr alone)
rolls_back_by s setting h (stmt.Insert table columns tuples) is alone = (refl, inr alone)
rolls_back_by s setting h (stmt.Update table sets condition) is alone = (refl, inr alone)
rolls_back_by s setting h (stmt.Delete table condition) is alone = (refl, inr alone)
rolls_back_by s setting h other is alone = absurd (false≢true is)

failed_with : (s : ℕ) (h : List Event) (text : List ℕ) → under_way s h ≡ Some (Sql text) → own s (point s h) ≡ own_before s (point s h)
    → EndsWith s replies.NoMemory h → HasRowsAlone s h → IsClosing s replies.NoMemory replies.NoMemory h
failed_with s h text item made ends rows-alone =
    record {
      may = record { same = refl; text = text; item = item; made = inl made; ends = ends; rows_alone = rows-alone };
      rests = inr (refl, made);
      limited = λ is. absurd (false≢true is);
    }

module _ (s : ℕ) (h : List Event) where
  -- in a transaction that it leaves as it was
  pub failed_ends : IsFailed s false h → IsClosing s replies.NoMemory replies.NoMemory h × (awaits_ack (of_item s h) ≡ false)
  failed_ends f =
      (failed_with s h f.takes.asks.0 f.takes.asks.1 f.made (inr (inr (inr f.gives))) f.rows_alone, acked_of (of_item s h) f.not_committed)

  -- in one of its own
  module _ (f : IsFailed s true h) where
    pub may_roll_back : MayRollBack Spells s h
    may_roll_back =
        record {
          is_open = f.gives.1;
          all_undone = f.gives.2;
          by = inr (f.statement, f.takes, rolls_back_by s f.takes.setting h f.statement f.on_rows f.gives.0);
        }

    pub failed_closes : IsClosing s replies.NoMemory replies.NoMemory (events.RolledBack s ∷ h)
    failed_closes =
        let e = events.RolledBack s in
        let mine : eqb s s ≡ true = grind (arith, nat_tests) in
        let none : own s (e ∷ h) ≡ [] = grind (arith, nat_tests) in
        let rolled-back : RollsBack s (e ∷ h) =
        record {
          closed = grind (arith, nat_tests);
          rolled_back = did_now e h s mine refl refl rolls_back_txn refl;
          not_committed = did_same e h s mine refl refl commits_txn refl ∙ f.not_committed;
        } in
        failed_with s (e ∷ h) f.takes.asks.0 f.takes.asks.1
        (subst (λ p. own s p ≡ own_before s p) (sym (point_same e h s mine refl refl refl)) f.made) (inl rolled-back)
        (subst (AllByRecursion IsOfRow) (sym none) tt)

-- ---- the acknowledgement

pub moves_on_acked : MovesOnAcked IsLeaving to_leave owes_ack acked
moves_on_acked (leaving.Unacked kept given) owes =
    record {
      owed = λ state s r. record { owed = r.1; closed = r.2 };
      runs = λ old new s moment r adds.
          let none : awaits_ack (of_item s (events.Acked s moment ∷ old.past)) ≡ false = grind (arith, nat_tests) in
          rw adds.past_is (closing_on (events.Acked s moment) old.past s (spares_ack s moment old.past) kept given r.0, none, adds.task_is ∙ r.3);
      nears = λ old new s. below_phase 2 0 _ _ _ _ _ _ (omega arith);
    }
moves_on_acked m owes = absurd (false≢true owes)

-- ---- nothing is to be told

taken_back_asks_none : (task : Task) → MayTakeBack task → asked task ≡ None
taken_back_asks_none Idle back = refl
taken_back_asks_none Lagging back = refl
taken_back_asks_none (Undoing left) back = refl
taken_back_asks_none other back = absurd back

pub asks_for_none : (state : State) (s : ℕ) (m : Leaving) → IsLeaving state s m → asked (task_of s state) ≡ None
asks_for_none state s (leaving.BackingOut work) r = taken_back_asks_none (task_of s state) (may_take_back work.before s state.past (task_of s state) r.1)
asks_for_none state s (leaving.Failed alone) r = ap asked r.1
asks_for_none state s (leaving.Unacked kept given) r = ap asked r.3
asks_for_none state s (leaving.Ending kept given) r = ap asked r.2
asks_for_none state s leaving.Ended r = absurd r
