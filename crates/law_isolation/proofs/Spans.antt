-- The entries of an item that asks for a statement on rows, until it comes to the end of its changes.
use Rattle.std.proofs.Common.{◌≡◌, ◌∙◌, ap, sym, subst, refl, ℕ, Bool, true, false, List, [], ◌∷◌, ◌++◌, Option, Some, None, inl, inr, arith}
use Rattle.std.specs.Prelude.{◌&&◌, is_some, is_none}
use Rattle.std.proofs.lemmas.List.{append-nil}
use Rattle.std.proofs.lemmas.Bool.Decides.{nat_tests}
use Rattle.inno_types.specs.declared.lock.Level.{Level}
use Rattle.inno_types.specs.declared.reply.Item.TheVariants.{Sql}
use Rattle.inno_types.specs.declared.stmt.Stmt.{Stmt}
use Rattle.inno_db.specs.declared.change.Change.{Change}
use Rattle.inno_db.specs.Database.{RowMap}
use Rattle.inno_model.specs.declared.event.Event.{Event}
use Rattle.inno_model.specs.declared.event.Event.TheVariants.{Opened, Begin, Started, View, Changed, Waits, Victim, Undone, Ended, Committed, Acked, RolledBack, Signal, Stopped}
use Rattle.inno_model.specs.Moments.{starts}
use Rattle.inno_model.specs.Past.{under_way, before_item, level, own, did, begins_txn, commits, committed, opening, changed, current, IsOpen}
use Rattle.sql_history.specs.Items.{Language, Asks, is_over, base, own_before}
use Rattle.sql_history.specs.Statements.{is_on_rows, is_select}
use Rattle.sql_history.specs.Answers.{seen_by}
use Rattle.sql_history.specs.Waiting.{is_victim}
use Rattle.sql_history.specs.Legal.{IsLegal}
use Rattle.law_histories.specs.Work.{AllIn}
use Rattle.law_histories.proofs.Placing.{rows_over}
use Rattle.law_histories.proofs.Alike.{Alike, ReadsOne, commits_rows, rolls_back_rows, select_changes}
use Rattle.law_histories.proofs.Entries.{by_session, no_item, open_is, level_kept, true_false}
use Rattle.law_isolation.specs.Calm.{IsUnbroken}

pub alone_closed : (autocommit : Bool) (l : Option Level) → (autocommit && is_none l) ≡ true → l ≡ None
alone_closed true None alone = refl
alone_closed true (Some l) alone = (cc)
alone_closed false l alone = (cc)

module _ (says : Language) (one : ReadsOne says) (s : ℕ) (text : List ℕ) (statement : Stmt) (says_it : says text statement)
    (on_rows : is_on_rows statement ≡ true) where
  -- the item under way asks for the statement, and has not come to the end of its changes
  pub record Spans (past : List Event) : Type 0 where
    pub legal : IsLegal says past
    pub asked : under_way s past ≡ Some (Sql text)
    pub unbroken : IsUnbroken s past
    pub on : is_over s past ≡ false

  pub read_alike : (t : ℕ) (a : Stmt) (past : List Event) → t ≡ s → Asks says t a past → under_way s past ≡ Some (Sql text) → Alike a statement
  read_alike t a past same asks asked =
      let same_text : text ≡ asks.0 = (let x = sym asked ∙ subst (λ u. under_way u past ≡ Some (Sql asks.0)) same asks.1 in cc) in
      one text a statement (subst (λ (t : List ℕ). says t a) (sym same_text) asks.2) says_it

  pub reads_rows : (t : ℕ) (a : Stmt) (past : List Event) → t ≡ s → Asks says t a past → under_way s past ≡ Some (Sql text) → is_on_rows a ≡ true
  reads_rows t a past same asks asked = (read_alike t a past same asks asked).rows ∙ on_rows

  -- an open transaction that this item has not begun was open before it
  pub was_open : {A : Type 0} (past : List Event) → did begins_txn s past ≡ false → level s (before_item s past) ≡ None → IsOpen s past → A
  was_open {A} past not before is_open =
      let closed : level s past ≡ None = elim (level_kept says s past not) [ inl none ↦ none | inr same ↦ same ∙ before ] in
      (let e = ap is_some closed in cc)

  pub unbroken_step : (e : Event) (past : List Event) → starts s e ≡ false → IsUnbroken s (e ∷ past) → IsUnbroken s past
  unbroken_step e past goes (inl none) = inl (grind (arith, nat_tests, goes, none))
  unbroken_step e past goes (inr closed) = inr (grind (arith, nat_tests, goes, closed))

  -- Before its transaction has begun it has made no changes, and no other was open.
  pub unbegun_on : (past : List Event) → IsLegal says past → under_way s past ≡ Some (Sql text) → IsUnbroken s past → did begins_txn s past ≡ false
      → level s past ≡ None → (is_over s past ≡ false) × (level s (before_item s past) ≡ None)
  unbegun_on [] legal asked unbroken not closed = no_item asked
  unbegun_on (Started t j item ∷ past) legal asked unbroken not closed =
      by_session t s (λ is same. rw is (refl, closed))
      (λ is. rw is (unbegun_on past legal.1 (rw is at asked) (unbroken_step (Started t j item) past is unbroken) (rw is at not) closed))
  unbegun_on (Begin t n l ∷ past) legal asked unbroken not closed =
      by_session t s (λ is same. (let e = rw is at not in cc))
      (λ is. rw is (unbegun_on past legal.1 asked (unbroken_step (Begin t n l) past refl unbroken) (rw is at not) (rw is at closed)))
  unbegun_on (View t ∷ past) legal asked unbroken not closed =
      by_session t s (λ is same. (let e = subst (λ u. level u past ≡ Some legal.0.2.l) same legal.0.2.level_is in let f = sym closed ∙ e in cc))
      (λ is. rw is (unbegun_on past legal.1 asked (unbroken_step (View t) past refl unbroken) (rw is at not) closed))
  unbegun_on (Changed t change ∷ past) legal asked unbroken not closed =
      by_session t s (λ is same. absurd (open_is says t s past same legal.0.2.is_open closed))
      (λ is. rw is (unbegun_on past legal.1 asked (unbroken_step (Changed t change) past refl unbroken) (rw is at not) closed))
  unbegun_on (Undone t keep ∷ past) legal asked unbroken not closed =
      by_session t s (λ is same. absurd (open_is says t s past same legal.0.2.is_open closed))
      (λ is. rw is (unbegun_on past legal.1 asked (unbroken_step (Undone t keep) past refl unbroken) (rw is at not) closed))
  unbegun_on (Ended t j reply ∷ past) legal asked unbroken not closed =
      by_session t s (λ is same. no_item (rw is at asked))
      (λ is. rw is (unbegun_on past legal.1 (rw is at asked) (unbroken_step (Ended t j reply) past refl unbroken) (rw is at not) closed))
  unbegun_on (Committed t ∷ past) legal asked unbroken not closed =
      by_session t s
      (λ is same.
      let may = legal.0.2 in
      let settles = commits_rows t may.takes.setting may.statement past (reads_rows t may.statement past same may.takes.asks asked) may.by in
      let before =
      subst (λ u. level u (before_item u past) ≡ None) same (alone_closed may.takes.setting.autocommit (level t (before_item t past)) settles.alone) in
      was_open past (rw is at not) before (subst (λ u. is_some (level u past) ≡ true) same may.is_open))
      (λ is. rw is (unbegun_on past legal.1 asked (unbroken_step (Committed t) past refl unbroken) (rw is at not) (rw is at closed)))
  unbegun_on (RolledBack t ∷ past) legal asked unbroken not closed =
      by_session t s
      (λ is same.
      let may = legal.0.2 in
      let is_open = subst (λ u. is_some (level u past) ≡ true) same may.is_open in
      elim may.by [
        | inl ending ↦ no_item (sym (subst (λ u. under_way u past ≡ None) same ending) ∙ asked)
        | inr by ↦ elim (rolls_back_rows t by.1.setting by.0 past (reads_rows t by.0 past same by.1.asks asked) by.2) [
          | inl victim ↦ elim (unbroken_step (RolledBack t) past refl unbroken) [
            | inl none ↦ true_false (subst (λ u. did is_victim u past ≡ true) same victim) none
            | inr before ↦ was_open past (rw is at not) before is_open
          ]
          | inr alone ↦ was_open past (rw is at not)
              (subst (λ u. level u (before_item u past) ≡ None) same (alone_closed by.1.setting.autocommit (level t (before_item t past)) alone)) is_open
        ]
      ])
      (λ is. rw is (unbegun_on past legal.1 asked (unbroken_step (RolledBack t) past refl unbroken) (rw is at not) (rw is at closed)))
  unbegun_on (Waits t lock blockers at ∷ past) legal asked unbroken not closed =
      let before =
      unbegun_on past legal.1 asked (unbroken_step (Waits t lock blockers at) past refl unbroken) in by_session t s
      (λ is same. rw is (before (rw is at not) closed)) (λ is. rw is (before (rw is at not) closed))
  unbegun_on (Victim t cycle ∷ past) legal asked unbroken not closed =
      let before =
      unbegun_on past legal.1 asked (unbroken_step (Victim t cycle) past refl unbroken) in by_session t s
      (λ is same. rw is (before (rw is at not) closed)) (λ is. rw is (before (rw is at not) closed))
  unbegun_on (Acked t moment ∷ past) legal asked unbroken not closed =
      let before =
      unbegun_on past legal.1 asked (unbroken_step (Acked t moment) past refl unbroken) in by_session t s
      (λ is same. rw is (before (rw is at not) closed)) (λ is. rw is (before (rw is at not) closed))
  unbegun_on (Opened db ∷ past) legal asked unbroken not closed = unbegun_on past legal.1 asked (unbroken_step (Opened db) past refl unbroken) not closed
  unbegun_on (Signal name ∷ past) legal asked unbroken not closed = unbegun_on past legal.1 asked (unbroken_step (Signal name) past refl unbroken) not closed
  unbegun_on (Stopped cause ∷ past) legal asked unbroken not closed =
      unbegun_on past legal.1 asked (unbroken_step (Stopped cause) past refl unbroken) not closed

  on_before : (e : Event) (past : List Event) → starts s e ≡ false → begins_txn e ≡ false → is_over s (e ∷ past) ≡ false → is_over s past ≡ false
  on_before e past goes no_begin on = grind (arith, nat_tests, goes, no_begin, on)

  -- one entry back in the item
  pub span_before : (e : Event) (past : List Event) → Spans (e ∷ past) → starts s e ≡ false → Spans past
  span_before (Opened db) past span goes = no_item (sym (ap (under_way s) span.legal.0) ∙ span.asked)
  span_before (Begin t n l) past span goes =
      let legal = span.legal in
      let unbroken = unbroken_step (Begin t n l) past goes span.unbroken in
      by_session t s
      (λ is same.
      let not = subst (λ u. did begins_txn u past ≡ false) same legal.0.2.first in
      let on = unbegun_on past legal.1 span.asked unbroken not (subst (λ u. level u past ≡ None) same legal.0.2.closed) in
      record { legal = legal.1; asked = span.asked; unbroken = unbroken; on = on.0 })
      (λ is. record { legal = legal.1; asked = span.asked; unbroken = unbroken; on = rw is at span.on })
  span_before (Started t j item) past span goes =
      record {
        legal = span.legal.1;
        asked = rw goes at span.asked;
        unbroken = unbroken_step (Started t j item) past goes span.unbroken;
        on = on_before
            (Started t j item) past goes refl span.on;
      }
  span_before (Ended t j reply) past span goes =
      by_session t s (λ is same. no_item (rw is at span.asked))
      (λ is. record {
        legal = span.legal.1;
        asked = rw is at span.asked;
        unbroken = unbroken_step (Ended t j reply) past goes span.unbroken;
        on = on_before
            (Ended t j reply) past goes refl span.on;
      })
  span_before e past span goes =
      record { legal = span.legal.1; asked = span.asked; unbroken = unbroken_step e past goes span.unbroken; on = on_before e past goes refl span.on }

  -- ---- a SELECT

  module _ (select : is_select statement ≡ true) where
    pub nothing_changed : (past : List Event) → Spans past → own s past ≡ own_before s past
    nothing_changed [] span = refl
    nothing_changed (Started t j item ∷ past) span =
        by_session t s (λ is same. rw is refl) (λ is. rw is (nothing_changed past (span_before (Started t j item) past span is)))
    nothing_changed (Begin t n l ∷ past) span =
        by_session t s (λ is same. rw is (rw is refl)) (λ is. rw is (nothing_changed past (span_before (Begin t n l) past span refl)))
    nothing_changed (Changed t change ∷ past) span =
        by_session t s
        (λ is same.
        let may = span.legal.0.2 in
        let alike = read_alike t may.statement past same may.takes.asks span.asked in
        absurd (select_changes t may.statement past (alike.select ∙ select) may.by))
        (λ is. rw is (nothing_changed past (span_before (Changed t change) past span refl)))
    nothing_changed (Undone t keep ∷ past) span =
        by_session t s (λ is same. (let e = rw is at span.on in cc)) (λ is. rw is (nothing_changed past (span_before (Undone t keep) past span refl)))
    nothing_changed (Committed t ∷ past) span =
        by_session t s (λ is same. (let e = rw is at span.on in cc)) (λ is. rw is (nothing_changed past (span_before (Committed t) past span refl)))
    nothing_changed (RolledBack t ∷ past) span =
        by_session t s (λ is same. (let e = rw is at span.on in cc)) (λ is. rw is (nothing_changed past (span_before (RolledBack t) past span refl)))
    nothing_changed (e ∷ past) span = nothing_changed past (span_before e past span refl)

    -- its view shows the latest rows, where it was taken at the last commit
    pub sees_view : (number : ℕ) (past : List Event) → Spans past → AllIn (opening past) (own_before s past ++ committed (commits past) past)
        → number ≡ commits past → seen_by s number past ≡ base s past
    sees_view number past span within latest =
        let same : own s past ≡ own_before s past = nothing_changed past span in
        let rows =
        rows_over (opening past) (own s past ++ committed (commits past) past) (current s past).schemas [] (sym (append-nil (current s past).schemas))
        (subst (λ (cs : List Change). AllIn (opening past) (cs ++ committed (commits past) past)) (sym same) within) in
        ap (λ n. seen_by s n past) latest
        ∙ ap (λ (m : RowMap). record { schemas = (current s past).schemas; rows = m }) rows
        ∙ ap (λ (cs : List Change). changed (opening past) (cs ++ committed (commits past) past)) same
