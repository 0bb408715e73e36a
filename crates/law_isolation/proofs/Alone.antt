-- A legal history whose sessions are calm answers as its committed transactions do alone.
use Rattle.std.proofs.Common.{◌≡◌, ◌∙◌, ap, sym, subst, refl, ℕ, Bool, true, false, List, [], ◌∷◌, ◌++◌, Option, Some, None, inl, inr, arith}
use Rattle.std.specs.Prelude.{◌==◌}
use Rattle.std.proofs.lemmas.Bool.Decides.{nat_tests}
use Rattle.inno_types.specs.declared.reply.Item.{Item}
use Rattle.inno_types.specs.declared.reply.Item.TheVariants.{Sql}
use Rattle.inno_types.specs.declared.reply.Reply.{Reply}
use Rattle.inno_types.specs.declared.reply.Reply.TheVariants as replies
use Rattle.inno_types.specs.declared.reply.Reply.TheVariants.{Done, Count, Rows, Fail}
use Rattle.inno_types.specs.declared.reply.SqlError.{SqlError}
use Rattle.inno_types.specs.declared.stmt.Stmt.{Stmt}
use Rattle.inno_types.specs.declared.stmt.Stmt.TheVariants as stmt
use Rattle.inno_db.specs.declared.change.Change.{Change}
use Rattle.inno_db.specs.declared.outcome.Outcome.{Outcome}
use Rattle.inno_db.specs.Database.{Database}
use Rattle.inno_db.specs.Outcome.{outcome}
use Rattle.inno_model.specs.declared.event.Event.{Event}
use Rattle.inno_model.specs.declared.event.Event.TheVariants.{Opened, Begin, Started, Ended, Committed}
use Rattle.inno_model.specs.Moments.{starts}
use Rattle.inno_model.specs.Past.{under_way, own, did, begins_txn, commits, committed, opening, changed}
use Rattle.sql_history.specs.Items.{Language, Asks, is_over, base, own_before, point}
use Rattle.sql_history.specs.Settings.{Setting}
use Rattle.sql_history.specs.Statements.{is_on_rows}
use Rattle.sql_history.specs.Counts.{has_stopped}
use Rattle.sql_history.specs.Legal.{IsLegal, MayEnd, EndsBy, EndsItem, EndsEarly, EndsAsked, EndsTaken, EndsCreate, AnswersRows, is_alone}
use Rattle.sql_history.specs.Serial.{Piece, compared, with_later, AreWorks, after_work, WorkAnswers, WorksAnswer, alone, AnswersAsAlone}
use Rattle.sql_history.proofs.Pasts.{commit_adds, point_now, point_closing, point_stays}
use Rattle.law_histories.specs.Work.{AllIn, committed_db}
use Rattle.law_histories.proofs.Pieces.{tracks-work, tracks-answers}
use Rattle.law_histories.proofs.Alike.{ReadsOne}
use Rattle.law_histories.proofs.Entries.{by_session, no_item, before_settled, begun_settled, true_false, some_none}
use Rattle.law_histories.proofs.Outcomes.{creation-answer}
use Rattle.law_isolation.proofs.Commits.{commit_work}
use Rattle.law_isolation.specs.Calm.{IsUnbroken, SeesLatest, IsCalm, AreCalm}
use Rattle.law_isolation.proofs.Spans.{Spans, unbroken_step}
use Rattle.law_isolation.proofs.Carried.{over_more}
use Rattle.law_isolation.proofs.Kept.{all_kept}
use Rattle.law_histories.proofs.Items.{did_same}

-- ---- points

over_starts : (s : ℕ) (e : Event) (past : List Event) → is_over s (e ∷ past) ≡ true → starts s e ≡ false
over_starts s (Started t j item) past over = by_session t s (λ is same. (let e = rw is at over in cc)) (λ is. is)
over_starts s e past over = refl

-- what holds of each past before a past where it holds, holds at the point
at_point : (P : List Event → Type 0) (s : ℕ) → ((e : Event) (past : List Event) → P (e ∷ past) → P past) → (past : List Event) → P past → P (point s past)
at_point P s back [] holds = holds
at_point P s back (e ∷ past) holds =
    elim (is_over s (e ∷ past)) as (λ b. is_over s (e ∷ past) ≡ b → P (point s (e ∷ past))) [
      | false ↦ λ on. subst P (sym (point_now s (e ∷ past) on)) holds
      | true ↦ λ over. elim (is_over s past) as (λ b. is_over s past ≡ b → P (point s (e ∷ past))) [
        | false ↦ λ on. subst P (sym (point_closing s e past on over)) (back e past holds)
        | true ↦ λ was. subst P (sym (point_stays s e past was over)) (at_point P s back past (back e past holds))
      ] refl
    ] refl

begun_before : (s : ℕ) (e : Event) (past : List Event) → is_over s (e ∷ past) ≡ true → did begins_txn s (e ∷ past) ≡ true → did begins_txn s past ≡ true
begun_before s (Begin t n l) past over begun = by_session t s (λ is same. (let e = rw is at over in cc)) (λ is. rw is at begun)
begun_before s e past over begun = sym (did_same begins_txn s e past (over_starts s e past over) refl) ∙ begun

asked_before : (s : ℕ) (item : Item) (e : Event) (past : List Event) → starts s e ≡ false → under_way s (e ∷ past) ≡ Some item → under_way s past ≡ Some item
asked_before s item (Started t j other) past goes asks = rw goes at asks
asked_before s item (Ended t j reply) past goes asks = by_session t s (λ is same. no_item (rw is at asks)) (λ is. rw is at asks)
asked_before s item e past goes asks = asks

module _ (says : Language) (one : ReadsOne says) where
  module _ (s : ℕ) (text : List ℕ) (statement : Stmt) (says_it : says text statement) (on_rows : is_on_rows statement ≡ true) where
    point_spans : (past : List Event) → IsLegal says past → under_way s past ≡ Some (Sql text) → IsUnbroken s past
        → Spans says one s text statement says_it on_rows (point s past)
    point_spans [] legal asks unbroken = no_item asks
    point_spans (e ∷ past) legal asks unbroken =
        elim (is_over s (e ∷ past)) as (λ b. is_over s (e ∷ past) ≡ b → Spans says one s text statement says_it on_rows (point s (e ∷ past))) [
          | false ↦ λ on. subst (Spans says one s text statement says_it on_rows) (sym (point_now s (e ∷ past) on))
              (record { legal = legal; asked = asks; unbroken = unbroken; on = on })
          | true ↦ λ over.
              let goes = over_starts s e past over in
              let asks' = asked_before s (Sql text) e past goes asks in
              let unbroken' = unbroken_step says one s text statement says_it on_rows e past goes unbroken in
              elim (is_over s past) as (λ b. is_over s past ≡ b → Spans says one s text statement says_it on_rows (point s (e ∷ past))) [
                | false ↦ λ on. subst (Spans says one s text statement says_it on_rows) (sym (point_closing s e past on over))
                    (record { legal = legal.1; asked = asks'; unbroken = unbroken'; on = on })
                | true ↦ λ was. subst (Spans says one s text statement says_it on_rows) (sym (point_stays s e past was over))
                    (point_spans past legal.1 asks' unbroken')
              ] refl
        ] refl

  -- where it has begun its transaction, it had begun it by its point
  point_begun : (s : ℕ) (past : List Event) → did begins_txn s past ≡ true → did begins_txn s (point s past) ≡ true
  point_begun s [] begun = begun
  point_begun s (e ∷ past) begun =
      elim (is_over s (e ∷ past)) as (λ b. is_over s (e ∷ past) ≡ b → did begins_txn s (point s (e ∷ past)) ≡ true) [
        | false ↦ λ on. subst (λ h. did begins_txn s h ≡ true) (sym (point_now s (e ∷ past) on)) begun
        | true ↦ λ over.
            let before = begun_before s e past over begun in
            elim (is_over s past) as (λ b. is_over s past ≡ b → did begins_txn s (point s (e ∷ past)) ≡ true) [
              | false ↦ λ on. subst (λ h. did begins_txn s h ≡ true) (sym (point_closing s e past on over)) before
              | true ↦ λ was. subst (λ h. did begins_txn s h ≡ true) (sym (point_stays s e past was over)) (point_begun s past before)
            ] refl
      ] refl

  calm_point : (s : ℕ) (past : List Event) → SeesLatest says s past → IsCalm says s past → SeesLatest says s (point s past)
  calm_point s [] latest calm = latest
  calm_point s (e ∷ past) latest calm =
      elim (is_over s (e ∷ past)) as (λ b. is_over s (e ∷ past) ≡ b → SeesLatest says s (point s (e ∷ past))) [
        | false ↦ λ on. subst (SeesLatest says s) (sym (point_now s (e ∷ past) on)) latest
        | true ↦ λ over. elim (is_over s past) as (λ b. is_over s past ≡ b → SeesLatest says s (point s (e ∷ past))) [
          | false ↦ λ on. subst (SeesLatest says s) (sym (point_closing s e past on over)) calm.1
          | true ↦ λ was. subst (SeesLatest says s) (sym (point_stays s e past was over)) (calm_point s past calm.1 calm.2)
        ] refl
      ] refl

  -- ---- replies

  -- an item's reply is that of its outcome over the base at its point
  module _ (s : ℕ) (text : List ℕ) (past : List Event) (legal : IsLegal says past) (latest : SeesLatest says s past) (calm : IsCalm says s past)
      (all : AreCalm says past) (asks : under_way s past ≡ Some (Sql text)) where
    rows_reply : (statement : Stmt) (setting : Setting) (reply : Reply) → says text statement → is_on_rows statement ≡ true → did begins_txn s past ≡ true
        → IsUnbroken s past → AnswersRows s setting statement reply past → reply ≡ (outcome statement (base s (point s past))).reply
    rows_reply statement setting reply says_it on_rows begun unbroken gave =
        let at = point s past in
        let span = point_spans s text statement says_it on_rows past legal asks unbroken in
        let kept = all_kept says one at span.legal (at_point (AreCalm says) s (λ e h calms. calms.1) past all) in
        let none : own_before s at ≡ [] =
        before_settled says s (Sql text) at span.legal span.asked ∙ begun_settled says s (Sql text) at span.asked (point_begun s past begun) in
        let within = subst (λ (cs : List Change). AllIn (opening at) (cs ++ committed (commits at) at)) (sym none) kept.within in
        gave.answers.answer
        ∙ ap (λ (d : Database). (outcome statement d).reply)
        (calm_point s past latest calm statement gave.l (is_alone s setting past) gave.answers.db (text, span.asked, says_it) on_rows span.on span.unbroken
        gave.level_is within gave.answers.sees)

    create_reply : (table : List ℕ) (skips : Bool) (definitions : List _) (changes : List Change)
        → changes ≡ (outcome (stmt.CreateTable table skips definitions) (base s (point s past))).changes → did begins_txn s past ≡ true
        → EndsCreate s changes past → Done ≡ (outcome (stmt.CreateTable table skips definitions) (base s (point s past))).reply
    create_reply table skips definitions [] is begun ends = true_false begun ends.1
    create_reply table skips definitions (change ∷ changes) is begun ends =
        sym (creation-answer table skips definitions (base s (point s past)) (λ none. let e = is ∙ none in cc))

    taken_reply : (statement : Stmt) (setting : Setting) (reply : Reply) → says text statement → did begins_txn s past ≡ true → IsUnbroken s past
        → EndsTaken s setting statement reply past → reply ≡ (outcome statement (base s (point s past))).reply
    taken_reply (stmt.Select selected table condition lock) setting reply says_it begun unbroken ends =
        rows_reply (stmt.Select selected table condition lock) setting reply says_it refl begun unbroken ends.0
    taken_reply (stmt.Insert table columns tuples) setting reply says_it begun unbroken ends =
        rows_reply (stmt.Insert table columns tuples) setting reply says_it refl begun unbroken ends.0
    taken_reply (stmt.Update table sets condition) setting reply says_it begun unbroken ends =
        rows_reply (stmt.Update table sets condition) setting reply says_it refl begun unbroken ends.0
    taken_reply (stmt.Delete table condition) setting reply says_it begun unbroken ends =
        rows_reply (stmt.Delete table condition) setting reply says_it refl begun unbroken ends.0
    taken_reply (stmt.CreateTable table skips definitions) setting reply says_it begun unbroken ends =
        ends.0 ∙ create_reply table skips definitions (outcome (stmt.CreateTable table skips definitions) (base s (point s past))).changes refl begun ends.1
    taken_reply (stmt.Begin snapshot) setting reply says_it begun unbroken ends = ends.0
    taken_reply stmt.Commit setting reply says_it begun unbroken ends = ends.0
    taken_reply stmt.Rollback setting reply says_it begun unbroken ends = ends.0
    taken_reply (stmt.RollbackTo name) setting reply says_it begun unbroken ends = ends.0
    taken_reply (stmt.Savepoint name) setting reply says_it begun unbroken ends = ends.0
    taken_reply (stmt.SetAutocommit on) setting reply says_it begun unbroken ends = ends.0
    taken_reply (stmt.SetLevel scope l) setting reply says_it begun unbroken ends = ends.0

    asked_reply : (refusal : Option SqlError) (statement : Stmt) (setting : Setting) (reply r : Reply) → compared (Some reply) ≡ Some r
        → says text statement → did begins_txn s past ≡ true → IsUnbroken s past → EndsAsked refusal s setting statement reply past
        → reply ≡ (outcome statement (base s (point s past))).reply
    asked_reply (Some error) statement setting reply r is says_it begun unbroken ends = some_none (sym (ap (λ x. compared (Some x)) ends.0) ∙ is)
    asked_reply None statement setting reply r is says_it begun unbroken ends = taken_reply statement setting reply says_it begun unbroken ends

    early_none : {A : Type 0} (reply r : Reply) → compared (Some reply) ≡ Some r → EndsEarly says s reply past → A
    early_none (Fail error) r is early = some_none is
    early_none (replies.RunLimit rows) r is early = some_none is
    early_none replies.NoMemory r is early = some_none is
    early_none other r is early = absurd early

    sql_reply : (statement : Stmt) (reply r : Reply) → says text statement → compared (Some reply) ≡ Some r → did begins_txn s past ≡ true
        → EndsItem says s (Sql text) reply past → reply ≡ (outcome statement (base s (point s past))).reply
    sql_reply statement reply r says_it is begun (inl ends) =
        let same : ends.asks.0 ≡ text = (let x = sym ends.asks.1 ∙ asks in cc) in
        let says_ends = subst (λ (t : List ℕ). says t ends.statement) same ends.asks.2 in
        asked_reply ends.refusal ends.statement ends.setting reply r is says_ends begun (inl ends.no_victim) ends.ends
        ∙ ap (λ (o : Outcome). o.reply) ((one text ends.statement statement says_ends says_it).answers (base s (point s past)))
    sql_reply statement reply r says_it is begun (inr (inl none)) = some_none (sym (ap (λ x. compared (Some x)) none.answer) ∙ is)
    sql_reply statement reply r says_it is begun (inr (inr early)) = early_none reply r is early

  compared_is : (reply r : Reply) → compared (Some reply) ≡ Some r → r ≡ reply
  compared_is Done r is = cc
  compared_is (Count n) r is = cc
  compared_is (Rows rows) r is = cc
  compared_is other r is = some_none is

  end_reply : (s j : ℕ) (reply r : Reply) (statement : Stmt) (past : List Event) → IsLegal says past → SeesLatest says s past → IsCalm says s past
      → AreCalm says past → MayEnd says s j reply past → compared (Some reply) ≡ Some r → Asks says s statement past → did begins_txn s past ≡ true
      → r ≡ (outcome statement (base s (point s past))).reply
  end_reply s j reply r statement past legal latest calm all may is asks begun =
      let item : may.item ≡ Sql asks.0 = (let x = sym may.asked ∙ asks.1 in cc) in
      compared_is reply r is
      ∙ elim (has_stopped past) as (λ b. has_stopped past ≡ b → EndsBy b says s may.item reply past → reply ≡
      (outcome statement (base s (point s past))).reply) [
        | true ↦ λ stopped e. some_none (sym (ap (λ x. compared (Some x)) e.0) ∙ is)
        | false ↦ λ runs e. sql_reply s asks.0 past legal latest calm all asks.1 statement reply r asks.2 is begun
            (subst (λ (i : Item). EndsItem says s i reply past) item e.2)
      ] refl may.ends

  -- ---- all transactions

  -- The replies that come later are those of the outcomes of items that have begun and ended their transaction.
  abbrev AreLater : (ℕ → Option Reply) → List Event → Type 0
  AreLater later past =
      (s : ℕ) (r : Reply) (a : Stmt) → compared (later s) ≡ Some r → Asks says s a past → did begins_txn s past ≡ true → is_over s past ≡ true
      → r ≡ (outcome a (base s (point s past))).reply

  abbrev is_inner : Event → Bool
  is_inner (Started t j item) = false
  is_inner (Ended t j reply) = false
  is_inner other = true

  stays_later : (later : ℕ → Option Reply) (s : ℕ) (r : Reply) (a : Stmt) (e : Event) (past : List Event) → AreLater later (e ∷ past) → starts s e ≡ false
      → begins_txn e ≡ false → compared (later s) ≡ Some r → Asks says s a (e ∷ past) → did begins_txn s past ≡ true → is_over s past ≡ true
      → r ≡ (outcome a (base s (point s past))).reply
  stays_later later s r a e past fits goes no_begin is asks begun over =
      let over' = over_more s e past goes no_begin over in
      fits s r a is asks (did_same begins_txn s e past goes no_begin ∙ begun) over' ∙ ap (λ h. (outcome a (base s h)).reply) (point_stays s e past over over')

  inner_later : (later : ℕ → Option Reply) (e : Event) (past : List Event) → is_inner e ≡ true → IsLegal says (e ∷ past) → AreLater later (e ∷ past)
      → AreLater later past
  inner_later later (Begin t n l) past inner legal fits s r a is asks begun over =
      by_session t s
      (λ mine same. true_false begun (subst (λ u. did begins_txn u past ≡ false) same legal.0.2.first))
      (λ other. fits s r a is asks (rw other begun) (rw other over) ∙ ap (λ h. (outcome a (base s h)).reply)
      (point_stays s (Begin t n l) past over (rw other over)))
  inner_later later (Started t j item) past inner legal fits s r a is asks begun over = (cc)
  inner_later later (Ended t j reply) past inner legal fits s r a is asks begun over = (cc)
  inner_later later e past inner legal fits s r a is asks begun over = stays_later later s r a e past fits refl refl is asks begun over

  turned : (t s : ℕ) → (s == t) ≡ false → (t == s) ≡ false
  turned t s is = grind (arith, nat_tests, is)

  asks_other : (s : ℕ) (a : Stmt) (past : List Event) (e : Event) → under_way s (e ∷ past) ≡ under_way s past → Asks says s a past → Asks says s a (e ∷ past)
  asks_other s a past e same asks = (asks.0, same ∙ asks.1, asks.2)

  end_later : (later : ℕ → Option Reply) (t j : ℕ) (reply : Reply) (past : List Event) → IsLegal says (Ended t j reply ∷ past)
      → AreCalm says (Ended t j reply ∷ past) → AreLater later (Ended t j reply ∷ past) → AreLater (with_later t (Some reply) later) past
  end_later later t j reply past legal calm fits s r a is asks begun over =
      by_session s t
      (λ mine same. end_reply s j reply r a past legal.1 (subst (λ u. SeesLatest says u past) (sym same) calm.0.0)
      (subst (λ u. IsCalm says u past) (sym same) calm.0.1) calm.1 (subst (λ u. MayEnd says u j reply past) (sym same) legal.0.1) (rw mine at is) asks
      begun)
      (λ other.
      let apart = turned t s other in
      stays_later later s r a (Ended t j reply) past fits refl refl (rw other at is) (asks_other s a past (Ended t j reply) (rw apart refl) asks) begun over)

  start_later : (later : ℕ → Option Reply) (t j : ℕ) (item : Item) (past : List Event) → AreLater later (Started t j item ∷ past)
      → AreLater (with_later t None later) past
  start_later later t j item past fits s r a is asks begun over =
      by_session s t
      (λ mine same. some_none (rw mine at is))
      (λ other.
      let apart = turned t s other in
      stays_later later s r a (Started t j item) past fits apart refl (rw other at is) (asks_other s a past (Started t j item) (rw apart refl) asks) begun over)

  record IsReplayed (later : ℕ → Option Reply) (past : List Event) : Type 0 where
    works : List (List Piece)
    are : AreWorks says later past works
    answers : WorksAnswer (opening past) works
    ends : alone (opening past) works ≡ committed_db past

  itself : (s : ℕ) → (s == s) ≡ true
  itself s = grind (arith, nat_tests)

  over_committed : (s : ℕ) (past : List Event) → is_over s (Committed s ∷ past) ≡ true
  over_committed s past = rw (itself s) refl

  point_committed : (s : ℕ) (past : List Event) → point s (Committed s ∷ past) ≡ point s past
  point_committed s past =
      elim (is_over s past) as (λ b. is_over s past ≡ b → point s (Committed s ∷ past) ≡ point s past) [
        | false ↦ λ on. point_closing s (Committed s) past on (over_committed s past) ∙ sym (point_now s past on)
        | true ↦ λ was. point_stays s (Committed s) past was (over_committed s past)
      ] refl

  replay_commit : (later : ℕ → Option Reply) (s : ℕ) (past : List Event) → IsLegal says (Committed s ∷ past) → AreCalm says (Committed s ∷ past)
      → AreLater later (Committed s ∷ past) → IsReplayed later past → IsReplayed later (Committed s ∷ past)
  replay_commit later s past legal calm fits before =
      let kept = all_kept says one past legal.1 calm.1 in
      let commit = commit_work says one s (later s) past legal.1 calm.0.0 calm.0.1 legal.0.1 legal.0.2 (kept.works s calm.0.1) kept.within
      (λ r a is asks begun.
      fits s r a is asks (did_same begins_txn s (Committed s) past refl refl ∙ begun) (over_committed s past)
      ∙ ap (λ h. (outcome a (base s h)).reply) (point_committed s past)) in
      record {
        works = commit.pieces ∷ before.works;
        are = (commit.pieces, before.works, commit.worked, before.are, refl);
        answers = (
          before.answers,
          subst (λ (d : Database). WorkAnswers d commit.pieces) (sym before.ends)
              (tracks-answers (committed_db past) commit.pieces commit.saves (own s past) commit.tracks),
        );
        ends =
            ap (λ (d : Database). after_work d commit.pieces) before.ends
            ∙ tracks-work (committed_db past) commit.pieces commit.saves (own s past) commit.tracks
            ∙ sym (commit_adds s past);
      }

  replay : (later : ℕ → Option Reply) (past : List Event) → IsLegal says past → AreCalm says past → AreLater later past → IsReplayed later past
  replay later [] legal calm fits = record { works = []; are = refl; answers = tt; ends = refl }
  replay later (Opened db ∷ past) legal calm fits =
      record {
        works = [];
        are = subst (λ (h : List Event). AreWorks says later h []) (sym legal.0) refl;
        answers = tt;
        ends = subst (λ (h : List Event). db ≡ changed db (committed (commits h) h)) (sym legal.0) refl;
      }
  replay later (Ended t j reply ∷ past) legal calm fits =
      let before = replay (with_later t (Some reply) later) past legal.1 calm.1 (end_later later t j reply past legal calm fits) in
      record { works = before.works; are = before.are; answers = before.answers; ends = before.ends }
  replay later (Started t j item ∷ past) legal calm fits =
      let before = replay (with_later t None later) past legal.1 calm.1 (start_later later t j item past fits) in
      record { works = before.works; are = before.are; answers = before.answers; ends = before.ends }
  replay later (Committed s ∷ past) legal calm fits =
      replay_commit later s past legal calm fits (replay later past legal.1 calm.1 (inner_later later (Committed s) past refl legal fits))
  replay later (e ∷ past) legal calm fits =
      let before = replay later past legal.1 calm.1 (inner_later later e past refl legal fits) in
      record { works = before.works; are = before.are; answers = before.answers; ends = before.ends }

  pub calm_alone : (past : List Event) → IsLegal says past → AreCalm says past → AnswersAsAlone says past
  calm_alone past legal calm =
      let all = replay (λ s. None) past legal calm (λ s r a is. some_none is) in
      record { works = all.works; are = all.are; answers = all.answers; ends = all.ends }
