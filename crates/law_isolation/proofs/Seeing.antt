-- In a serial history a statement on rows answers by the latest committed rows and its session's own, however it sees them.
use Rattle.std.proofs.Common.{◌≡◌, ◌≢◌, ◌∙◌, ap, sym, subst, refl, ℕ, Bool, true, false, List, [], ◌∷◌, ◌++◌, None}
use Rattle.std.specs.FinMap.{get, same_map}
use Rattle.inno_types.specs.declared.lock.Level.{Level}
use Rattle.inno_types.specs.declared.lock.Level.TheVariants.{ReadUncommitted, ReadCommitted, RepeatableRead, Serializable}
use Rattle.inno_types.specs.declared.stmt.Stmt.{Stmt}
use Rattle.inno_types.specs.declared.stmt.Stmt.TheVariants as stmt
use Rattle.inno_types.specs.declared.value.Schema.{Schema}
use Rattle.inno_db.specs.declared.change.Change.{Change}
use Rattle.inno_db.specs.Database.{Database, Place, RowMap}
use Rattle.inno_db.specs.Order.{place_cmp_total}
use Rattle.inno_db.proofs.Tables.{place_cmp-IsAntisymmetric}
use Rattle.inno_model.specs.declared.event.Event.{Event}
use Rattle.inno_model.specs.declared.event.Event.TheVariants.{Opened, Begin, Started, Committed}
use Rattle.inno_model.specs.Moments.{starts, Throughout}
use Rattle.inno_model.specs.Past.{under_way, before_item, level, own, did, begins_txn, commits, committed, opening, changed, IsOpen}
use Rattle.sql_history.specs.Items.{Language, base, own_before}
use Rattle.sql_history.specs.Statements.{Sight, is_on_rows, is_select, locking_sight, sight_of}
use Rattle.sql_history.specs.LooseReading.{newest, IsQuiet}
use Rattle.sql_history.specs.Answers.{MaySee}
use Rattle.law_isolation.specs.Turns.{is_at_work, IsSerial}
use Rattle.law_histories.specs.Work.{AllIn}
use Rattle.law_histories.proofs.Alike.{ReadsOne}
use Rattle.law_histories.proofs.Entries.{by_session, no_item, closed_own, unbegun_before, legal_before}
use Rattle.law_isolation.proofs.Spans as spans
use Rattle.law_isolation.proofs.Turns.{statement_works, others_idle, no_commit, view_latest, idle_closed, idle_asks}
use Rattle.law_isolation.proofs.Newest.{newest_own, idle_quiet}

module _ (says : Language) (one : ReadsOne says) (s : ℕ) (text : List ℕ) (statement : Stmt) (says_it : says text statement)
    (on_rows : is_on_rows statement ≡ true) where
  abbrev Spans : List Event → Type 0
  Spans past = spans.Spans says one s text statement says_it on_rows past × IsSerial past

  -- one entry back in the item
  before : (e : Event) (past : List Event) → Spans (e ∷ past) → starts s e ≡ false → Spans past
  before e past span goes = (spans.span_before says one s text statement says_it on_rows e past span.0 goes, span.1.1)

  -- the base is the same
  base_back : (e : Event) (past : List Event) → Spans (e ∷ past) → starts s e ≡ false → base s past ≡ base s (e ∷ past)
  base_back (Opened db) past span goes = no_item (sym (ap (under_way s) span.0.legal.0) ∙ span.0.asked)
  base_back (Begin t n l) past span goes =
      let legal = span.0.legal in
      by_session t s
      (λ is same.
      let not = subst (λ u. did begins_txn u past ≡ false) same legal.0.2.first in
      let on =
      spans.unbegun_on says one s text statement says_it on_rows past legal.1 span.0.asked
      (spans.unbroken_step says one s text statement says_it on_rows (Begin t n l) past goes span.0.unbroken) not
      (subst (λ u. level u past ≡ None) same legal.0.2.closed) in
      let none : own_before s past ≡ [] =
      ap (own s) (unbegun_before says s past not) ∙ closed_own says s (before_item s past) (legal_before says s past legal.1) on.1 in
      ap (λ (cs : List Change). changed (opening past) (cs ++ committed (commits past) past)) none ∙ rw is (rw is refl))
      (λ is. rw is refl)
  base_back (Started t j item) past span goes = rw goes refl
  base_back (Committed t) past span goes =
      by_session t s (λ is same. (let on = span.0.on in let e = rw is at on in cc))
      (λ is. no_commit t s past is span.1 (statement_works s text past span.0.asked))
  base_back e past span goes = refl

  throughout : (P : List Event → Type 0) (db : Database) → ((h : List Event) → Spans h → base s h ≡ db → P h) → (past : List Event) → Spans past
      → base s past ≡ db → Throughout P s past
  throughout P db each [] span is = tt
  throughout P db each (e ∷ past) span is =
      (each (e ∷ past) span is, λ goes. throughout P db each past (before e past span goes) (base_back e past span goes ∙ is))

  -- ---- a SELECT

  module _ (select : is_select statement ≡ true) where
    all_idle : (past : List Event) → Spans past → (t : ℕ) → t ≢ s → is_at_work t past ≡ false
    all_idle past span t apart = others_idle past span.1 s t (statement_works s text past span.0.asked) apart

    newest_base : (past : List Event) → Spans past → newest past ≡ base s past
    newest_base past span =
        newest_own says s past span.0.legal (all_idle past span)
        ∙ ap (λ (cs : List Change). changed (opening past) (cs ++ committed (commits past) past))
        (spans.nothing_changed says one s text statement says_it on_rows select past span.0)

    quiet : (place : Place) (past : List Event) → Spans past → IsQuiet s place past
    quiet place past span t apart =
        let idle = all_idle past span t apart in idle_quiet says place t past span.0.legal (idle_closed t past idle) (idle_asks t past idle)

  -- ---- what it sees

  same_database : (a b : Database) → a.schemas ≡ b.schemas → ((place : Place) → get a.rows place ≡ get b.rows place) → a ≡ b
  same_database a b schemas rows =
      let same : a.rows ≡ b.rows = same_map place_cmp_total place_cmp-IsAntisymmetric a.rows b.rows rows in
      ap (λ (ss : List Schema). record { schemas = ss; rows = a.rows }) schemas ∙ ap (λ (m : RowMap). record { schemas = b.schemas; rows = m }) same

  abbrev needs_select : Sight → Bool
  needs_select Sight.of_view = true
  needs_select Sight.of_dirty_moments = true
  needs_select other = false

  plain_view : (l : Level) (alone : Bool) (a : Stmt) → needs_select (sight_of l alone a) ≡ true → is_select a ≡ true
  plain_view l alone (stmt.Select selected table condition lock) needs = refl
  plain_view l alone (stmt.Update table sets condition) needs = absurd (locks l needs)
    where
      locks : (l : Level) → needs_select (locking_sight l) ≡ true → ⊥
      locks ReadUncommitted e = cc
      locks ReadCommitted e = cc
      locks RepeatableRead e = cc
      locks Serializable e = cc
  plain_view l alone (stmt.Delete table condition) needs = absurd (locks l needs)
    where
      locks : (l : Level) → needs_select (locking_sight l) ≡ true → ⊥
      locks ReadUncommitted e = cc
      locks ReadCommitted e = cc
      locks RepeatableRead e = cc
      locks Serializable e = cc
  plain_view l alone other needs = (cc)

  sees_by : (sight : Sight) (db : Database) (past : List Event) → (needs_select sight ≡ true → is_select statement ≡ true) → Spans past → IsOpen s past
      → AllIn (opening past) (own_before s past ++ committed (commits past) past) → MaySee sight s statement db past → db ≡ base s past
  sees_by Sight.of_view db past needs span is_open within sees =
      sees.2 ∙ spans.sees_view says one s text statement says_it on_rows (needs refl) sees.0 past span.0 within
      (view_latest says s sees.0 past span.0.legal span.1 is_open sees.1)
  sees_by Sight.of_latest db past needs span is_open within sees = sees
  sees_by Sight.of_moments db past needs span is_open within sees =
      let loose = sees.0 in
      same_database db (base s past) loose.tables
      (λ place. loose.still place (get (base s past).rows place)
      (throughout (λ h. get (base s h).rows place ≡ get (base s past).rows place) (base s past) (λ h at is. ap (λ (d : Database). get d.rows place) is) past
      span refl)
      (throughout (λ h. Unit {0}) (base s past) (λ h at is. tt) past span refl))
  sees_by Sight.of_dirty_moments db past needs span is_open within loose =
      let select = needs refl in
      same_database db (base s past) (loose.tables ∙ ap (λ (d : Database). d.schemas) (newest_base select past span))
      (λ place. loose.still place (get (base s past).rows place)
      (throughout (λ h. get (newest h).rows place ≡ get (base s past).rows place) (base s past)
      (λ h at is. ap (λ (d : Database). get d.rows place) (newest_base select h at ∙ is)) past span refl)
      (throughout (IsQuiet s place) (base s past) (λ h at is. quiet select place h at) past span refl))

  pub sees_base : (l : Level) (alone : Bool) (db : Database) (past : List Event) → Spans past → IsOpen s past
      → AllIn (opening past) (own_before s past ++ committed (commits past) past) → MaySee (sight_of l alone statement) s statement db past → db ≡ base s past
  sees_base l alone db past span is_open within sees =
      sees_by (sight_of l alone statement) db past (plain_view l alone statement) span is_open within sees
