-- At SERIALIZABLE a statement sees the latest committed rows and its session's own.
use Rattle.std.proofs.Common.{◌≡◌, ◌≢◌, ◌∙◌, ap, sym, subst, refl, ℕ, Bool, true, false, List, [], ◌∷◌, ◌++◌, Some, None, arith}
use Rattle.std.specs.Prelude.{◌==◌}
use Rattle.std.proofs.lemmas.Bool.Decides.{nat_tests}
use Rattle.inno_types.specs.declared.lock.Level.{Level}
use Rattle.inno_types.specs.declared.lock.Level.TheVariants.{Serializable}
use Rattle.inno_types.specs.declared.stmt.Stmt.{Stmt}
use Rattle.inno_types.specs.declared.stmt.Stmt.TheVariants as stmt
use Rattle.inno_db.specs.Database.{Database}
use Rattle.inno_model.specs.declared.event.Event.{Event}
use Rattle.inno_model.specs.declared.event.Event.TheVariants.{Opened, Begin, Started, View, Ended, Committed, RolledBack}
use Rattle.inno_model.specs.Past.{level, view_of, commits, committed, opening}
use Rattle.sql_history.specs.Items.{Language, base, own_before}
use Rattle.sql_history.specs.Statements.{is_on_rows, sight_of}
use Rattle.sql_history.specs.Answers.{MaySee}
use Rattle.sql_history.specs.Legal.{IsLegal, owed_by, owes_commit, PaysCommit}
use Rattle.sql_history.specs.Serial.{IsSerializable}
use Rattle.law_histories.specs.Work.{AllIn}
use Rattle.law_histories.proofs.Alike.{ReadsOne}
use Rattle.law_histories.proofs.Entries.{by_session}
use Rattle.law_isolation.specs.Calm.{SeesLatest}
use Rattle.law_isolation.proofs.Spans.{Spans, sees_view}

pub serializable_level : (s : ℕ) (l : Level) (past : List Event) → s ≢ 0 → IsSerializable past → level s past ≡ Some l → l ≡ Serializable
serializable_level s l [] apart all is = (cc)
serializable_level s l (Begin t n m ∷ past) apart all is =
    by_session t s
    (λ mine same. let m_is = all.0 (λ zero. apart (sym same ∙ zero)) in let e = rw mine at is in cc)
    (λ other. serializable_level s l past apart all.1 (rw other at is))
serializable_level s l (Committed t ∷ past) apart all is =
    by_session t s (λ mine same. (let e = rw mine at is in cc)) (λ other. serializable_level s l past apart all (rw other at is))
serializable_level s l (RolledBack t ∷ past) apart all is =
    by_session t s (λ mine same. (let e = rw mine at is in cc)) (λ other. serializable_level s l past apart all (rw other at is))
serializable_level s l (e ∷ past) apart all is = serializable_level s l past apart all is

not_ended : {A : Type 0} (s : ℕ) (l : Level) (e : Event) (past : List Event) → e ≡ Committed s → level s (e ∷ past) ≡ Some l → A
not_ended {A} s l e past is open_at =
    let e = subst (λ x. level s (x ∷ past) ≡ Some l) is open_at in
    let itself : (s == s) ≡ true = grind (arith, nat_tests) in
    let f = rw itself at e in cc

module _ (says : Language) where
  -- A view at SERIALIZABLE is the newest entry: its commit stands directly behind it.
  view_owes : (s n : ℕ) (past : List Event) → IsLegal says past → level s past ≡ Some Serializable → view_of s past ≡ Some n
      → (owes_commit past ≡ Some s) × (n ≡ commits past)
  view_owes s n [] legal open_at view = (cc)
  view_owes s n (View t ∷ past) legal open_at view =
      by_session t s
      (λ mine same. (ap (λ l. owed_by l t) (ap (λ u. level u past) same ∙ open_at) ∙ ap Some same, (let e = rw mine at view in cc)))
      (λ other.
      let before = view_owes s n past legal.1 open_at (rw other at view) in
      not_ended s Serializable (View t) past (subst (λ o. PaysCommit o (View t)) before.0 legal.0.3) open_at)
  view_owes s n (Opened db ∷ past) legal open_at view = (let e = sym (ap (view_of s) legal.0) ∙ view in cc)
  view_owes s n (Begin t m l ∷ past) legal open_at view =
      by_session t s
      (λ mine same. (let e = rw mine at view in cc))
      (λ other.
      let before = view_owes s n past legal.1 (rw other at open_at) (rw other at view) in
      not_ended s Serializable (Begin t m l) past (subst (λ o. PaysCommit o (Begin t m l)) before.0 legal.0.3) open_at)
  view_owes s n (Committed t ∷ past) legal open_at view =
      by_session t s
      (λ mine same. (let e = rw mine at open_at in cc))
      (λ other.
      let before = view_owes s n past legal.1 (rw other at open_at) view in
      not_ended s Serializable (Committed t) past (subst (λ o. PaysCommit o (Committed t)) before.0 legal.0.3) open_at)
  view_owes s n (RolledBack t ∷ past) legal open_at view =
      by_session t s
      (λ mine same. (let e = rw mine at open_at in cc))
      (λ other.
      let before = view_owes s n past legal.1 (rw other at open_at) view in
      not_ended s Serializable (RolledBack t) past (subst (λ o. PaysCommit o (RolledBack t)) before.0 legal.0.3) open_at)
  view_owes s n (Started t j item ∷ past) legal open_at view =
      let before = view_owes s n past legal.1 open_at view in
      not_ended s Serializable (Started t j item) past (subst (λ o. PaysCommit o (Started t j item)) before.0 legal.0.2) open_at
  view_owes s n (Ended t j reply ∷ past) legal open_at view =
      let before = view_owes s n past legal.1 open_at view in
      not_ended s Serializable (Ended t j reply) past (subst (λ o. PaysCommit o (Ended t j reply)) before.0 legal.0.2) open_at
  view_owes s n (e ∷ past) legal open_at view =
      let before = view_owes s n past legal.1 open_at view in
      not_ended s Serializable e past (subst (λ o. PaysCommit o e) before.0 legal.0.3) open_at

  module _ (one : ReadsOne says) (s : ℕ) (text : List ℕ) (past : List Event) where
    sees : (statement : Stmt) (says_it : says text statement) (on_rows : is_on_rows statement ≡ true) (alone : Bool) (db : Database)
        → Spans says one s text statement says_it on_rows past → level s past ≡ Some Serializable
        → AllIn (opening past) (own_before s past ++ committed (commits past) past) → MaySee (sight_of Serializable alone statement) s statement db past
        → db ≡ base s past
    sees (stmt.Select selected table condition None) says_it on_rows true db span open_at within sight =
        sight.2 ∙ sees_view says one s text (stmt.Select selected table condition None) says_it on_rows refl sight.0 past span within
        (view_owes s sight.0 past span.legal open_at sight.1).1
    sees (stmt.Select selected table condition None) says_it on_rows false db span open_at within sight = sight
    sees (stmt.Select selected table condition (Some mode)) says_it on_rows alone db span open_at within sight = sight
    sees (stmt.Update table sets condition) says_it on_rows alone db span open_at within sight = sight
    sees (stmt.Delete table condition) says_it on_rows alone db span open_at within sight = sight
    sees other says_it on_rows alone db span open_at within sight = sight

  pub serializable_sees : (one : ReadsOne says) (s : ℕ) (past : List Event) → s ≢ 0 → IsLegal says past → IsSerializable past → SeesLatest says s past
  serializable_sees one s past apart legal all statement l alone db asks on_rows on unbroken level_is within sight =
      let same : l ≡ Serializable = serializable_level s l past apart all level_is in
      sees one s asks.0 past statement asks.2 on_rows alone db (record { legal = legal; asked = asks.1; unbroken = unbroken; on = on })
      (level_is ∙ ap Some same) within
      (subst (λ m. MaySee (sight_of m alone statement) s statement db past) same sight)
