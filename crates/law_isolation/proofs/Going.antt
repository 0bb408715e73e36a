-- An item that asks for ROLLBACK TO neither begins nor ends a transaction.
use Rattle.std.proofs.Common.{◌≡◌, ◌∙◌, sym, refl, subst, ℕ, false, List, [], ◌∷◌, None, inl, inr, arith}
use Rattle.std.proofs.lemmas.Bool.Decides.{nat_tests}
use Rattle.inno_types.specs.declared.stmt.Stmt.{Stmt}
use Rattle.inno_types.specs.declared.stmt.Stmt.TheVariants as stmt
use Rattle.inno_model.specs.declared.event.Event.{Event}
use Rattle.inno_model.specs.declared.event.Event.TheVariants.{Begin, Started, Ended, Committed, RolledBack}
use Rattle.inno_model.specs.Past.{under_way, did, begins_txn, commits_txn, rolls_back_txn}
use Rattle.sql_history.specs.Items.{Language, Asks}
use Rattle.sql_history.specs.Legal.{IsLegal, BeginsBy, CommitsBy, RollsBackBy}
use Rattle.law_histories.proofs.Alike.{ReadsOne}
use Rattle.law_histories.proofs.Entries.{by_session, no_item}

abbrev pub GoesNowhere : ℕ → List Event → Type 0
GoesNowhere s past = (did begins_txn s past ≡ false) × (did commits_txn s past ≡ false) × (did rolls_back_txn s past ≡ false)

module _ (says : Language) (one : ReadsOne says) (s : ℕ) (name : List ℕ) where
  pub reads_back : (past : List Event) (a : Stmt) → Asks says s (stmt.RollbackTo name) past → Asks says s a past → a ≡ stmt.RollbackTo name
  reads_back past a asks also =
      let same : asks.0 ≡ also.0 = (let x = sym asks.1 ∙ also.1 in cc) in
      let alike = one asks.0 a (stmt.RollbackTo name) (subst (λ (t : List ℕ). says t a) (sym same) also.2) asks.2 in
      alike.same alike.rows

  mine_reads : (t : ℕ) (past : List Event) (a : Stmt) → t ≡ s → Asks says s (stmt.RollbackTo name) past → Asks says t a past → a ≡ stmt.RollbackTo name
  mine_reads t past a same asks also = reads_back past a asks (subst (λ u. Asks says u a past) same also)

  pub goes_nowhere : (past : List Event) → IsLegal says past → Asks says s (stmt.RollbackTo name) past → GoesNowhere s past
  goes_nowhere [] legal asks = no_item asks.1
  goes_nowhere (Started t j item ∷ past) legal asks =
      by_session t s (λ is same. rw is (refl, refl, refl)) (λ is. rw is (goes_nowhere past legal.1 (asks.0, rw is at asks.1, asks.2)))
  goes_nowhere (Ended t j reply ∷ past) legal asks =
      by_session t s (λ is same. no_item (rw is at asks.1)) (λ is. rw is (goes_nowhere past legal.1 (asks.0, rw is at asks.1, asks.2)))
  goes_nowhere (Begin t n l ∷ past) legal asks =
      by_session t s
      (λ is same. let may = legal.0.2 in let by = subst (λ (a : Stmt). BeginsBy t may.takes.setting a past)
      (mine_reads t past may.statement same asks may.takes.asks) may.by in absurd (cc))
      (λ is. rw is (goes_nowhere past legal.1 asks))
  goes_nowhere (Committed t ∷ past) legal asks =
      by_session t s
      (λ is same. let may = legal.0.2 in let by =
      (subst (λ (a : Stmt). CommitsBy t may.takes.setting a past) (mine_reads t past may.statement same asks may.takes.asks) may.by).0 in absurd (cc))
      (λ is. rw is (goes_nowhere past legal.1 asks))
  goes_nowhere (RolledBack t ∷ past) legal asks =
      by_session t s
      (λ is same. elim legal.0.2.by [
        | inl ending ↦ no_item (sym (subst (λ u. under_way u past ≡ None) same ending) ∙ asks.1)
        | inr by ↦ absurd (let on = (subst (λ (a : Stmt). RollsBackBy t by.1.setting a past) (mine_reads t past by.0 same asks by.1.asks) by.2).0 in cc)
      ])
      (λ is. rw is (goes_nowhere past legal.1 asks))
  goes_nowhere (e ∷ past) legal asks =
      let before = goes_nowhere past legal.1 asks in
      let a = before.0 in let b = before.1 in let c = before.2 in
      (grind (arith, nat_tests, a), grind (arith, nat_tests, b), grind (arith, nat_tests, c))
