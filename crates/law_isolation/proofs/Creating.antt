-- While a session makes a table nobody else commits, so the rows at its item's point are still the latest.
use Rattle.std.proofs.Common.{◌≡◌, ◌≢◌, ◌∙◌, ap, sym, refl, ℕ, Bool, true, false, List, [], ◌∷◌, Some, arith}
use Rattle.std.proofs.lemmas.Bool.Decides.{nat_tests}
use Rattle.inno_types.specs.declared.reply.Item.TheVariants.{Sql}
use Rattle.inno_types.specs.declared.stmt.Definition.{Definition}
use Rattle.inno_types.specs.declared.stmt.Stmt.TheVariants as stmt
use Rattle.inno_db.specs.Database.{Database}
use Rattle.inno_model.specs.declared.event.Event.{Event}
use Rattle.inno_model.specs.declared.event.Event.TheVariants.{Opened, Begin, Started, Ended, Committed, RolledBack}
use Rattle.inno_model.specs.Past.{under_way, did, begins_txn, changed, IsOpen}
use Rattle.sql_history.specs.Items.{Language, is_over, base, point}
use Rattle.sql_history.specs.Legal.{IsLegal}
use Rattle.sql_history.proofs.Pasts.{point_now, point_closing, point_stays}
use Rattle.law_histories.specs.Work.{committed_db, settled}
use Rattle.law_histories.proofs.Entries.{by_session, no_item, now_base, true_false}
use Rattle.law_isolation.specs.Calm.{IsCalm}

module _ (says : Language) (s : ℕ) (text table : List ℕ) (skips : Bool) (definitions : List Definition)
    (says_it : says text (stmt.CreateTable table skips definitions)) where
  -- the item has begun a transaction, which is open
  record Makes (past : List Event) : Type 0 where
    legal : IsLegal says past
    calm : IsCalm says s past
    asked : under_way s past ≡ Some (Sql text)
    begun : did begins_txn s past ≡ true
    is_open : IsOpen s past

  record Stays (e : Event) (past : List Event) : Type 0 where
    db : committed_db past ≡ committed_db (e ∷ past)
    changes : settled s past ≡ settled s (e ∷ past)
    makes : Makes past

  -- an entry by which the item is over, and its transaction is not
  over_stays : (e : Event) (past : List Event) → Makes (e ∷ past) → is_over s (e ∷ past) ≡ true → Stays e past
  over_stays (Opened db) past makes over = no_item (sym (ap (under_way s) makes.legal.0) ∙ makes.asked)
  over_stays (Begin t n l) past makes over =
      by_session t s (λ is same. (let e = rw is at over in cc))
      (λ is. record {
        db = refl;
        changes = rw is refl;
        makes = record
            { legal = makes.legal.1; calm = makes.calm.2; asked = makes.asked; begun = rw is at makes.begun; is_open = rw is at makes.is_open };
      })
  over_stays (Started t j other) past makes over =
      by_session t s (λ is same. (let e = rw is at over in cc))
      (λ is. record {
        db = refl;
        changes = refl;
        makes = record
            { legal = makes.legal.1; calm = makes.calm.2; asked = rw is at makes.asked; begun = rw is at makes.begun; is_open = makes.is_open };
      })
  over_stays (Ended t j reply) past makes over =
      by_session t s (λ is same. no_item (rw is at makes.asked))
      (λ is. record {
        db = refl;
        changes = rw is refl;
        makes = record
            { legal = makes.legal.1; calm = makes.calm.2; asked = rw is at makes.asked; begun = rw is at makes.begun; is_open = makes.is_open };
      })
  over_stays (Committed t) past makes over =
      by_session t s (λ is same. (let e = rw is at makes.is_open in cc))
      (λ is.
      let differ : s ≢ t = grind (arith, nat_tests, is) in
      true_false (rw is at makes.begun) ((makes.calm.0 differ (rw is at makes.is_open)).no_table table skips definitions (text, makes.asked, says_it)))
  over_stays (RolledBack t) past makes over =
      by_session t s (λ is same. (let e = rw is at makes.is_open in cc))
      (λ is. record {
        db = refl;
        changes = refl;
        makes = record
            { legal = makes.legal.1; calm = makes.calm.2; asked = makes.asked; begun = rw is at makes.begun; is_open = rw is at makes.is_open };
      })
  over_stays e past makes over =
      let begun = makes.begun in
      record {
        db = refl;
        changes = refl;
        makes = record
            { legal = makes.legal.1; calm = makes.calm.2; asked = makes.asked; begun = grind (arith, nat_tests, begun); is_open = makes.is_open };
      }

  makes_base : (past : List Event) → Makes past → base s (point s past) ≡ changed (committed_db past) (settled s past)
  makes_base [] makes = no_item makes.asked
  makes_base (e ∷ past) makes =
      elim (is_over s (e ∷ past)) as (λ b. is_over s (e ∷ past) ≡ b → base s (point s (e ∷ past)) ≡ changed (committed_db (e ∷ past)) (settled s (e ∷ past))) [
        | false ↦ λ on. ap (base s) (point_now s (e ∷ past) on) ∙ now_base says s (Sql text) (e ∷ past) makes.legal makes.asked
        | true ↦ λ over.
            let stays = over_stays e past makes over in
            let same : changed (committed_db past) (settled s past) ≡ changed (committed_db (e ∷ past)) (settled s (e ∷ past)) =
            ap (λ (d : Database). changed d (settled s past)) stays.db ∙ ap (changed (committed_db (e ∷ past))) stays.changes in
            elim (is_over s past) as (λ b. is_over s past ≡ b → base s (point s (e ∷ past)) ≡ changed (committed_db (e ∷ past)) (settled s (e ∷ past))) [
              | false ↦ λ on. ap (base s) (point_closing s e past on over) ∙ now_base says s (Sql text) past stays.makes.legal stays.makes.asked ∙ same
              | true ↦ λ was. ap (base s) (point_stays s e past was over) ∙ makes_base past stays.makes ∙ same
            ] refl
      ] refl

  pub creation_base : (past : List Event) → IsLegal says past → IsCalm says s past → under_way s past ≡ Some (Sql text) → did begins_txn s past ≡ true
      → IsOpen s past → base s (point s past) ≡ changed (committed_db past) (settled s past)
  creation_base past legal calm asked begun is_open = makes_base past (record { legal = legal; calm = calm; asked = asked; begun = begun; is_open = is_open })
