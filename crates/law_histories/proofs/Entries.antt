-- What the entries of a legal history leave of a session's transaction: its changes when its last item had ended.
use Rattle.std.proofs.Common.{◌≡◌, ◌∙◌, ap, sym, subst, refl, ℕ, Bool, true, false, List, [], ◌∷◌, Option, Some, None, inl, inr, ◌⊎◌, arith}
use Rattle.std.specs.Prelude.{◌==◌, is_some}
use Rattle.std.proofs.lemmas.Bool.Decides.{nat_tests, Decides-eqb}
use Rattle.inno_types.specs.declared.reply.Item.{Item}
use Rattle.inno_types.specs.declared.reply.Item.TheVariants.{Sql}
use Rattle.inno_types.specs.declared.reply.Reply.{Reply}
use Rattle.inno_types.specs.declared.stmt.Stmt.{Stmt}
use Rattle.inno_model.specs.declared.event.Event.{Event}
use Rattle.inno_model.specs.declared.event.Event.TheVariants.{Begin, Started, Changed, Undone, Ended, Committed, RolledBack}
use Rattle.inno_model.specs.Past.{under_way, before_item, did, begins_txn, level, own, commits, committed, opening, changed, IsOpen}
use Rattle.sql_history.specs.Items.{Language, Asks, before_turn, base, own_before}
use Rattle.sql_history.specs.Legal.{IsLegal, is_leaving}
use Rattle.sql_history.proofs.Pasts.{changed_append}
use Rattle.law_histories.specs.Work.{committed_db, settled}

-- one's own entry or another's
pub by_session : {A : Type 0} (t s : ℕ) → ((t == s) ≡ true → t ≡ s → A) → ((t == s) ≡ false → A) → A
by_session {A} t s mine other =
    elim (t == s) as (λ b. (t == s) ≡ b → A) [ true ↦ λ is. mine is ((Decides-eqb t s).0 is) | false ↦ λ is. other is ] refl

-- ---- what does not go together

pub true_false : {A : Type 0} {b : Bool} → b ≡ true → b ≡ false → A
true_false e f = cc

pub some_none : {A : Type 0} {r : Reply} → ◌≡◌ {A = Option Reply} None (Some r) → A
some_none e = cc

pub open_not : {A : Type 0} (s : ℕ) (past : List Event) → IsOpen s past → level s past ≡ None → A
open_not s past is_open closed = (let e = ap is_some closed in cc)

pub no_item : {A : Type 0} {item : Item} → ◌≡◌ {A = Option Item} None (Some item) → A
no_item e = cc

module _ (says : Language) where
  pub open_is : (t s : ℕ) (past : List Event) → t ≡ s → is_some (level t past) ≡ true → level s past ≡ None → ⊥
  open_is t s past same is_open closed = (let e = subst (λ u. is_some (level u past) ≡ true) same is_open in let f = ap is_some closed in cc)

  pub asks_not : (t s : ℕ) (a : Stmt) (past : List Event) → t ≡ s → Asks says t a past → under_way s past ≡ None → ⊥
  asks_not t s a past same asks idle = no_item (sym idle ∙ subst (λ u. under_way u past ≡ Some (Sql asks.0)) same asks.1)

  -- a session with no transaction open has no changes
  pub closed_own : (s : ℕ) (past : List Event) → IsLegal says past → level s past ≡ None → own s past ≡ []
  closed_own s [] legal closed = refl
  closed_own s (Begin t n l ∷ past) legal closed = let before = closed_own s past legal.1 in grind (arith, nat_tests, before, closed)
  closed_own s (Changed t change ∷ past) legal closed =
      by_session t s (λ is same. absurd (open_is t s past same legal.0.2.is_open closed)) (λ is. rw is (closed_own s past legal.1 closed))
  closed_own s (Undone t keep ∷ past) legal closed =
      by_session t s (λ is same. absurd (open_is t s past same legal.0.2.is_open closed)) (λ is. rw is (closed_own s past legal.1 closed))
  closed_own s (Committed t ∷ past) legal closed = let before = closed_own s past legal.1 in grind (arith, nat_tests, before, closed)
  closed_own s (RolledBack t ∷ past) legal closed = let before = closed_own s past legal.1 in grind (arith, nat_tests, before, closed)
  closed_own s (e ∷ past) legal closed = closed_own s past legal.1 closed

  -- between items the changes stand as the last item left them
  pub idle_settled : (s : ℕ) (past : List Event) → IsLegal says past → under_way s past ≡ None → is_leaving s past ≡ false → own s past ≡ settled s past
  idle_settled s [] legal idle stays = refl
  idle_settled s (Started t j item ∷ past) legal idle stays =
      by_session t s (λ is same. no_item (sym (rw is at idle))) (λ is. idle_settled s past legal.1 (rw is at idle) (rw is at stays))
  idle_settled s (Begin t n l ∷ past) legal idle stays =
      by_session t s (λ is same. rw is refl) (λ is. rw is (idle_settled s past legal.1 idle stays))
  idle_settled s (Changed t change ∷ past) legal idle stays =
      by_session t s (λ is same. absurd (asks_not t s legal.0.2.statement past same legal.0.2.takes.asks idle))
      (λ is. rw is (idle_settled s past legal.1 idle stays))
  idle_settled s (Undone t keep ∷ past) legal idle stays =
      by_session t s (λ is same. absurd (let e = rw is at stays in cc)) (λ is. rw is (idle_settled s past legal.1 idle (rw is at stays)))
  idle_settled s (Ended t j reply ∷ past) legal idle stays =
      by_session t s (λ is same. rw is refl) (λ is. rw is (idle_settled s past legal.1 (rw is at idle) (rw is at stays)))
  idle_settled s (Committed t ∷ past) legal idle stays =
      by_session t s (λ is same. absurd (asks_not t s legal.0.2.statement past same legal.0.2.takes.asks idle))
      (λ is. rw is (idle_settled s past legal.1 idle stays))
  idle_settled s (RolledBack t ∷ past) legal idle stays =
      by_session t s (λ is same. absurd (let e = rw is at stays in cc)) (λ is. rw is (idle_settled s past legal.1 idle (rw is at stays)))
  idle_settled s (e ∷ past) legal idle stays = idle_settled s past legal.1 idle stays

  pub start_settled : (t s j : ℕ) (item : Item) (past : List Event) → t ≡ s → IsLegal says (Started t j item ∷ past) → own s past ≡ settled s past
  start_settled t s j item past same legal =
      idle_settled s past legal.1 (subst (λ u. under_way u past ≡ None) same legal.0.1.idle) (subst (λ u. is_leaving u past ≡ false) same legal.0.1.stays)

  -- what the session had changed before its item is that
  pub before_settled : (s : ℕ) (item : Item) (past : List Event) → IsLegal says past → under_way s past ≡ Some item → own_before s past ≡ settled s past
  before_settled s item [] legal asked = no_item asked
  before_settled s item (Started t j other ∷ past) legal asked =
      by_session t s (λ is same. rw is (start_settled t s j other past same legal)) (λ is. rw is (before_settled s item past legal.1 (rw is at asked)))
  before_settled s item (Begin t n l ∷ past) legal asked =
      by_session t s (λ is same. rw is (rw is refl)) (λ is. rw is (before_settled s item past legal.1 asked))
  before_settled s item (Ended t j reply ∷ past) legal asked =
      by_session t s (λ is same. no_item (rw is at asked)) (λ is. rw is (before_settled s item past legal.1 (rw is at asked)))
  before_settled s item (e ∷ past) legal asked = before_settled s item past legal.1 asked

  -- so it is what the session had changed before its item, where the item has begun no transaction
  pub unbegun_before : (s : ℕ) (past : List Event) → did begins_txn s past ≡ false → before_turn s past ≡ before_item s past
  unbegun_before s [] not = refl
  unbegun_before s (Started t j item ∷ past) not = by_session t s (λ is same. rw is refl) (λ is. rw is (unbegun_before s past (rw is at not)))
  unbegun_before s (Begin t n l ∷ past) not =
      by_session t s (λ is same. absurd (let e = rw is at not in cc)) (λ is. rw is (unbegun_before s past (rw is at not)))
  unbegun_before s (e ∷ past) not = let before = unbegun_before s past in grind (arith, nat_tests, before, not)

  pub unbegun_settled : (s : ℕ) (item : Item) (past : List Event) → IsLegal says past → under_way s past ≡ Some item → did begins_txn s past ≡ false
      → own s (before_item s past) ≡ settled s past
  unbegun_settled s item past legal asked not =
      ap (own s) (sym (unbegun_before s past not)) ∙ before_settled s item past legal asked

  pub begun_settled : (s : ℕ) (item : Item) (past : List Event) → under_way s past ≡ Some item → did begins_txn s past ≡ true → settled s past ≡ []
  begun_settled s item [] asked begun = refl
  begun_settled s item (Started t j other ∷ past) asked begun =
      by_session t s (λ is same. absurd (let e = rw is at begun in cc)) (λ is. begun_settled s item past (rw is at asked) (rw is at begun))
  begun_settled s item (Begin t n l ∷ past) asked begun =
      by_session t s (λ is same. rw is refl) (λ is. rw is (begun_settled s item past asked (rw is at begun)))
  begun_settled s item (Ended t j reply ∷ past) asked begun =
      by_session t s (λ is same. no_item (rw is at asked)) (λ is. rw is (begun_settled s item past (rw is at asked) (rw is at begun)))
  begun_settled s item (e ∷ past) asked begun = let before = begun_settled s item past asked in grind (arith, nat_tests, before, begun)

  -- without a begin the transaction is that of the item's start, or it is over
  pub level_kept : (s : ℕ) (past : List Event) → did begins_txn s past ≡ false → (level s past ≡ None) ⊎ (level s past ≡ level s (before_item s past))
  level_kept s [] not = inl refl
  level_kept s (Started t j item ∷ past) not = by_session t s (λ is same. rw is (inr refl)) (λ is. rw is (level_kept s past (rw is at not)))
  level_kept s (Begin t n l ∷ past) not =
      by_session t s (λ is same. absurd (let e = rw is at not in cc)) (λ is. rw is (level_kept s past (rw is at not)))
  level_kept s (Committed t ∷ past) not =
      by_session t s (λ is same. rw is (inl refl)) (λ is. rw is (level_kept s past (rw is at not)))
  level_kept s (RolledBack t ∷ past) not =
      by_session t s (λ is same. rw is (inl refl)) (λ is. rw is (level_kept s past (rw is at not)))
  level_kept s (e ∷ past) not = let before = level_kept s past in grind (arith, nat_tests, before, not)

  pub legal_before : (s : ℕ) (past : List Event) → IsLegal says past → IsLegal says (before_item s past)
  legal_before s [] legal = tt
  legal_before s (Started t j item ∷ past) legal = by_session t s (λ is same. rw is legal.1) (λ is. rw is (legal_before s past legal.1))
  legal_before s (e ∷ past) legal = legal_before s past legal.1

  -- the base of the session's item is what was committed, with its changes when its last item had ended
  pub now_base : (s : ℕ) (item : Item) (past : List Event) → IsLegal says past → under_way s past ≡ Some item
      → base s past ≡ changed (committed_db past) (settled s past)
  now_base s item past legal asked =
      changed_append (opening past) (own_before s past) (committed (commits past) past) ∙ ap (changed (committed_db past))
      (before_settled s item past legal asked)
