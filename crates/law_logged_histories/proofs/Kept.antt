-- Between items, and as an item began, a session's open transaction has made declared tables alone.
use Rattle.std.proofs.Common.{◌≡◌, ◌∙◌, refl, sym, subst, ℕ, ◌-◌, true, false, List, [], ◌∷◌, length, None, inl, inr}
use Rattle.inno_types.specs.declared.value.Schema.{Schema}
use Rattle.inno_types.specs.declared.reply.Item.TheVariants.{Sql}
use Rattle.inno_types.specs.declared.stmt.Stmt.{Stmt}
use Rattle.inno_types.specs.declared.stmt.Stmt.TheVariants as stmt
use Rattle.inno_db.specs.Outcome.{outcome}
use Rattle.inno_model.specs.declared.event.Event.{Event}
use Rattle.inno_model.specs.declared.event.Event.TheVariants.{Begin, Started, Changed, Undone, Ended, Committed, RolledBack}
use Rattle.inno_model.specs.Past.{under_way, own, did, begins_txn}
use Rattle.sql_history.specs.Items.{Language, base, own_before}
use Rattle.sql_history.specs.Statements.{is_on_rows}
use Rattle.sql_history.specs.Counts.{has_stopped}
use Rattle.sql_history.specs.Legal.{IsLegal, MayCommit, CommitsBy, IsSettled, EndsBy, sight_in}
use Rattle.law_histories.proofs.Alike.{ReadsOne, keeps_changes, never_begins}
use Rattle.law_histories.proofs.Entries.{by_session, no_item, asks_not, before_settled}
use Rattle.law_histories.proofs.Items.{kept_own, none_begun}
use Rattle.law_logged_histories.proofs.Outcomes.{MakeOnly, make_drop}
use Rattle.law_logged_histories.proofs.Ends.{DeclareOnly, makes_here, asked_makes, answered, ends_making}

module _ (says : Language) (P : Schema → Type 0) (declare : DeclareOnly says P) where
  pub record IsKept (s : ℕ) (past : List Event) : Type 0 where
    pub before : MakeOnly P (own_before s past)
    pub idle : under_way s past ≡ None → MakeOnly P (own s past)

  pub kept : (s : ℕ) (past : List Event) → IsLegal says past → IsKept s past
  kept s [] legal = record { before = tt; idle = λ idle. tt }
  kept s (Started t j item ∷ past) legal =
      let was = kept s past legal.1 in
      by_session t s
      (λ is same. record {
        before = rw is (was.idle (subst (λ u. under_way u past ≡ None) same legal.0.1.idle));
        idle = λ idle. no_item (sym (rw is at idle));
      })
      (λ is. record { before = rw is was.before; idle = λ idle. was.idle (rw is at idle) })
  kept s (Begin t n l ∷ past) legal =
      let was = kept s past legal.1 in
      by_session t s (λ is same. record { before = rw is (rw is tt); idle = λ idle. rw is tt })
      (λ is. record { before = rw is was.before; idle = λ idle. rw is (was.idle idle) })
  kept s (Changed t change ∷ past) legal =
      let was = kept s past legal.1 in
      by_session t s
      (λ is same. record { before = was.before; idle = λ idle. absurd (asks_not says t s legal.0.2.statement past same legal.0.2.takes.asks idle) })
      (λ is. record { before = was.before; idle = λ idle. rw is (was.idle idle) })
  kept s (Undone t keep ∷ past) legal =
      let was = kept s past legal.1 in
      by_session t s
      (λ is same. record { before = was.before; idle = λ idle. rw is (make_drop P (length (own s past) - keep) (own s past) (was.idle idle)) })
      (λ is. record { before = was.before; idle = λ idle. rw is (was.idle idle) })
  kept s (Ended t j reply ∷ past) legal =
      let was = kept s past legal.1 in
      by_session t s
      (λ is same. record {
        before = was.before;
        idle =
            λ idle. let ends = subst (λ u. EndsBy (has_stopped past) says u legal.0.1.item reply past) same legal.0.1.ends in
            ends_making says P declare s past legal.1 was.before (has_stopped past) legal.0.1.item reply ends;
      })
      (λ is. record { before = was.before; idle = λ idle. was.idle (rw is at idle) })
  kept s (Committed t ∷ past) legal =
      let was = kept s past legal.1 in
      by_session t s (λ is same. record { before = was.before; idle = λ idle. rw is tt })
      (λ is. record { before = was.before; idle = λ idle. rw is (was.idle idle) })
  kept s (RolledBack t ∷ past) legal =
      let was = kept s past legal.1 in
      by_session t s (λ is same. record { before = was.before; idle = λ idle. rw is tt })
      (λ is. record { before = was.before; idle = λ idle. rw is (was.idle idle) })
  kept s (e ∷ past) legal = let was = kept s past legal.1 in record { before = was.before; idle = was.idle }

  -- ---- commits

  module _ (one : ReadsOne says) (s : ℕ) (past : List Event) (legal : IsLegal says past) (may : MayCommit says s past) where
    before : MakeOnly P (own_before s past)
    before = (kept s past legal).before

    abbrev text : List ℕ
    text = may.takes.asks.0

    -- what was open before the item is committed as it was
    as_before : (statement : Stmt) → says text statement → keeps_changes statement ≡ true → did begins_txn s past ≡ false → MakeOnly P (own s past)
    as_before statement says_it keeps not =
        subst (MakeOnly P)
        (before_settled says s (Sql text) past legal may.takes.asks.1
        ∙ sym (kept_own says one s text statement says_it keeps past legal may.takes.asks.1 not may.is_open)) before

    ended_before : (statement : Stmt) → says text statement → keeps_changes statement ≡ true → never_begins statement ≡ true → is_on_rows statement ≡ false
        → MakeOnly P (own s past)
    ended_before statement says_it keeps never plain =
        as_before statement says_it keeps (none_begun says one s text statement says_it never plain past legal may.takes.asks.1)

    settles : (statement : Stmt) → says text statement → IsSettled s may.takes.setting statement past → MakeOnly P (own s past)
    settles statement says_it is =
        answered says P declare s past legal before (sight_in is.l s may.takes.setting statement past) statement is.reply
        (text, may.takes.asks.1, says_it) is.answers

    commits_by : (statement : Stmt) → says text statement → CommitsBy s may.takes.setting statement past → MakeOnly P (own s past)
    commits_by stmt.Commit says_it by = ended_before stmt.Commit says_it refl refl refl
    commits_by (stmt.Begin snapshot) says_it by = as_before (stmt.Begin snapshot) says_it refl by
    commits_by (stmt.SetAutocommit true) says_it by = ended_before (stmt.SetAutocommit true) says_it refl refl refl
    commits_by (stmt.SetAutocommit false) says_it by = settles (stmt.SetAutocommit false) says_it by.1
    commits_by (stmt.CreateTable table skips definitions) says_it (inl not) = as_before (stmt.CreateTable table skips definitions) says_it refl not
    commits_by (stmt.CreateTable table skips definitions) says_it (inr made) =
        let statement = stmt.CreateTable table skips definitions in
        let changes = (outcome statement (base s past)).changes in
        makes_here says P declare s past legal before (length changes) changes
        (asked_makes says P declare s past legal before statement (base s past) (text, may.takes.asks.1, says_it)) made
    commits_by statement says_it by = settles statement says_it by.1

    -- a transaction that may commit has made declared tables alone
    pub commits_declared : MakeOnly P (own s past)
    commits_declared = commits_by may.statement may.takes.asks.2 may.by
