-- What an item's end says of the tables that its session's open transaction has made.
use Rattle.std.proofs.Common.{◌≡◌, ap, refl, sym, subst, ℕ, Bool, true, false, List, [], ◌∷◌, length, Option, Some, None, inl, inr}
use Rattle.std.specs.List.{list_any}
use Rattle.inno_types.specs.declared.value.Schema.{Schema}
use Rattle.inno_types.specs.declared.reply.Item.{Item}
use Rattle.inno_types.specs.declared.reply.Item.TheVariants.{Sql, Signal, Await}
use Rattle.inno_types.specs.declared.reply.Reply.{Reply}
use Rattle.inno_types.specs.declared.reply.Reply.TheVariants as replies
use Rattle.inno_types.specs.declared.reply.SqlError.{SqlError}
use Rattle.inno_types.specs.declared.reply.SqlError.TheVariants as errors
use Rattle.inno_types.specs.declared.stmt.Stmt.{Stmt}
use Rattle.inno_types.specs.declared.stmt.Stmt.TheVariants as stmt
use Rattle.inno_types.specs.declared.lock.Level.{Level}
use Rattle.inno_db.specs.declared.change.Change.{Change}
use Rattle.inno_db.specs.Database.{Database}
use Rattle.inno_db.specs.Outcome.{outcome}
use Rattle.inno_model.specs.declared.event.Event.{Event}
use Rattle.inno_model.specs.Past.{before_item, of_item, level, own, did, begins_txn}
use Rattle.sql_history.specs.Items.{Language, Asks, base, own_before, point, HasMade}
use Rattle.sql_history.specs.Settings.{Setting}
use Rattle.sql_history.specs.Statements.{Sight}
use Rattle.sql_history.specs.Answers.{MakesFor, Answers, BreaksOff}
use Rattle.sql_history.specs.Legal.{IsLegal, MadeSome, AnswersRows, EndsCreate, EndsSavepoint, EndsAutocommit, EndsTaken, EndsAsked, EndsEarly, EndsItem}
use Rattle.sql_history.specs.Legal.{EndsSignal, EndsAwait, EndsBy, IsGivenUp, sight_in}
use Rattle.law_histories.proofs.Entries.{closed_own, unbegun_before}
use Rattle.law_histories.proofs.Items.{empty_own}
use Rattle.law_logged_histories.proofs.Outcomes.{MakeOnly, DeclaresOnly, make_append, make_drop, make_turned, outcome_makes}
use Rattle.law_logged_histories.proofs.Turns.{from_point}

signal_none : (s : ℕ) (name : List ℕ) (reply : Reply) (past : List Event) → EndsSignal s name reply past → of_item s past ≡ []
signal_none s name replies.Done past ends = ends.1
signal_none s name replies.NoMemory past ends = ends
signal_none s name other past ends = absurd ends

await_none : (s : ℕ) (name : List ℕ) (reply : Reply) (past : List Event) → EndsAwait s name reply past → of_item s past ≡ []
await_none s name replies.Done past ends = ends.1
await_none s name (replies.NotSignalled waited) past ends = ends.2
await_none s name replies.NoMemory past ends = ends
await_none s name other past ends = absurd ends

-- each table that a text declares has the property
abbrev pub DeclareOnly : Language → (Schema → Type 0) → Type 0
DeclareOnly says P = (text : List ℕ) (statement : Stmt) → says text statement → DeclaresOnly P statement

module _ (says : Language) (P : Schema → Type 0) (declare : DeclareOnly says P) (s : ℕ) (past : List Event) (legal : IsLegal says past)
    (before : MakeOnly P (own_before s past)) where
  before_point : MakeOnly P (own_before s (point s past))
  before_point = subst (λ (h : List Event). MakeOnly P (own s h)) (sym (from_point says P s past legal).turn) before

  pub makes_here : (count : ℕ) (changes : List Change) → MakeOnly P changes → HasMade count s changes past → MakeOnly P (own s past)
  makes_here count changes only made = subst (MakeOnly P) (sym made) (make_append P _ (own_before s past) (make_turned P count changes only) before)

  made_first : (count : ℕ) (changes : List Change) → MakeOnly P changes → HasMade count s changes (point s past) → MakeOnly P (own s past)
  made_first count changes only made =
      (from_point says P s past legal).made
      (subst (MakeOnly P) (sym made) (make_append P _ (own_before s (point s past)) (make_turned P count changes only) before_point))

  made_none : own s (point s past) ≡ own_before s (point s past) → MakeOnly P (own s past)
  made_none none = (from_point says P s past legal).made (subst (MakeOnly P) (sym none) before_point)

  empty : own s past ≡ [] → MakeOnly P (own s past)
  empty none = subst (MakeOnly P) (sym none) tt

  closed : level s past ≡ None → MakeOnly P (own s past)
  closed is = empty (closed_own says s past legal is)

  as_before_item : did begins_txn s past ≡ false → MakeOnly P (own s (before_item s past))
  as_before_item not = subst (λ (h : List Event). MakeOnly P (own s h)) (unbegun_before says s past not) before

  nothing : of_item s past ≡ [] → MakeOnly P (own s past)
  nothing none = subst (MakeOnly P) (sym (empty_own s past none)) (as_before_item (ap (list_any begins_txn) none))

  pub asked_makes : (statement : Stmt) (db : Database) → Asks says s statement past → MakeOnly P (outcome statement db).changes
  asked_makes statement db asks = outcome_makes P statement db (declare asks.0 statement asks.2)

  -- ---- answers, and items that break off

  made_for : (reply : Reply) (changes : List Change) → MakeOnly P changes → MakesFor reply s changes (point s past) → MakeOnly P (own s past)
  made_for (replies.Fail error) changes only made = made_first made.0 changes only made.1
  made_for other changes only made = made_first (length changes) changes only made

  pub answered : (sight : Sight) (statement : Stmt) (reply : Reply) → Asks says s statement past → Answers sight s statement reply past
      → MakeOnly P (own s past)
  answered sight statement reply asks gave = made_for reply (outcome statement gave.db).changes (asked_makes statement gave.db asks) gave.changes

  broken_off : (sight : Sight) (statement : Stmt) → Asks says s statement past → BreaksOff sight s statement past → MakeOnly P (own s past)
  broken_off sight statement asks (inl none) = made_none none
  broken_off sight statement asks (inr begun) =
      made_first begun.count (outcome statement begun.db).changes (asked_makes statement begun.db asks) begun.changes

  closed_then : level s (point s past) ≡ None → MakeOnly P (own s past)
  closed_then is =
      let from = from_point says P s past legal in
      from.made (subst (MakeOnly P) (sym (closed_own says s (point s past) from.legal is)) tt)

  made_some : MadeSome says s past → MakeOnly P (own s past)
  made_some (inl none) = made_none none
  made_some (inr by) =
      elim (level s (point s past)) as (λ l. level s (point s past) ≡ l → MakeOnly P (own s past)) [
        | None ↦ λ is. closed_then is
        | Some l ↦ λ is. broken_off (sight_in l s by.1.setting by.0 past) by.0 by.1.asks (by.2 l is)
      ] refl

  -- ---- statements by their kinds

  create_ends : (changes : List Change) → EndsCreate s changes past → MakeOnly P (own s past)
  create_ends [] ends = closed ends.0
  create_ends (change ∷ changes) ends = closed ends.0.closed

  savepoint_ends : (l : Option Level) (autocommit : Bool) → EndsSavepoint l autocommit s past → MakeOnly P (own s past)
  savepoint_ends None false ends = empty ends.1
  savepoint_ends None true ends = nothing ends
  savepoint_ends (Some l) autocommit ends = nothing ends

  autocommit_ends : (was on : Bool) → EndsAutocommit was on s past → MakeOnly P (own s past)
  autocommit_ends false true ends = closed ends.0
  autocommit_ends false false ends = nothing ends
  autocommit_ends true on ends = nothing ends

  rows_end : (setting : Setting) (statement : Stmt) (reply : Reply) → Asks says s statement past → AnswersRows s setting statement reply past
      → MakeOnly P (own s past)
  rows_end setting statement reply asks gave = answered (sight_in gave.l s setting statement past) statement reply asks gave.answers

  taken_ends : (setting : Setting) (statement : Stmt) (reply : Reply) → Asks says s statement past → EndsTaken s setting statement reply past
      → MakeOnly P (own s past)
  taken_ends setting (stmt.CreateTable table skips definitions) reply asks ends =
      create_ends (outcome (stmt.CreateTable table skips definitions) (base s (point s past))).changes ends.1
  taken_ends setting (stmt.Begin snapshot) reply asks ends = empty ends.1.new
  taken_ends setting stmt.Commit reply asks ends = closed ends.1
  taken_ends setting stmt.Rollback reply asks ends = closed ends.1
  taken_ends setting (stmt.RollbackTo name) reply asks ends =
      subst (MakeOnly P) (sym ends.2.2) (make_drop P _ (own s (before_item s past)) (as_before_item ends.1.not_begun))
  taken_ends setting (stmt.Savepoint name) reply asks ends = savepoint_ends (level s (before_item s past)) setting.autocommit ends.1
  taken_ends setting (stmt.SetAutocommit on) reply asks ends = autocommit_ends setting.autocommit on ends.1
  taken_ends setting (stmt.SetLevel scope l) reply asks ends = nothing ends.1
  taken_ends setting (stmt.Select selected table condition lock) reply asks ends =
      rows_end setting (stmt.Select selected table condition lock) reply asks ends.0
  taken_ends setting (stmt.Insert table names tuples) reply asks ends = rows_end setting (stmt.Insert table names tuples) reply asks ends.0
  taken_ends setting (stmt.Update table sets condition) reply asks ends = rows_end setting (stmt.Update table sets condition) reply asks ends.0
  taken_ends setting (stmt.Delete table condition) reply asks ends = rows_end setting (stmt.Delete table condition) reply asks ends.0

  asked_ends : (refusal : Option SqlError) (setting : Setting) (statement : Stmt) (reply : Reply) → Asks says s statement past
      → EndsAsked refusal s setting statement reply past → MakeOnly P (own s past)
  asked_ends (Some error) setting statement reply asks ends = nothing ends.1
  asked_ends None setting statement reply asks ends = taken_ends setting statement reply asks ends

  given_up : IsGivenUp says s past → MakeOnly P (own s past)
  given_up gave = made_some (inr (gave.statement, gave.takes, gave.broke_off))

  early_ends : (reply : Reply) → EndsEarly says s reply past → MakeOnly P (own s past)
  early_ends (replies.Fail (errors.Deadlock cycle)) early = closed early.1.rolled_back.closed
  early_ends (replies.Fail (errors.Timeout held waited)) early = given_up early.2
  early_ends (replies.Fail error) early = given_up early.1
  early_ends (replies.RunLimit rows) early = elim early.1 [ inl gave ↦ given_up gave | inr was ↦ closed was.commits.closed ]
  early_ends replies.NoMemory early = made_some early.made
  early_ends other early = absurd early

  item_ends : (item : Item) (reply : Reply) → EndsItem says s item reply past → MakeOnly P (own s past)
  item_ends (Sql text) reply (inl ends) = asked_ends ends.refusal ends.setting ends.statement reply ends.asks ends.ends
  item_ends (Sql text) reply (inr (inl none)) = nothing none.nothing
  item_ends (Sql text) reply (inr (inr early)) = early_ends reply early
  item_ends (Signal name) reply ends = nothing (signal_none s name reply past ends)
  item_ends (Await name) reply ends = nothing (await_none s name reply past ends)

  -- whatever the item's reply
  pub ends_making : (stopped : Bool) (item : Item) (reply : Reply) → EndsBy stopped says s item reply past → MakeOnly P (own s past)
  ends_making true item reply ends = made_some ends.1
  ends_making false item reply ends = item_ends item reply ends.2
