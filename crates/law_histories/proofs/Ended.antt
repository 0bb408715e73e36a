-- An item of a legal history that ends for want of pages names fewer that are free than it needs.
use Rattle.std.proofs.Common.{◌≡◌, ◌⊎◌, ℕ, Bool, true, false, ◌||◌, Option, Some, None, List, [], ◌∷◌, refl, sym, ap, subst, ◌∙◌, inl, inr}
use Rattle.std.proofs.lemmas.Bool.{lt-leb}
use Rattle.std.specs.List.{list_any}
use Rattle.inno_types.specs.declared.stmt.Stmt.{Stmt}
use Rattle.inno_types.specs.declared.stmt.Stmt.TheVariants as stmt
use Rattle.inno_types.specs.declared.reply.Item.{Item}
use Rattle.inno_types.specs.declared.reply.Item.TheVariants as items
use Rattle.inno_types.specs.declared.reply.Reply.{Reply}
use Rattle.inno_types.specs.declared.reply.Reply.TheVariants as replies
use Rattle.inno_types.specs.declared.reply.SqlError.{SqlError}
use Rattle.inno_types.specs.declared.reply.SqlError.TheVariants as errors
use Rattle.inno_db.specs.Outcome.{outcome}
use Rattle.inno_model.specs.declared.event.Event.{Event}
use Rattle.inno_model.specs.declared.event.Event.TheVariants as events
use Rattle.inno_model.specs.Moments.{Sometime}
use Rattle.sql_grammar.specs.Grammar.{Spells}
use Rattle.sql_history.specs.Settings.{Setting}
use Rattle.sql_history.specs.Statements.{refused_at_once}
use Rattle.sql_history.specs.Counts.{has_stopped}
use Rattle.sql_history.specs.Legal.{IsLegal, EndsBy, EndsItem, EndsStatement, EndsAsked, EndsTaken, EndsEarly, AnswersRows}
use Rattle.law_histories.specs.Space.{is_of_pages, says_of_pages, misstates_pages, ends_without_want}
use Rattle.law_histories.proofs.Refused.{Spares, at_once_spares}
use Rattle.law_histories.proofs.Answered.{outcome_spares}

same_error : (a b : SqlError) → replies.Fail a ≡ replies.Fail b → a ≡ b
same_error a b is = cc

some_past : (P : List Event → Type 0) (s : ℕ) (past : List Event) → Sometime P s past → (h : List Event) × P h
some_past P s [] some = absurd some
some_past P s (e ∷ past) (inl now) = (e ∷ past, now)
some_past P s (e ∷ past) (inr before) = some_past P s past before.1

by_rows : (s : ℕ) (setting : Setting) (statement : Stmt) (error : SqlError) (past : List Event) → AnswersRows s setting statement (replies.Fail error) past
    → is_of_pages error ≡ false
by_rows s setting statement error past rows =
    subst (λ (reply : Reply). says_of_pages reply ≡ false) (sym rows.answers.answer) (outcome_spares statement rows.answers.db)

taken : (s : ℕ) (setting : Setting) (statement : Stmt) (error : SqlError) (past : List Event) → EndsTaken s setting statement (replies.Fail error) past
    → is_of_pages error ≡ false
taken s setting (stmt.CreateTable table i definitions) error past ends = (let x = ends.0 in cc)
taken s setting (stmt.Begin snapshot) error past ends = (let x = ends.0 in cc)
taken s setting stmt.Commit error past ends = (let x = ends.0 in cc)
taken s setting stmt.Rollback error past ends = (let x = ends.0 in cc)
taken s setting (stmt.RollbackTo name) error past ends = (let x = ends.0 in cc)
taken s setting (stmt.Savepoint name) error past ends = (let x = ends.0 in cc)
taken s setting (stmt.SetAutocommit on) error past ends = (let x = ends.0 in cc)
taken s setting (stmt.SetLevel scope l) error past ends = (let x = ends.0 in cc)
taken s setting (stmt.Select selected table condition lock) error past ends = by_rows s setting (stmt.Select selected table condition lock) error past ends.0
taken s setting (stmt.Insert table names tuples) error past ends = by_rows s setting (stmt.Insert table names tuples) error past ends.0
taken s setting (stmt.Update table sets condition) error past ends = by_rows s setting (stmt.Update table sets condition) error past ends.0
taken s setting (stmt.Delete table condition) error past ends = by_rows s setting (stmt.Delete table condition) error past ends.0

asked : (o : Option SqlError) (s : ℕ) (setting : Setting) (statement : Stmt) (error : SqlError) (past h : List Event)
    → refused_at_once s setting statement h ≡ o → EndsAsked o s setting statement (replies.Fail error) past → is_of_pages error ≡ false
asked None s setting statement error past h is ends = taken s setting statement error past ends
asked (Some other) s setting statement error past h is ends =
    ap is_of_pages (same_error error other ends.0) ∙ subst Spares is (at_once_spares s setting statement h)

-- an error of something else misstates nothing
spared : (error : SqlError) → is_of_pages error ≡ false → misstates_pages error ≡ false
spared (errors.Full need free) other = absurd (cc)
spared error other = refl

early : (s : ℕ) (error : SqlError) (past : List Event) → EndsEarly Spells s (replies.Fail error) past → misstates_pages error ≡ false
early s (errors.Full need free) past ends = lt-leb need free ends.0
early s error past ends = refl

item : (s : ℕ) (asks : Item) (error : SqlError) (past : List Event) → EndsItem Spells s asks (replies.Fail error) past → misstates_pages error ≡ false
item s (items.Sql text) error past (inl ends) =
    let found = some_past (λ h. refused_at_once s ends.setting ends.statement h ≡ ends.refusal) s past ends.found in
    spared error (asked ends.refusal s ends.setting ends.statement error past found.0 found.1 ends.ends)
item s (items.Sql text) error past (inr (inl none)) = ap misstates_pages (same_error error (errors.Syntax none.place) none.answer)
item s (items.Sql text) error past (inr (inr ends)) = early s error past ends
item s (items.Signal name) error past ends = absurd ends
item s (items.Await name) error past ends = absurd ends

ended : (stopped : Bool) (s j : ℕ) (asks : Item) (reply : Reply) (past : List Event) → EndsBy stopped Spells s asks reply past
    → ends_without_want (events.Ended s j reply) ≡ false
ended true s j asks (replies.Fail error) past ends = (let x = ends.0 in cc)
ended false s j asks (replies.Fail error) past ends = item s asks error past ends.2
ended stopped s j asks other past ends = refl

pub none_without_want : (past : List Event) → IsLegal Spells past → list_any ends_without_want past ≡ false
none_without_want [] legal = refl
none_without_want (events.Ended s j reply ∷ past) legal =
    let may = legal.0.1 in
    ap (λ b. b || list_any ends_without_want past) (ended (has_stopped past) s j may.item reply past may.ends) ∙ none_without_want past legal.1
none_without_want (events.Opened db ∷ past) legal = none_without_want past legal.1
none_without_want (e ∷ past) legal = none_without_want past legal.1
