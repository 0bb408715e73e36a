-- Changes of rows of tables that are there leave a database with more tables wider.
-- `Claims` asks it of what an outcome rests on. No row changes its table.
use Rattle.std.proofs.Common.{◌≡◌, ◌∙◌, ap, sym, subst, refl, ℕ, ◌<◌, ◌≤◌, true, false, cond, List, [], ◌∷◌, ◌++◌, length, Option, None, arith}
use Rattle.std.specs.FinMap.{get}
use Rattle.std.specs.Ordering.{is_eq, eq_by_cmp}
use Rattle.std.specs.declared.cmp.Ordering.{Ordering}
use Rattle.std.specs.declared.cmp.Ordering.TheVariants.{Less, Equal, Greater}
use Rattle.inno_types.specs.declared.value.Value.{Value}
use Rattle.inno_types.specs.declared.value.Schema.{Schema}
use Rattle.inno_types.specs.declared.stmt.Stmt.{Stmt}
use Rattle.inno_db.specs.declared.change.Change.{Change}
use Rattle.inno_db.specs.declared.change.Change.TheVariants.{Create, Put, Remove}
use Rattle.inno_db.specs.declared.outcome.Outcome.{Outcome}
use Rattle.inno_db.specs.Database.{Database, Place, place_cmp, key_in}
use Rattle.inno_db.proofs.Tables.{place_cmp-IsAntisymmetric}
use Rattle.inno_db.specs.Changes.{apply_one, apply}
use Rattle.inno_db.specs.Refusals.{refusal}
use Rattle.inno_db.specs.Outcome.{outcome}
use Rattle.inno_model.specs.Past.{changed}
use Rattle.sql_history.specs.Statements.{is_on_rows}
use Rattle.law_db.specs.RowChanges.{AreOfTables}
use Rattle.law_db.specs.Beside.{is_change_at}
use Rattle.law_db.proofs.Apart.{schemas_stay, get_one, made_at}
use Rattle.law_claims.proofs.Standing.{of_rows}
use Rattle.law_past_agreement.proofs.Tables.{key_stays}
use Rattle.write_statement.specs.Following.{counted_on}
use Rattle.write_statement.specs.Parts.{GoesOnWith}
use Rattle.law_locked_work.specs.Wider.{Widens}
use Rattle.law_locked_work.proofs.Outcomes.{outcome_wide}

abbrev pub IsOfTables : List Schema → Change → Type 0
IsOfTables schemas (Create schema) = ⊥
IsOfTables schemas (Put table row) = table < length schemas
IsOfTables schemas (Remove table key) = table < length schemas

tied : (o : Ordering) → is_eq o ≡ true → o ≡ Equal
tied Less e = cc
tied Equal e = refl
tied Greater e = cc

-- a change of a table that is there is at the same place
pub at_wide : (schemas more : List Schema) (place : Place) (change : Change) → IsOfTables schemas change
    → is_change_at (schemas ++ more) place change ≡ is_change_at schemas place change
at_wide schemas more place (Create schema) of = absurd of
at_wide schemas more place (Put table row) of = ap (λ (k : Value). eq_by_cmp place_cmp place (table, k)) (key_stays schemas more table row of)
at_wide schemas more place (Remove table key) of = refl

-- one of another table isn't at it
pub at_other : (schemas : List Schema) (n : ℕ) (place : Place) (change : Change) → (table : ℕ) → n ≤ table → place.0 < n
    → ((row : List Value) → change ≡ Put table row → is_change_at schemas place change ≡ false)
    × ((key : Value) → change ≡ Remove table key → is_change_at schemas place change ≡ false)
at_other schemas n place change table past within = (
  λ row is. ap (is_change_at schemas place) is ∙ apart (key_in schemas table row),
  λ key is. ap (is_change_at schemas place) is ∙ apart key,
)
  where
    apart : (key : Value) → eq_by_cmp place_cmp place (table, key) ≡ false
    apart key =
        elim (eq_by_cmp place_cmp place (table, key)) as (λ b. eq_by_cmp place_cmp place (table, key) ≡ b → b ≡ false) [
          | true ↦ λ is.
              let same : place ≡ (table, key) = place_cmp-IsAntisymmetric place (table, key) (tied (place_cmp place (table, key)) is) in
              absurd (let number : place.0 ≡ table = ap (λ (p : Place). p.0) same in omega (arith, number, past, within))
          | false ↦ λ is. refl
        ] refl

module _ (some wide : Database) (widens : Widens some wide) where
  tables_one : (change : Change) → IsOfTables some.schemas change
      → ((apply_one some change).schemas ≡ some.schemas) × ((apply_one wide change).schemas ≡ wide.schemas)
  tables_one (Create schema) of = absurd of
  tables_one (Put table row) of = (refl, refl)
  tables_one (Remove table key) of = (refl, refl)

  -- a change of a table that is there, in both
  pub widens_one : (change : Change) → IsOfTables some.schemas change → Widens (apply_one some change) (apply_one wide change)
  widens_one change of =
      let tables = tables_one change of in
      record {
        more = widens.more;
        tables = tables.1 ∙ (widens.tables ∙ ap (λ (ss : List Schema). ss ++ widens.more) (sym tables.0));
        rows = λ place within.
            let there : place.0 < length some.schemas = subst (λ (ss : List Schema). place.0 < length ss) tables.0 within in
            let same : is_change_at wide.schemas place change ≡ is_change_at some.schemas place change =
            ap (λ (ss : List Schema). is_change_at ss place change) widens.tables ∙ at_wide some.schemas widens.more place change of in
            get_one wide change place
            ∙ (ap (λ b. cond b (made_at change (get wide.rows place)) (get wide.rows place)) same
            ∙ (ap (λ (o : Option (List Value)). cond (is_change_at some.schemas place change) (made_at change o) o) (widens.rows place there)
            ∙ sym (get_one some change place)));
      }

widens_apply : (changes : List Change) (some wide : Database) → Widens some wide → AreOfTables some.schemas changes → Widens (apply some changes)
    (apply wide changes)
widens_apply [] some wide widens of = widens
widens_apply (Create schema ∷ changes) some wide widens of = absurd of
widens_apply (Put table row ∷ changes) some wide widens of =
    widens_apply changes (apply_one some (Put table row)) (apply_one wide (Put table row)) (widens_one some wide widens (Put table row) of.0) of.1
widens_apply (Remove table key ∷ changes) some wide widens of =
    widens_apply changes (apply_one some (Remove table key)) (apply_one wide (Remove table key)) (widens_one some wide widens (Remove table key) of.0) of.1

tables_after : (db : Database) (changes : List Change) → AreOfTables db.schemas changes → (changed db changes).schemas ≡ db.schemas
tables_after db changes of = schemas_stay db changes (of_rows db.schemas changes of)

pub widens_changed : (some wide : Database) → Widens some wide → (changes : List Change) → AreOfTables some.schemas changes
    → Widens (changed some changes) (changed wide changes)
widens_changed some wide widens [] of = widens
widens_changed some wide widens (Create schema ∷ changes) of = absurd of
widens_changed some wide widens (Put table row ∷ changes) of =
    widens_one (changed some changes) (changed wide changes) (widens_changed some wide widens changes of.1) (Put table row)
    (subst (λ (ss : List Schema). table < length ss) (sym (tables_after some changes of.1)) of.0)
widens_changed some wide widens (Remove table key ∷ changes) of =
    widens_one (changed some changes) (changed wide changes) (widens_changed some wide widens changes of.1) (Remove table key)
    (subst (λ (ss : List Schema). table < length ss) (sym (tables_after some changes of.1)) of.0)

-- a table more widens
pub widens_created : (db : Database) (schema : Schema) → Widens db (apply_one db (Create schema))
widens_created db schema = record { more = schema ∷ []; tables = refl; rows = λ place within. refl }

-- What comes behind a statement's first changes goes on over a wider database.
pub goes_wide : (statement rest : Stmt) (made : List Change) (some wide : Database) → Widens some wide → is_on_rows statement ≡ true → is_on_rows rest ≡ true
    → refusal some.schemas statement ≡ None → AreOfTables some.schemas made → refusal (apply some made).schemas rest ≡ None
    → GoesOnWith statement some made (outcome rest) → GoesOnWith statement wide made (outcome rest)
goes_wide statement rest made some wide widens rows rest-rows none of rest-none goes =
    let whole = outcome_wide some wide widens statement rows none in
    let later = outcome_wide (apply some made) (apply wide made) (widens_apply made some wide widens of) rest rest-rows rest-none in
    record {
      changes = ap (λ (o : Outcome). o.changes) whole ∙ (goes.changes ∙ ap (λ (o : Outcome). made ++ o.changes) (sym later));
      reply = ap (λ (o : Outcome). o.reply) whole ∙ (goes.reply ∙ ap (λ (o : Outcome). counted_on (length made) o.reply) (sym later));
    }
