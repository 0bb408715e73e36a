-- Which tables a CREATE TABLE meets, and what it makes of them.
use Rattle.std.proofs.Common.{◌≡◌, ℕ, ◌<◌, Bool, true, false, cond, Option, Some, None, List, [], ◌∷◌, ◌++◌, length, refl, sym, ap, subst, ◌∙◌, arith}
use Rattle.std.proofs.lemmas.Bool.Decides.{nat_tests}
use Rattle.std.specs.Prelude.{is_some, is_none, nat_le, IfSome}
use Rattle.std.specs.List.{AllByRecursion}
use Rattle.inno_types.specs.declared.value.Schema.{Schema}
use Rattle.inno_types.specs.declared.reply.Reply.TheVariants.{Done}
use Rattle.inno_types.specs.declared.reply.SqlError.{SqlError}
use Rattle.inno_types.specs.declared.reply.SqlError.TheVariants.{Syntax, CatalogFull}
use Rattle.inno_types.specs.declared.stmt.Definition.{Definition}
use Rattle.inno_types.specs.declared.stmt.Stmt.{Stmt}
use Rattle.inno_types.specs.declared.stmt.Stmt.TheVariants as stmt
use Rattle.inno_db.specs.Database.{Database}
use Rattle.inno_db.specs.Names.{table_place}
use Rattle.inno_db.specs.Declarations.{schema_declared}
use Rattle.inno_db.specs.Refusals.{refusal, refused_if, name_refusal}
use Rattle.inno_db.specs.Outcome.{outcome, answer_to, answered, creation, unless_refused}
use Rattle.inno_db.specs.declared.outcome.Outcome.{Outcome}
use Rattle.inno_db.specs.declared.change.Change.{Change}
use Rattle.inno_db.specs.declared.change.Change.TheVariants.{Create, Put, Remove}
use Rattle.inno_db.specs.declared.limits.TheConstants.{MOST_TABLES}
use Rattle.inno_types.specs.declared.lock.Level.{Level}
use Rattle.inno_model.specs.declared.event.Event.{Event}
use Rattle.inno_model.specs.declared.event.Event.TheVariants as events
use Rattle.inno_model.specs.Past.{own, commits, committed, opening}
use Rattle.law_stored_rows.proofs.Declared.{declared-IsStorable}
use Rattle.sql_history.specs.Items.{own_before, base}
use Rattle.sql_history.specs.Legal.{IsCreation}
use Rattle.law_past_agreement.specs.Order.{created, IsOfRow}
use Rattle.sql_lists.specs.Kept.{AreStanding, made}
use Rattle.sql_lists.specs.Steps.{HasRowsAlone}
use Rattle.sql_lists.proofs.Standing.{schemas_after, made_append, now_is}
use Rattle.create_statement.specs.Making.{is_there, Makes}
use Rattle.create_statement.proofs.Creations.{as_creation}

-- ---- the tables that stand

made_rows : (changes : List Change) → AllByRecursion IsOfRow changes → made changes ≡ []
made_rows [] rows = refl
made_rows (Create schema ∷ changes) rows = absurd rows.0
made_rows (Put table row ∷ changes) rows = made_rows changes rows.1
made_rows (Remove table key ∷ changes) rows = made_rows changes rows.1

-- a session that has changed rows alone meets all tables that were made
pub tables_met : (s : ℕ) (h : List Event) → AreStanding h → HasRowsAlone s h → AllByRecursion IsOfRow (own_before s h)
    → (base s h).schemas ≡ created h
tables_met s h stands rows rows_before =
    let first = (opening h).schemas in
    let those = made (committed (commits h) h) in
    schemas_after (opening h) (own_before s h ++ committed (commits h) h)
    ∙ (ap (λ schemas. first ++ schemas) (made_append (own_before s h) (committed (commits h) h) ∙ ap (λ schemas. those ++ schemas)
    (made_rows (own_before s h) rows_before ∙ sym (made_rows (own s h) rows)))
    ∙ (sym (now_is s h) ∙ sym (stands.tables s)))

-- its transaction begins: it meets the same tables
pub tables_begun : (s n : ℕ) (l : Level) (h : List Event) → AllByRecursion IsOfRow (own_before s h)
    → (base s (events.Begin s n l ∷ h)).schemas ≡ (base s h).schemas
tables_begun s n l h rows =
    let first = (opening h).schemas in
    let those = made (committed (commits h) h) in
    let none : own_before s (events.Begin s n l ∷ h) ≡ [] = grind (arith, nat_tests) in
    schemas_after (opening h) (own_before s (events.Begin s n l ∷ h) ++ committed (commits h) h)
    ∙ (ap (λ schemas. first ++ schemas) (made_append (own_before s (events.Begin s n l ∷ h)) (committed (commits h) h) ∙
    (ap (λ schemas. those ++ schemas) (ap made none ∙ sym (made_rows (own_before s h) rows)) ∙ sym
    (made_append (own_before s h) (committed (commits h) h))))
    ∙ sym (schemas_after (opening h) (own_before s h ++ committed (commits h) h)))

-- ---- what the statement makes

none_either : (error : Option SqlError) (answer : Outcome) → answer.changes ≡ [] → (unless_refused error answer).changes ≡ []
none_either None answer none = none
none_either (Some error) answer none = refl

-- a table that is there is skipped
pub makes_none : (schemas : List Schema) (statement : Stmt) → IsCreation statement → is_there schemas statement ≡ true → (db : Database)
    → db.schemas ≡ schemas → (outcome statement db).changes ≡ []
makes_none schemas =
    as_creation (λ x. is_there schemas x ≡ true → (db : Database) → db.schemas ≡ schemas → (outcome x db).changes ≡ [])
    (λ table i definitions there db same.
    none_either (refusal db.schemas (stmt.CreateTable table i definitions)) (answer_to (stmt.CreateTable table i definitions) db)
    (ap (λ b. (cond b (answered Done) (creation (schema_declared table definitions))).changes) (ap (λ x. is_some (table_place x table)) same ∙ there)))

not_refused : (b : Bool) (error : SqlError) → refused_if b error None ≡ None → b ≡ false
not_refused true error is = cc
not_refused false error is = refl

room : (n m : ℕ) → nat_le n m ≡ false → m < n
room n m is = grind (arith, nat_tests, is)

-- what it declares is made, where nothing refuses that and nothing of its name is there
pub makes_declared : (schemas : List Schema) (table : List ℕ) (i : Bool) (definitions : List Definition) (schema : Schema)
    → refusal schemas (stmt.CreateTable table i definitions) ≡ None → is_there schemas (stmt.CreateTable table i definitions) ≡ false
    → schema_declared table definitions ≡ Some schema → Makes (stmt.CreateTable table i definitions) schema schemas
makes_declared schemas table i definitions schema allowed absent declared =
    let statement = stmt.CreateTable table i definitions in
    let full : refused_if (nat_le MOST_TABLES (length schemas)) (CatalogFull MOST_TABLES) None ≡ None =
    sym (ap (λ b. refused_if false (Syntax 0) (name_refusal schemas b i)) absent)
    ∙ (sym (ap (λ o. refused_if (is_none o) (Syntax 0) (name_refusal schemas (is_some (table_place schemas table)) i)) declared) ∙ allowed) in
    record {
      changes = λ db same.
          ap (λ r. (unless_refused r (answer_to statement db)).changes) (ap (λ x. refusal x statement) same ∙ allowed)
          ∙ (ap (λ b. (cond b (answered Done) (creation (schema_declared table definitions))).changes) (ap (λ x. is_some (table_place x table)) same ∙ absent)
          ∙ ap (λ o. (creation o).changes) declared);
      storable = declared-IsStorable table definitions schema declared;
      few = room MOST_TABLES (length schemas) (not_refused (nat_le MOST_TABLES (length schemas)) (CatalogFull MOST_TABLES) full);
    }

-- so with whatever is declared
pub makes_if_declared : (schemas : List Schema) (statement : Stmt) (table : List ℕ) (i : Bool) (definitions : List Definition) (told : Option Schema)
    → statement ≡ stmt.CreateTable table i definitions → refusal schemas statement ≡ None → is_there schemas statement ≡ false
    → told ≡ schema_declared table definitions → IfSome told (λ schema. Makes statement schema schemas)
makes_if_declared schemas statement table i definitions None is allowed absent declared = tt
makes_if_declared schemas statement table i definitions (Some schema) is allowed absent declared =
    subst (λ x. Makes x schema schemas) (sym is)
    (makes_declared schemas table i definitions schema (subst (λ x. refusal schemas x ≡ None) is allowed) (subst (λ x. is_there schemas x ≡ false) is absent)
    (sym declared))
