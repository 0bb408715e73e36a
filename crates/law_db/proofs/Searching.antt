-- Changes beside what a statement searches leave its outcome.
use Rattle.std.proofs.Common.{◌≡◌, ◌∙◌, ap, sym, refl, ℕ, Bool, true, false, List, Option, Some, None}
use Rattle.std.specs.Prelude.{slice_get, map}
use Rattle.std.specs.FinMap.{get}
use Rattle.inno_types.specs.declared.reply.Reply.TheVariants.{Rows}
use Rattle.inno_types.specs.declared.value.Value.{Value}
use Rattle.inno_types.specs.declared.value.Schema.{Schema}
use Rattle.inno_types.specs.declared.stmt.Filter.{Filter}
use Rattle.inno_types.specs.declared.stmt.Stmt.{Stmt}
use Rattle.inno_types.specs.declared.stmt.Stmt.TheVariants.{Select, Update, Delete}
use Rattle.inno_db.specs.declared.change.Change.{Change}
use Rattle.inno_db.specs.declared.outcome.Outcome.{Outcome}
use Rattle.inno_db.specs.Database.{Database, rows_of}
use Rattle.inno_db.specs.Conditions.{matches}
use Rattle.inno_db.specs.Names.{table_place}
use Rattle.inno_db.specs.Refusals.{refusal}
use Rattle.inno_db.specs.Outcome.{outcome, answer_to, on_rows, on_number, on_schema, select_answer, update_answer, delete_answer, unless_refused, answered, counted, updated, deleted, selected_of, matching}
use Rattle.inno_model.specs.Past.{changed}
use Rattle.law_db.specs.Beside.{touches, AreOfRows, passed, IsUnmet, IsBesideSearch, IsBesideStatement, is_search}
use Rattle.law_db.proofs.Passing.{same_passing}
use Rattle.law_db.proofs.Apart.{schemas_stay, get_untouched}

-- two databases that differ in no row that passes
pub same_unmet : (table : ℕ) (test : List Value → Bool) (db : Database) (changes : List Change) → AreOfRows changes → IsUnmet table test db changes → (key : Value) → passed test (get (changed db changes).rows (table, key)) ≡ passed test (get db.rows (table, key))
same_unmet table test db changes rows unmet key =
    elim (touches db.schemas changes (table, key)) as (λ b. touches db.schemas changes (table, key) ≡ b → passed test (get (changed db changes).rows (table, key)) ≡ passed test (get db.rows (table, key))) [
      | true ↦ λ is. (unmet key is).1 ∙ sym (unmet key is).0
      | false ↦ λ is. ap (passed test) (get_untouched db changes (table, key) rows is)
    ] refl

on_schema-alike : (table : ℕ) (s : Option Schema) (some others : List (List Value)) (answer : ℕ → Schema → List (List Value) → Outcome) → ((schema : Schema) → s ≡ Some schema → answer table schema some ≡ answer table schema others) → on_schema table s some answer ≡ on_schema table s others answer
on_schema-alike table None some others answer same = refl
on_schema-alike table (Some schema) some others answer same = same schema refl

on_number-alike : (a b : Database) (place : Option ℕ) (answer : ℕ → Schema → List (List Value) → Outcome) → a.schemas ≡ b.schemas
    → ((table : ℕ) (schema : Schema) → place ≡ Some table → slice_get b.schemas table ≡ Some schema → answer table schema (rows_of table a) ≡ answer table schema (rows_of table b)) → on_number a place answer ≡ on_number b place answer
on_number-alike a b None answer tables same = refl
on_number-alike a b (Some table) answer tables same =
    ap (λ (ss : List Schema). on_schema table (slice_get ss table) (rows_of table a) answer) tables
    ∙ on_schema-alike table (slice_get b.schemas table) (rows_of table a) (rows_of table b) answer (λ schema is. same table schema refl is)

pub on_rows-alike : (a b : Database) (name : List ℕ) (answer : ℕ → Schema → List (List Value) → Outcome) → a.schemas ≡ b.schemas
    → ((table : ℕ) (schema : Schema) → table_place b.schemas name ≡ Some table → slice_get b.schemas table ≡ Some schema → answer table schema (rows_of table a) ≡ answer table schema (rows_of table b)) → on_rows a name answer ≡ on_rows b name answer
on_rows-alike a b name answer tables same =
    ap (λ (ss : List Schema). on_number a (table_place ss name) answer) tables ∙ on_number-alike a b (table_place b.schemas name) answer tables same

pub outcome-alike : (stmt : Stmt) (a b : Database) → a.schemas ≡ b.schemas → answer_to stmt a ≡ answer_to stmt b → outcome stmt a ≡ outcome stmt b
outcome-alike stmt a b tables same = ap (λ (ss : List Schema). unless_refused (refusal ss stmt) (answer_to stmt a)) tables ∙ ap (unless_refused (refusal b.schemas stmt)) same

module _ (db : Database) (changes : List Change) (rows : AreOfRows changes) where
  searched : (name : List ℕ) (condition : Option Filter) (answer : ℕ → Schema → List (List Value) → Outcome) → IsBesideSearch name condition db changes
      → ((table : ℕ) (schema : Schema) (some others : List (List Value)) → matching schema.columns condition some ≡ matching schema.columns condition others → answer table schema some ≡ answer table schema others)
      → on_rows (changed db changes) name answer ≡ on_rows db name answer
  searched name condition answer beside depends =
      on_rows-alike (changed db changes) db name answer (schemas_stay db changes rows)
      (λ table schema here is. depends table schema (rows_of table (changed db changes)) (rows_of table db)
      (same_passing table (matches schema.columns condition) (changed db changes) db (same_unmet table (matches schema.columns condition) db changes rows (beside table schema here is))))

  pub select_beside : (selected : _) (name : List ℕ) (condition : Option Filter) (lock : _) → IsBesideSearch name condition db changes → outcome (Select selected name condition lock) (changed db changes) ≡ outcome (Select selected name condition lock) db
  select_beside selected name condition lock beside =
      outcome-alike (Select selected name condition lock) (changed db changes) db (schemas_stay db changes rows)
      (searched name condition (select_answer selected condition) beside (λ table schema some others same. ap (λ (rs : List (List Value)). answered (Rows (map (selected_of schema.columns selected) rs))) same))

  pub update_beside : (name : List ℕ) (sets : _) (condition : Option Filter) → IsBesideSearch name condition db changes → outcome (Update name sets condition) (changed db changes) ≡ outcome (Update name sets condition) db
  update_beside name sets condition beside =
      outcome-alike (Update name sets condition) (changed db changes) db (schemas_stay db changes rows)
      (searched name condition (update_answer sets condition) beside (λ table schema some others same. ap (λ (rs : List (List Value)). counted (updated table schema sets rs)) same))

  pub delete_beside : (name : List ℕ) (condition : Option Filter) → IsBesideSearch name condition db changes → outcome (Delete name condition) (changed db changes) ≡ outcome (Delete name condition) db
  delete_beside name condition beside =
      outcome-alike (Delete name condition) (changed db changes) db (schemas_stay db changes rows)
      (searched name condition (delete_answer condition) beside (λ table schema some others same. ap (λ (rs : List (List Value)). counted (record { changes = deleted table schema rs; refusal = None })) same))

  pub search_beside : (statement : Stmt) → is_search statement ≡ true → IsBesideStatement statement db changes → outcome statement (changed db changes) ≡ outcome statement db
  search_beside (Select selected name condition lock) search beside = select_beside selected name condition lock beside
  search_beside (Update name sets condition) search beside = update_beside name sets condition beside
  search_beside (Delete name condition) search beside = delete_beside name condition beside
  search_beside other search beside = (cc)
