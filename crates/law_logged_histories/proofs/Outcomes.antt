-- The tables that a statement makes over a database are those that its text declares.
use Rattle.std.proofs.Common.{◌≡◌, refl, sym, subst, ℕ, zero, suc, true, false, List, [], ◌∷◌, ◌++◌, take, drop, reverse, Option, Some, None, Ok, Err}
use Rattle.std.specs.Prelude.{slice_get, is_some, if◌then◌else◌}
use Rattle.std.specs.List.{AllByRecursion}
use Rattle.std.proofs.lemmas.List.{reverse-append}
use Rattle.inno_types.specs.declared.value.Value.{Value}
use Rattle.inno_types.specs.declared.value.Schema.{Schema}
use Rattle.inno_types.specs.declared.reply.Reply.TheVariants.{Done}
use Rattle.inno_types.specs.declared.stmt.Literal.{Literal}
use Rattle.inno_types.specs.declared.stmt.Set.{Set}
use Rattle.inno_types.specs.declared.stmt.Stmt.{Stmt}
use Rattle.inno_types.specs.declared.stmt.Stmt.TheVariants.{CreateTable, Select, Insert, Update, Delete}
use Rattle.inno_db.specs.declared.change.Change.{Change}
use Rattle.inno_db.specs.declared.change.Change.TheVariants.{Create, Put}
use Rattle.inno_db.specs.declared.outcome.Outcome.{Outcome}
use Rattle.inno_db.specs.Database.{Database, rows_of}
use Rattle.inno_db.specs.Declarations.{schema_declared}
use Rattle.inno_db.specs.Names.{table_place}
use Rattle.inno_db.specs.Expressions.{and_then}
use Rattle.inno_db.specs.Storing.{all_assigned}
use Rattle.inno_db.specs.Refusals.{refusal}
use Rattle.inno_db.specs.Outcome.{matching, is_same_row, row_for, put_then, inserted, change_to, change_then, updated, deleted, answered, creation, on_schema, on_number, on_rows, select_answer, insert_answer, update_answer, delete_answer, answer_to, unless_refused, outcome}

module _ (P : Schema → Type 0) where
  -- if it makes a table, then one that is so
  abbrev pub MakesOnly : Change → Type 0
  MakesOnly (Create schema) = P schema
  MakesOnly other = Unit {0}

  abbrev pub MakeOnly : List Change → Type 0
  MakeOnly changes = AllByRecursion MakesOnly changes

  -- ---- lists of changes

  pub make_append : (some others : List Change) → MakeOnly some → MakeOnly others → MakeOnly (some ++ others)
  make_append [] others all more = more
  make_append (change ∷ some) others all more = (all.0, make_append some others all.1 more)

  pub make_drop : (n : ℕ) (changes : List Change) → MakeOnly changes → MakeOnly (drop n changes)
  make_drop zero changes all = all
  make_drop (suc n) [] all = tt
  make_drop (suc n) (change ∷ changes) all = make_drop n changes all.1

  make_take : (n : ℕ) (changes : List Change) → MakeOnly changes → MakeOnly (take n changes)
  make_take zero changes all = tt
  make_take (suc n) [] all = tt
  make_take (suc n) (change ∷ changes) all = (all.0, make_take n changes all.1)

  make_reverse : (changes : List Change) → MakeOnly changes → MakeOnly (reverse changes)
  make_reverse [] all = tt
  make_reverse (change ∷ changes) all =
      subst MakeOnly (sym (reverse-append (change ∷ []) changes)) (make_append (reverse changes) (change ∷ []) (make_reverse changes all.1) (all.0, tt))

  -- the first so many, newest first
  pub make_turned : (n : ℕ) (changes : List Change) → MakeOnly changes → MakeOnly (reverse (take n changes))
  make_turned n changes all = make_reverse (take n changes) (make_take n changes all)

  -- ---- outcomes

  -- a table that the statement declares is so
  abbrev pub DeclaresOnly : Stmt → Type 0
  DeclaresOnly (CreateTable table skips definitions) = (schema : Schema) → schema_declared table definitions ≡ Some schema → P schema
  DeclaresOnly other = Unit {0}

  inserted_make : (table : ℕ) (schema : Schema) (names : Option (List (List ℕ))) (rows : List (List Value)) (tuples : List (List Literal))
      → MakeOnly (inserted table schema names rows tuples).changes
  inserted_make table schema names rows [] = tt
  inserted_make table schema names rows (tuple ∷ tuples) =
      elim (row_for schema names rows tuple) as (λ r. MakeOnly (put_then table r (λ row. inserted table schema names (rows ++ row ∷ []) tuples)).changes)
      [ Ok row ↦ (tt, inserted_make table schema names (rows ++ row ∷ []) tuples) | Err error ↦ tt ]

  updated_make : (table : ℕ) (schema : Schema) (sets : List Set) (rows : List (List Value)) → MakeOnly (updated table schema sets rows).changes
  updated_make table schema sets [] = tt
  updated_make table schema sets (row ∷ rows) =
      let rest = updated_make table schema sets rows in
      elim (all_assigned schema.columns row sets) as
      (λ r. MakeOnly (change_then (and_then r (λ after. Ok (change_to table row after))) (updated table schema sets rows)).changes) [
        | Ok after ↦ elim (is_same_row row after) as
            (λ b. MakeOnly (change_then (Ok (if b then None else Some (Put table after))) (updated table schema sets rows)).changes)
            [ true ↦ rest | false ↦ (tt, rest) ]
        | Err error ↦ tt
      ]

  deleted_make : (table : ℕ) (schema : Schema) (rows : List (List Value)) → MakeOnly (deleted table schema rows)
  deleted_make table schema [] = tt
  deleted_make table schema (row ∷ rows) = (tt, deleted_make table schema rows)

  on_rows_make : (db : Database) (name : List ℕ) (answer : ℕ → Schema → List (List Value) → Outcome)
      → ((n : ℕ) (schema : Schema) (rows : List (List Value)) → MakeOnly (answer n schema rows).changes) → MakeOnly (on_rows db name answer).changes
  on_rows_make db name answer each =
      elim (table_place db.schemas name) as (λ p. MakeOnly (on_number db p answer).changes) [
        | None ↦ tt
        | Some n ↦ elim (slice_get db.schemas n) as (λ o. MakeOnly (on_schema n o (rows_of n db) answer).changes)
            [ None ↦ tt | Some schema ↦ each n schema (rows_of n db) ]
      ]

  creation_makes : (made : Option Schema) → ((schema : Schema) → made ≡ Some schema → P schema) → MakeOnly (creation made).changes
  creation_makes None each = tt
  creation_makes (Some schema) each = (each schema refl, tt)

  answer_makes : (statement : Stmt) (db : Database) → DeclaresOnly statement → MakeOnly (answer_to statement db).changes
  answer_makes (CreateTable table skips definitions) db only =
      elim (is_some (table_place db.schemas table)) as (λ b. MakeOnly (if b then answered Done else creation (schema_declared table definitions)).changes)
      [ true ↦ tt | false ↦ creation_makes (schema_declared table definitions) only ]
  answer_makes (Select selected table condition lock) db only = on_rows_make db table (select_answer selected condition) (λ n schema rows. tt)
  answer_makes (Insert table names tuples) db only =
      on_rows_make db table (insert_answer names tuples) (λ n schema rows. inserted_make n schema names rows tuples)
  answer_makes (Update table sets condition) db only =
      on_rows_make db table (update_answer sets condition) (λ n schema rows. updated_make n schema sets (matching schema.columns condition rows))
  answer_makes (Delete table condition) db only =
      on_rows_make db table (delete_answer condition) (λ n schema rows. deleted_make n schema (matching schema.columns condition rows))
  answer_makes other db only = tt

  pub outcome_makes : (statement : Stmt) (db : Database) → DeclaresOnly statement → MakeOnly (outcome statement db).changes
  outcome_makes statement db only =
      elim (refusal db.schemas statement) as (λ o. MakeOnly (unless_refused o (answer_to statement db)).changes)
      [ None ↦ answer_makes statement db only | Some error ↦ tt ]
