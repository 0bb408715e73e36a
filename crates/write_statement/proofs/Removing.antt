-- A DELETE puts no rows.
use Rattle.std.proofs.Common.{ℕ, Some, None, Option, List, [], ◌∷◌, ◌++◌}
use Rattle.std.specs.Prelude.{slice_get}
use Rattle.inno_types.specs.declared.value.Value.{Value}
use Rattle.inno_types.specs.declared.value.Schema.{Schema}
use Rattle.inno_types.specs.declared.stmt.Filter.{Filter}
use Rattle.inno_types.specs.declared.stmt.Stmt.TheVariants.{Delete}
use Rattle.inno_db.specs.declared.change.Change.{Change}
use Rattle.inno_db.specs.declared.change.Change.TheVariants.{Create, Put, Remove}
use Rattle.inno_db.specs.Database.{Database, rows_of}
use Rattle.inno_db.specs.Names.{table_place}
use Rattle.inno_db.specs.Refusals.{refusal}
use Rattle.inno_db.specs.Outcome.{outcome, answer_to, unless_refused, deleted, delete_answer, on_number, on_schema, matching}

abbrev pub RemovesAlone : List Change → Type 0
RemovesAlone [] = Unit {0}
RemovesAlone (Remove table key ∷ changes) = RemovesAlone changes
RemovesAlone (other ∷ changes) = ⊥

pub no_put : (before : List Change) (table : ℕ) (row : List Value) (later : List Change) → RemovesAlone (before ++ Put table row ∷ later) → ⊥
no_put [] table row later removes = removes
no_put (Create schema ∷ before) table row later removes = removes
no_put (Put other put ∷ before) table row later removes = removes
no_put (Remove other key ∷ before) table row later removes = no_put before table row later removes

deleted_alone : (table : ℕ) (schema : Schema) (rows : List (List Value)) → RemovesAlone (deleted table schema rows)
deleted_alone table schema [] = tt
deleted_alone table schema (row ∷ rows) = deleted_alone table schema rows

pub removes : (db : Database) (table : List ℕ) (condition : Option Filter) → RemovesAlone (outcome (Delete table condition) db).changes
removes db table condition =
    elim (refusal db.schemas (Delete table condition)) as (λ o. RemovesAlone (unless_refused o (answer_to (Delete table condition) db)).changes) [
      | Some error ↦ tt
      | None ↦ elim (table_place db.schemas table) as (λ p. RemovesAlone (on_number db p (delete_answer condition)).changes) [
        | None ↦ tt
        | Some n ↦ elim (slice_get db.schemas n) as (λ o. RemovesAlone (on_schema n o (rows_of n db) (delete_answer condition)).changes) [
          | None ↦ tt
          | Some schema ↦ deleted_alone n schema (matching schema.columns condition (rows_of n db))
        ]
      ]
    ]
