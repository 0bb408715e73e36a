-- What kinds of reply the outcomes of statements have.
use Rattle.std.proofs.Common.{◌≡◌, ◌≢◌, refl, ℕ, Bool, true, false, List, [], length, Option, Some, None, is_some, inl, inr, ◌⊎◌}
use Rattle.std.specs.Prelude.{slice_get, if◌then◌else◌}
use Rattle.inno_types.specs.declared.value.Schema.{Schema}
use Rattle.inno_types.specs.declared.value.Value.{Value}
use Rattle.inno_types.specs.declared.stmt.Stmt.{Stmt}
use Rattle.inno_types.specs.declared.stmt.Stmt.TheVariants as stmt
use Rattle.inno_types.specs.declared.stmt.Definition.{Definition}
use Rattle.inno_types.specs.declared.reply.Reply.{Reply}
use Rattle.inno_types.specs.declared.reply.Reply.TheVariants.{Done, Count, Rows, Fail}
use Rattle.inno_types.specs.declared.reply.SqlError.{SqlError}
use Rattle.inno_db.specs.declared.outcome.Outcome.{Outcome}
use Rattle.inno_db.specs.declared.outcome.Written.{Written}
use Rattle.inno_db.specs.Database.{Database, rows_of}
use Rattle.inno_db.specs.Names.{table_place}
use Rattle.inno_db.specs.Refusals.{refusal}
use Rattle.inno_db.specs.Declarations.{schema_declared}
use Rattle.inno_db.specs.Outcome.{matching, inserted, updated, count_unless, counted, answered, on_schema, on_number, on_rows, creation, created, select_answer, insert_answer, update_answer, delete_answer, answer_to, unless_refused, outcome}
use Rattle.sql_history.specs.Statements.{is_on_rows}

abbrev pub is_answer : Reply → Bool
is_answer (Count n) = true
is_answer (Rows rows) = true
is_answer other = false

-- rows, a count or a refusal; or nothing at all
abbrev pub IsPlain : Outcome → Type 0
IsPlain o = (is_answer o.reply ≡ true) ⊎ (((o.reply ≡ Done) × (o.changes ≡ [])) ⊎ ((error : SqlError) × (o.reply ≡ Fail error)))

counted-plain : (written : Written) → IsPlain (counted written)
counted-plain written =
    elim written.refusal as (λ r. IsPlain (record { reply = count_unless r (length written.changes); changes = written.changes }))
    [ None ↦ inl refl | Some error ↦ inr (inr (error, refl)) ]

on_rows-plain : (db : Database) (name : List ℕ) (answer : ℕ → Schema → List (List Value) → Outcome)
    → ((n : ℕ) (schema : Schema) (rows : List (List Value)) → IsPlain (answer n schema rows)) → IsPlain (on_rows db name answer)
on_rows-plain db name answer each =
    elim (table_place db.schemas name) as (λ p. IsPlain (on_number db p answer)) [
      | None ↦ inr (inl (refl, refl))
      | Some n ↦ elim (slice_get db.schemas n) as (λ o. IsPlain (on_schema n o (rows_of n db) answer)) [
        | None ↦ inr (inl (refl, refl))
        | Some schema ↦ each n schema (rows_of n db)
      ]
    ]

answer_to-plain : (a : Stmt) (db : Database) → is_on_rows a ≡ true → IsPlain (answer_to a db)
answer_to-plain (stmt.Select selected table condition lock) db rows = on_rows-plain db table (select_answer selected condition) (λ n schema rs. inl refl)
answer_to-plain (stmt.Insert table names tuples) db rows =
    on_rows-plain db table (insert_answer names tuples) (λ n schema rs. counted-plain (inserted n schema names rs tuples))
answer_to-plain (stmt.Update table sets condition) db rows =
    on_rows-plain db table (update_answer sets condition) (λ n schema rs. counted-plain (updated n schema sets (matching schema.columns condition rs)))
answer_to-plain (stmt.Delete table condition) db rows = on_rows-plain db table (delete_answer condition) (λ n schema rs. inl refl)
answer_to-plain other db rows = absurd (cc)

pub outcome-plain : (a : Stmt) (db : Database) → is_on_rows a ≡ true → IsPlain (outcome a db)
outcome-plain a db rows =
    elim (refusal db.schemas a) as (λ r. IsPlain (unless_refused r (answer_to a db)))
    [ None ↦ answer_to-plain a db rows | Some error ↦ inr (inr (error, refl)) ]

creation-done : (made : Option Schema) → (creation made).reply ≡ Done
creation-done None = refl
creation-done (Some schema) = refl

-- a table that is made is answered so
pub creation-answer : (table : List ℕ) (skips : Bool) (definitions : List Definition) (db : Database)
    → (outcome (stmt.CreateTable table skips definitions) db).changes ≢ [] → (outcome (stmt.CreateTable table skips definitions) db).reply ≡ Done
creation-answer table skips definitions db made =
    elim (refusal db.schemas (stmt.CreateTable table skips definitions)) as
    (λ r. ((unless_refused r (created db table definitions)).changes ≢ []) → (unless_refused r (created db table definitions)).reply ≡ Done) [
      | Some error ↦ λ some. absurd (some refl)
      | None ↦ λ some. elim (is_some (table_place db.schemas table)) as
          (λ b. (if b then answered Done else creation (schema_declared table definitions)).reply ≡ Done)
          [ true ↦ refl | false ↦ creation-done (schema_declared table definitions) ]
    ] made
