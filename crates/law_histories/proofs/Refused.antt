-- What refuses a statement before it sees a row is no error of pages.
use Rattle.std.proofs.Common.{◌≡◌, ℕ, Bool, true, false, cond, Option, Some, None, List, refl}
use Rattle.std.specs.Prelude.{is_none, is_some, not, ◌&&◌, ◌==◌, if◌then◌else◌, nat_le, length}
use Rattle.std.specs.List.{list_all}
use Rattle.inno_types.specs.declared.lock.Level.{Level}
use Rattle.inno_types.specs.declared.value.Schema.{Schema}
use Rattle.inno_types.specs.declared.stmt.Stmt.{Stmt}
use Rattle.inno_types.specs.declared.stmt.Stmt.TheVariants as stmt
use Rattle.inno_types.specs.declared.stmt.LevelScope.TheVariants.{Session, NextTransaction}
use Rattle.inno_types.specs.declared.reply.SqlError.{SqlError}
use Rattle.inno_types.specs.declared.reply.SqlError.TheVariants as errors
use Rattle.inno_db.specs.declared.limits.TheConstants.{MOST_TABLES}
use Rattle.inno_db.specs.Declarations.{schema_declared}
use Rattle.inno_db.specs.Names.{table_place}
use Rattle.inno_db.specs.Typing.{where_known, set_known, where_fits, set_fits, tuple_fits}
use Rattle.inno_db.specs.Refusals.{refusal, refused_if, on_table, schema_named, name_refusal, selected_known, select_refusal, names_known, names_twice, width_of, leaves_out, insert_refusal, update_refusal, delete_refusal}
use Rattle.inno_model.specs.declared.event.Event.{Event}
use Rattle.inno_model.specs.Past.{level, level_or}
use Rattle.sql_history.specs.Settings.{Setting, made_at, next_level}
use Rattle.sql_history.specs.Statements.{session_refusal, refused_at_once, first_of, schemas_now, is_serializable}
use Rattle.law_histories.specs.Space.{is_of_pages}

-- there is no error, or one of something else
abbrev pub Spares : Option SqlError → Type 0
Spares None = Unit {0}
Spares (Some error) = is_of_pages error ≡ false

if_spares : (b : Bool) (error : SqlError) (rest : Option SqlError) → is_of_pages error ≡ false → Spares rest → Spares (refused_if b error rest)
if_spares true error rest spared others = spared
if_spares false error rest spared others = others

first_spares : (a b : Option SqlError) → Spares a → Spares b → Spares (first_of a b)
first_spares None b mine others = others
first_spares (Some error) b mine others = mine

table_spares : (o : Option Schema) (f : Schema → Option SqlError) → ((schema : Schema) → Spares (f schema)) → Spares (on_table o f)
table_spares None f all = refl
table_spares (Some schema) f all = all schema

name_spares : (schemas : List Schema) (there if_not_exists : Bool) → Spares (name_refusal schemas there if_not_exists)
name_spares schemas true if_not_exists = if_spares (not if_not_exists) errors.TableThere None refl tt
name_spares schemas false if_not_exists = if_spares (nat_le MOST_TABLES (length schemas)) (errors.CatalogFull MOST_TABLES) None refl tt

-- two tests, one after the other
two_spare : (a b : Bool) (first second : SqlError) → is_of_pages first ≡ false → is_of_pages second ≡ false
    → Spares (refused_if a first (refused_if b second None))
two_spare a b first second one two = if_spares a first (refused_if b second None) one (if_spares b second None two tt)

insert_spares : (a b c d e : Bool)
    → Spares (refused_if a errors.NoColumn (refused_if b errors.TwiceNamed (refused_if c errors.WrongCount (refused_if d (errors.Syntax 0)
    (refused_if e errors.NoDefault None)))))
insert_spares a b c d e =
    if_spares a errors.NoColumn (refused_if b errors.TwiceNamed (refused_if c errors.WrongCount (refused_if d (errors.Syntax 0)
    (refused_if e errors.NoDefault None)))) refl
    (if_spares b errors.TwiceNamed (refused_if c errors.WrongCount (refused_if d (errors.Syntax 0) (refused_if e errors.NoDefault None))) refl
    (if_spares c errors.WrongCount (refused_if d (errors.Syntax 0) (refused_if e errors.NoDefault None)) refl
    (two_spare d e (errors.Syntax 0) errors.NoDefault refl refl)))

pub refusal_spares : (schemas : List Schema) (statement : Stmt) → Spares (refusal schemas statement)
refusal_spares schemas (stmt.CreateTable table i definitions) =
    if_spares (is_none (schema_declared table definitions)) (errors.Syntax 0) (name_refusal schemas (is_some (table_place schemas table)) i) refl
    (name_spares schemas (is_some (table_place schemas table)) i)
refusal_spares schemas (stmt.Select selected table condition lock) =
    table_spares (schema_named schemas table) (select_refusal selected condition)
    (λ schema. two_spare (not (selected_known schema.columns selected && where_known schema.columns condition))
    (not (where_fits schema.columns condition)) errors.NoColumn (errors.Syntax 0) refl refl)
refusal_spares schemas (stmt.Insert table names tuples) =
    table_spares (schema_named schemas table) (insert_refusal names tuples)
    (λ schema. insert_spares (not (names_known schema.columns names)) (names_twice names)
    (not (list_all (λ t. length t == width_of schema.columns names) tuples)) (not (list_all (λ t. tuple_fits names t 0 schema.columns) tuples))
    (leaves_out schema.columns names))
refusal_spares schemas (stmt.Update table sets condition) =
    table_spares (schema_named schemas table) (update_refusal sets condition)
    (λ schema. two_spare (not (list_all (set_known schema.columns) sets && where_known schema.columns condition))
    (not (list_all (set_fits schema) sets && where_fits schema.columns condition)) errors.NoColumn (errors.Syntax 0) refl refl)
refusal_spares schemas (stmt.Delete table condition) =
    table_spares (schema_named schemas table) (delete_refusal condition)
    (λ schema. two_spare (not (where_known schema.columns condition)) (not (where_fits schema.columns condition)) errors.NoColumn (errors.Syntax 0)
    refl refl)
refusal_spares schemas (stmt.Begin snapshot) = tt
refusal_spares schemas stmt.Commit = tt
refusal_spares schemas stmt.Rollback = tt
refusal_spares schemas (stmt.RollbackTo name) = tt
refusal_spares schemas (stmt.Savepoint name) = tt
refusal_spares schemas (stmt.SetAutocommit on) = tt
refusal_spares schemas (stmt.SetLevel scope l) = tt

choice_spares : (b : Bool) (error : SqlError) → is_of_pages error ≡ false → Spares (if b then None else Some error)
choice_spares true error spared = tt
choice_spares false error spared = spared

session_spares : (s : ℕ) (current : Option Level) (setting : Setting) (statement : Stmt) → Spares (session_refusal s current setting statement)
session_spares s current setting (stmt.SetLevel NextTransaction l) = if_spares (is_some current) errors.InTransaction None refl tt
session_spares s current setting (stmt.SetLevel Session l) = tt
session_spares s current setting (stmt.RollbackTo name) = choice_spares (is_some (made_at name setting.saves)) errors.NoSavepoint refl
session_spares s current setting (stmt.CreateTable table i definitions) = choice_spares (s == 0) (errors.Syntax 0) refl
session_spares s current setting (stmt.Select selected table condition (Some mode)) = refl
session_spares s current setting (stmt.Select selected table condition None) =
    if_spares (is_serializable (level_or current (next_level setting))) (errors.Syntax 0) None refl tt
session_spares s current setting (stmt.Insert table names tuples) = tt
session_spares s current setting (stmt.Update table sets condition) = tt
session_spares s current setting (stmt.Delete table condition) = tt
session_spares s current setting (stmt.Begin snapshot) = tt
session_spares s current setting stmt.Commit = tt
session_spares s current setting stmt.Rollback = tt
session_spares s current setting (stmt.Savepoint name) = tt
session_spares s current setting (stmt.SetAutocommit on) = tt

pub at_once_spares : (s : ℕ) (setting : Setting) (statement : Stmt) (past : List Event) → Spares (refused_at_once s setting statement past)
at_once_spares s setting statement past =
    first_spares (session_refusal s (level s past) setting statement) (refusal (schemas_now s past) statement)
    (session_spares s (level s past) setting statement) (refusal_spares (schemas_now s past) statement)
