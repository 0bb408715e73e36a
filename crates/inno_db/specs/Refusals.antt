-- Why a statement is refused by its text and the schemas, before any row is taken.
use Rattle.std.specs.Prelude.{ℕ, Bool, true, false, not, ◌&&◌, ◌||◌, ◌==◌, nat_le, List, [], ◌∷◌, length, Option, Some, None, is_some, is_none, slice_get}
use Rattle.std.specs.List.{list_all, list_any}
use Rattle.std.specs.Str.{str_eq_ignore_ascii_case}
use Rattle.inno_types.specs.declared.value.Column.{Column}
use Rattle.inno_types.specs.declared.value.Schema.{Schema}
use Rattle.inno_types.specs.declared.stmt.Literal.{Literal}
use Rattle.inno_types.specs.declared.stmt.Filter.{Filter}
use Rattle.inno_types.specs.declared.stmt.Set.{Set}
use Rattle.inno_types.specs.declared.stmt.Definition.{Definition}
use Rattle.inno_types.specs.declared.stmt.Selected.{Selected}
use Rattle.inno_types.specs.declared.stmt.Selected.TheVariants.{AllColumns, Columns}
use Rattle.inno_types.specs.declared.stmt.Stmt.{Stmt}
use Rattle.inno_types.specs.declared.stmt.Stmt.TheVariants.{CreateTable, Select, Insert, Update, Delete, Begin, Commit, Rollback, RollbackTo, Savepoint, SetAutocommit, SetLevel}
use Rattle.inno_types.specs.declared.reply.SqlError.{SqlError}
use Rattle.inno_types.specs.declared.reply.SqlError.TheVariants.{Syntax, NoTable, NoColumn, TwiceNamed, WrongCount, NoDefault, TableThere, CatalogFull}
use Rattle.inno_db.specs.declared.limits.TheConstants.{MOST_TABLES}
use Rattle.inno_db.specs.Names.{table_place, name_place}
use Rattle.inno_db.specs.Typing.{is_known, where_known, set_known, where_fits, set_fits, tuple_fits}
use Rattle.inno_db.specs.Declarations.{schema_declared}

-- refused where the test holds, and else as what comes after says
abbrev pub refused_if : Bool → SqlError → Option SqlError → Option SqlError
refused_if true error rest = Some error
refused_if false error rest = rest

-- refused for want of the table, or as its schema says
abbrev pub on_table : Option Schema → (Schema → Option SqlError) → Option SqlError
on_table None refusal = Some NoTable
on_table (Some schema) refusal = refusal schema

abbrev pub schema_at : List Schema → Option ℕ → Option Schema
schema_at schemas None = None
schema_at schemas (Some place) = slice_get schemas place

-- the schema of the table of this name
abbrev pub schema_named : List Schema → List ℕ → Option Schema
schema_named schemas name = schema_at schemas (table_place schemas name)

-- a table that is there refuses another of its name, unless the statement passes that over; else there are at most 16
abbrev pub name_refusal : List Schema → Bool → Bool → Option SqlError
name_refusal schemas true if_not_exists = refused_if (not if_not_exists) TableThere None
name_refusal schemas false if_not_exists = refused_if (nat_le MOST_TABLES (length schemas)) (CatalogFull MOST_TABLES) None

abbrev pub create_refusal : List Schema → List ℕ → Bool → List Definition → Option SqlError
create_refusal schemas table if_not_exists definitions =
    refused_if (is_none (schema_declared table definitions)) (Syntax 0)
    (name_refusal schemas (is_some (table_place schemas table)) if_not_exists)

abbrev pub selected_known : List Column → Selected → Bool
selected_known columns AllColumns = true
selected_known columns (Columns names) = list_all (is_known columns) names

-- columns that are not there, and then types
abbrev pub select_refusal : Selected → Option Filter → Schema → Option SqlError
select_refusal selected filter schema =
    refused_if (not (selected_known schema.columns selected && where_known schema.columns filter)) NoColumn
    (refused_if (not (where_fits schema.columns filter)) (Syntax 0) None)

abbrev pub names_known : List Column → Option (List (List ℕ)) → Bool
names_known columns None = true
names_known columns (Some names) = list_all (is_known columns) names

abbrev pub is_named_twice : List (List ℕ) → Bool
is_named_twice [] = false
is_named_twice (name ∷ names) = list_any (λ n. str_eq_ignore_ascii_case n name) names || is_named_twice names

abbrev pub names_twice : Option (List (List ℕ)) → Bool
names_twice None = false
names_twice (Some names) = is_named_twice names

-- how many values a tuple has
abbrev pub width_of : List Column → Option (List (List ℕ)) → ℕ
width_of columns None = length columns
width_of columns (Some names) = length names

-- a column that must be given a value, and that the list leaves out
abbrev pub is_left_out : List (List ℕ) → Column → Bool
is_left_out names column = column.not_null && is_none (name_place names column.name)

abbrev pub leaves_out : List Column → Option (List (List ℕ)) → Bool
leaves_out columns None = false
leaves_out columns (Some names) = list_any (is_left_out names) columns

abbrev pub insert_refusal : Option (List (List ℕ)) → List (List Literal) → Schema → Option SqlError
insert_refusal names tuples schema =
    refused_if (not (names_known schema.columns names)) NoColumn
    (refused_if (names_twice names) TwiceNamed
    (refused_if (not (list_all (λ t. length t == width_of schema.columns names) tuples)) WrongCount
    (refused_if (not (list_all (λ t. tuple_fits names t 0 schema.columns) tuples)) (Syntax 0)
    (refused_if (leaves_out schema.columns names) NoDefault None))))

abbrev pub update_refusal : List Set → Option Filter → Schema → Option SqlError
update_refusal sets filter schema =
    refused_if (not (list_all (set_known schema.columns) sets && where_known schema.columns filter)) NoColumn
    (refused_if (not (list_all (set_fits schema) sets && where_fits schema.columns filter)) (Syntax 0) None)

abbrev pub delete_refusal : Option Filter → Schema → Option SqlError
delete_refusal filter schema =
    refused_if (not (where_known schema.columns filter)) NoColumn
    (refused_if (not (where_fits schema.columns filter)) (Syntax 0) None)

-- the refusal of a statement by its text and the schemas; those of transactions and settings are not looked at here
abbrev pub refusal : List Schema → Stmt → Option SqlError
refusal schemas (CreateTable table if_not_exists definitions) = create_refusal schemas table if_not_exists definitions
refusal schemas (Select selected table filter lock) = on_table (schema_named schemas table) (select_refusal selected filter)
refusal schemas (Insert table columns tuples) = on_table (schema_named schemas table) (insert_refusal columns tuples)
refusal schemas (Update table sets filter) = on_table (schema_named schemas table) (update_refusal sets filter)
refusal schemas (Delete table filter) = on_table (schema_named schemas table) (delete_refusal filter)
refusal schemas (Begin snapshot) = None
refusal schemas Commit = None
refusal schemas Rollback = None
refusal schemas (RollbackTo savepoint) = None
refusal schemas (Savepoint name) = None
refusal schemas (SetAutocommit on) = None
refusal schemas (SetLevel scope level) = None
