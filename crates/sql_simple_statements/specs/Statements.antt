-- Reading statements from left to right, where neither a condition nor an expression stands in them.
use Rattle.std.specs.Prelude.{ℕ, List, [], ◌∷◌, Option, Some, None, Bool, true, false, Result, Ok, Err, if◌then◌else◌}
use Rattle.std.specs.Str.{bytes_eq}
use Rattle.inno_types.specs.declared.lock.Level.{Level}
use Rattle.inno_types.specs.declared.lock.Level.TheVariants as level
use Rattle.inno_types.specs.declared.stmt.Comparison.TheVariants.{Equal}
use Rattle.inno_types.specs.declared.stmt.DeclaredKind.{DeclaredKind}
use Rattle.inno_types.specs.declared.stmt.DeclaredKind.TheVariants as kind
use Rattle.inno_types.specs.declared.stmt.Definition.{Definition}
use Rattle.inno_types.specs.declared.stmt.Definition.TheVariants as definition
use Rattle.inno_types.specs.declared.stmt.LevelScope.{LevelScope}
use Rattle.inno_types.specs.declared.stmt.LevelScope.TheVariants.{Session, NextTransaction}
use Rattle.inno_types.specs.declared.stmt.Stmt.{Stmt}
use Rattle.inno_types.specs.declared.stmt.Stmt.TheVariants as stmt
use Rattle.sql_grammar.specs.declared.token.Word.TheVariants as word
use Rattle.sql_grammar.specs.declared.token.Token.{Token}
use Rattle.sql_grammar.specs.declared.token.Token.TheVariants.{Key, Bare, Number, Compare, Open}
use Rattle.sql_grammar.specs.Grammar.{size_of}
use Rattle.sql_conditions.specs.Parts.{Read, ◌>>=◌, name_at, tuple_at, commas_at, after_open, after_close, end_of, ends_as}

-- ---- CREATE TABLE

-- behind VARBINARY and an opening bracket
abbrev pub sized_at : List Token → Read DeclaredKind
sized_at (Number digits ∷ rest) = after_close rest >>= λ r. Ok (kind.VarBinary (size_of digits), r)
sized_at rest = Err rest

-- behind VARBINARY
abbrev pub var_binary_at : List Token → Read DeclaredKind
var_binary_at (Open ∷ rest) = sized_at rest
var_binary_at rest = Err rest

unfoldable pub kind_at : List Token → Read DeclaredKind
kind_at (Key word.BigInt ∷ rest) = Ok (kind.BigInt, rest)
kind_at (Key word.VarBinary ∷ rest) = var_binary_at rest
kind_at tokens = Err tokens

-- behind NOT
abbrev pub not_null_at : List Token → Read (Option Bool)
not_null_at (Key word.Null ∷ rest) = Ok (Some false, rest)
not_null_at rest = Err rest

unfoldable pub nullable_at : List Token → Read (Option Bool)
nullable_at (Key word.Not ∷ rest) = not_null_at rest
nullable_at (Key word.Null ∷ rest) = Ok (Some true, rest)
nullable_at rest = Ok (None, rest)

-- behind PRIMARY
abbrev pub primary_key_at : List Token → Read Bool
primary_key_at (Key word.Key ∷ rest) = Ok (true, rest)
primary_key_at rest = Err rest

unfoldable pub primary_at : List Token → Read Bool
primary_at (Key word.Primary ∷ rest) = primary_key_at rest
primary_at rest = Ok (false, rest)

unfoldable pub bracketed_at : List Token → Read (List ℕ)
bracketed_at tokens = after_open tokens >>= λ inside. name_at inside >>= λ name. after_close name.1 >>= λ r. Ok (name.0, r)

unfoldable pub column_at : List Token → Read Definition
column_at tokens = do
  name ← name_at tokens
  k ← kind_at name.1
  nullable ← nullable_at k.1
  primary ← primary_at nullable.1
  Ok (definition.Column name.0 k.0 nullable.0 primary.0, primary.1)

unfoldable pub key_at : List Token → Read Definition
key_at (Open ∷ rest) = bracketed_at (Open ∷ rest) >>= λ column. Ok (definition.Key None column.0, column.1)
key_at rest = do
  name ← name_at rest
  column ← bracketed_at name.1
  Ok (definition.Key (Some name.0) column.0, column.1)

-- behind PRIMARY, where it is a definition of its own
abbrev pub primary_column_at : List Token → Read Definition
primary_column_at tokens = primary_key_at tokens >>= λ said. bracketed_at said.1 >>= λ column. Ok (definition.Primary column.0, column.1)

unfoldable pub define_at : List Token → Read Definition
define_at (Key word.Primary ∷ rest) = primary_column_at rest
define_at (Key word.Key ∷ rest) = key_at rest
define_at (Key word.Index ∷ rest) = key_at rest
define_at tokens = column_at tokens

-- behind IF NOT
abbrev pub exists_at : List Token → Read Bool
exists_at (Key word.Exists ∷ rest) = Ok (true, rest)
exists_at rest = Err rest

-- behind IF
abbrev pub not_exists_at : List Token → Read Bool
not_exists_at (Key word.Not ∷ rest) = exists_at rest
not_exists_at rest = Err rest

unfoldable pub if_not_exists_at : List Token → Read Bool
if_not_exists_at (Key word.If ∷ rest) = not_exists_at rest
if_not_exists_at rest = Ok (false, rest)

unfoldable pub inno_db_of : List Token → Result (Unit {0}) (List Token)
inno_db_of (Bare (Some word.InnoDb) a ∷ rest) = end_of rest
inno_db_of rest = Err rest

unfoldable pub engine_of : List Token → Result (Unit {0}) (List Token)
engine_of [] = Ok tt
engine_of (Bare (Some word.Engine) a ∷ Compare Equal ∷ rest) = inno_db_of rest
engine_of (Bare (Some word.Engine) a ∷ rest) = inno_db_of rest
engine_of rest = Err rest

unfoldable pub create_of : List Token → Result Stmt (List Token)
create_of tokens = do
  skips ← if_not_exists_at tokens
  table ← name_at skips.1
  inside ← after_open table.1
  definitions ← commas_at define_at inside
  rest ← after_close definitions.1
  nothing ← engine_of rest
  Ok (stmt.CreateTable table.0 skips.0 definitions.0)

abbrev pub after_table : List Token → Result (List Token) (List Token)
after_table (Key word.Table ∷ rest) = Ok rest
after_table rest = Err rest

unfoldable pub create_statement_of : List Token → Result Stmt (List Token)
create_statement_of tokens = after_table tokens >>= λ rest. create_of rest

-- ---- INSERT

abbrev pub after_into : List Token → List Token
after_into (Key word.Into ∷ rest) = rest
after_into rest = rest

-- behind the opening bracket
abbrev pub listed_at : List Token → Read (Option (List (List ℕ)))
listed_at tokens = commas_at name_at tokens >>= λ names. after_close names.1 >>= λ r. Ok (Some names.0, r)

unfoldable pub columns_at : List Token → Read (Option (List (List ℕ)))
columns_at (Open ∷ rest) = listed_at rest
columns_at rest = Ok (None, rest)

unfoldable pub after_values : List Token → Result (List Token) (List Token)
after_values (Key word.Values ∷ rest) = Ok rest
after_values (Bare (Some word.Value) a ∷ rest) = Ok rest
after_values rest = Err rest

unfoldable pub insert_of : List Token → Result Stmt (List Token)
insert_of tokens = do
  table ← name_at (after_into tokens)
  columns ← columns_at table.1
  rest ← after_values columns.1
  tuples ← commas_at tuple_at rest
  ends_as (stmt.Insert table.0 columns.0 tuples.0) tuples.1

-- ---- transactions and settings

abbrev pub after_work : List Token → List Token
after_work (Bare (Some word.Work) a ∷ rest) = rest
after_work rest = rest

unfoldable pub begin_of : List Token → Result Stmt (List Token)
begin_of rest = end_of (after_work rest) >>= λ nothing. Ok (stmt.Begin false)

unfoldable pub commit_of : List Token → Result Stmt (List Token)
commit_of rest = end_of (after_work rest) >>= λ nothing. Ok stmt.Commit

-- behind WITH CONSISTENT
abbrev pub consistent_of : List Token → Result Stmt (List Token)
consistent_of (Bare (Some word.Snapshot) a ∷ rest) = ends_as (stmt.Begin true) rest
consistent_of rest = Err rest

-- behind WITH
unfoldable pub with_snapshot_of : List Token → Result Stmt (List Token)
with_snapshot_of (Bare (Some word.Consistent) a ∷ rest) = consistent_of rest
with_snapshot_of rest = Err rest

unfoldable pub snapshot_of : List Token → Result Stmt (List Token)
snapshot_of [] = Ok (stmt.Begin false)
snapshot_of (Key word.With ∷ rest) = with_snapshot_of rest
snapshot_of rest = Err rest

unfoldable pub start_of : List Token → Result Stmt (List Token)
start_of (Bare (Some word.Transaction) a ∷ rest) = snapshot_of rest
start_of rest = Err rest

abbrev pub name_of : List Token → Result (List ℕ) (List Token)
name_of tokens = name_at tokens >>= λ name. ends_as name.0 name.1

unfoldable pub savepoint_statement_of : List Token → Result Stmt (List Token)
savepoint_statement_of rest = name_of rest >>= λ name. Ok (stmt.Savepoint name)

-- behind TO: a lone SAVEPOINT is a name
unfoldable pub savepoint_of : List Token → Result (List ℕ) (List Token)
savepoint_of (Bare (Some word.Savepoint) a ∷ []) = Ok a
savepoint_of (Bare (Some word.Savepoint) a ∷ rest) = name_of rest
savepoint_of rest = name_of rest

-- behind TO
abbrev pub rollback_to_of : List Token → Result Stmt (List Token)
rollback_to_of rest = savepoint_of rest >>= λ name. Ok (stmt.RollbackTo name)

unfoldable pub rollback_of : List Token → Result Stmt (List Token)
rollback_of [] = Ok stmt.Rollback
rollback_of (Key word.To ∷ rest) = rollback_to_of rest
rollback_of rest = Err rest

unfoldable pub switch_of : List Token → Result Bool (List Token)
switch_of (Number digits ∷ rest) =
    if bytes_eq digits (48 ∷ []) then ends_as false rest
    else (if bytes_eq digits (49 ∷ []) then ends_as true rest
    else Err (Number digits ∷ rest))
switch_of (Bare (Some word.On) a ∷ rest) = ends_as true rest
switch_of (Bare (Some word.Off) a ∷ rest) = ends_as false rest
switch_of rest = Err rest

abbrev pub set_autocommit_of : List Token → Result Stmt (List Token)
set_autocommit_of rest = switch_of rest >>= λ on. Ok (stmt.SetAutocommit on)

unfoldable pub autocommit_of : List Token → Result Stmt (List Token)
autocommit_of (Compare Equal ∷ rest) = set_autocommit_of rest
autocommit_of rest = Err rest

-- behind READ
unfoldable pub read_level_of : List Token → Result Level (List Token)
read_level_of (Bare (Some word.Uncommitted) a ∷ rest) = ends_as level.ReadUncommitted rest
read_level_of (Bare (Some word.Committed) a ∷ rest) = ends_as level.ReadCommitted rest
read_level_of rest = Err rest

-- behind REPEATABLE
abbrev pub repeatable_of : List Token → Result Level (List Token)
repeatable_of (Bare (Some word.Read) a ∷ rest) = ends_as level.RepeatableRead rest
repeatable_of rest = Err rest

unfoldable pub level_name_of : List Token → Result Level (List Token)
level_name_of (Bare (Some word.Read) a ∷ rest) = read_level_of rest
level_name_of (Bare (Some word.Repeatable) a ∷ rest) = repeatable_of rest
level_name_of (Bare (Some word.Serializable) a ∷ rest) = ends_as level.Serializable rest
level_name_of rest = Err rest

abbrev pub set_level_of : LevelScope → List Token → Result Stmt (List Token)
set_level_of scope rest = level_name_of rest >>= λ name. Ok (stmt.SetLevel scope name)

unfoldable pub level_word_of : LevelScope → List Token → Result Stmt (List Token)
level_word_of scope (Bare (Some word.Level) a ∷ rest) = set_level_of scope rest
level_word_of scope rest = Err rest

unfoldable pub isolation_of : LevelScope → List Token → Result Stmt (List Token)
isolation_of scope (Bare (Some word.Isolation) a ∷ rest) = level_word_of scope rest
isolation_of scope rest = Err rest

unfoldable pub level_of : LevelScope → List Token → Result Stmt (List Token)
level_of scope (Bare (Some word.Transaction) a ∷ rest) = isolation_of scope rest
level_of scope rest = Err rest

unfoldable pub set_of : List Token → Result Stmt (List Token)
set_of (Bare (Some word.Autocommit) a ∷ rest) = autocommit_of rest
set_of (Bare (Some word.Session) a ∷ rest) = level_of Session rest
set_of rest = level_of NextTransaction rest
