-- What is read is spelled so: statements with neither conditions nor expressions.
use Rattle.std.proofs.Common.{◌≡◌, ℕ, List, [], ◌∷◌, length, Some, None, Bool, true, false, cond, Result, Ok, Err, IfOk, refl, sym, subst}
use Rattle.std.specs.Str.{bytes_eq}
use Rattle.std.proofs.lemmas.Slice.Eq.{bytes_eq-Decides}
use Rattle.inno_types.specs.declared.lock.Level.{Level}
use Rattle.inno_types.specs.declared.lock.Level.TheVariants as level
use Rattle.inno_types.specs.declared.stmt.Comparison.TheVariants.{Equal}
use Rattle.inno_types.specs.declared.stmt.DeclaredKind.TheVariants as kind
use Rattle.inno_types.specs.declared.stmt.Definition.{Definition}
use Rattle.inno_types.specs.declared.stmt.Definition.TheVariants as definition
use Rattle.inno_types.specs.declared.stmt.LevelScope.{LevelScope}
use Rattle.inno_types.specs.declared.stmt.LevelScope.TheVariants.{Session, NextTransaction}
use Rattle.inno_types.specs.declared.stmt.Stmt.{Stmt}
use Rattle.inno_types.specs.declared.stmt.Stmt.TheVariants as stmt
use Rattle.sql_grammar.specs.declared.token.Word.TheVariants as word
use Rattle.sql_grammar.specs.declared.token.Token.{Token}
use Rattle.sql_grammar.specs.declared.token.Token.TheVariants.{Key, Bare, Number, Compare, Open, Close}
use Rattle.sql_grammar.specs.Grammar.{Name, Lit, Commas, Tuple, ColumnKind, Nullable, Primary, KeyWord, Bracketed, Define, IfNotExists, Engine, Into}
use Rattle.sql_grammar.specs.Grammar.{ColumnList, ValuesWord, Work, SavepointWord, Switch, Scope, LevelName, Statement, size_of}
use Rattle.sql_grammar.specs.Grammar as grammar
use Rattle.sql_conditions.specs.Parts.{◌>>=◌, name_at, tuple_at, after_open, after_close, commas_at, end_of, ends_as}
use Rattle.sql_simple_statements.specs.Statements as read
use Rattle.sql_conditions.proofs.Sound.{bind, weaker, name_sound, tuple_sound, items_sound, close_sound, end_sound, ends_sound}

-- ---- CREATE TABLE

kind_sound : (xs : List Token) → IfOk (read.kind_at xs) (λ r. ColumnKind xs r.0 r.1)
unfolding read.kind_at
kind_sound [] = tt
kind_sound (Key word.BigInt ∷ rest) = grammar.big_int
kind_sound (Key word.VarBinary ∷ Open ∷ Number digits ∷ rest) =
    bind (after_close rest) (λ r. Ok (kind.VarBinary (size_of digits), r)) (λ ys. rest ≡ Close ∷ ys)
    (λ r. ColumnKind (Key word.VarBinary ∷ Open ∷ Number digits ∷ rest) r.0 r.1) (close_sound rest)
    (λ ys e. subst (λ (ts : List Token). ColumnKind (Key word.VarBinary ∷ Open ∷ Number digits ∷ ts) (kind.VarBinary (size_of digits)) ys) (sym e)
    grammar.var_binary)
kind_sound (Key word.VarBinary ∷ Open ∷ rest) = tt
kind_sound (Key word.VarBinary ∷ rest) = tt
kind_sound (other ∷ rest) = tt

nullable_sound : (xs : List Token) → IfOk (read.nullable_at xs) (λ r. Nullable xs r.0 r.1)
unfolding read.nullable_at
nullable_sound [] = grammar.unsaid
nullable_sound (Key word.Not ∷ Key word.Null ∷ rest) = grammar.not_null
nullable_sound (Key word.Not ∷ rest) = tt
nullable_sound (Key word.Null ∷ rest) = grammar.null
nullable_sound (other ∷ rest) = grammar.unsaid

primary_sound : (xs : List Token) → IfOk (read.primary_at xs) (λ r. Primary xs r.0 r.1)
unfolding read.primary_at
primary_sound [] = grammar.unsaid
primary_sound (Key word.Primary ∷ Key word.Key ∷ rest) = grammar.primary
primary_sound (Key word.Primary ∷ rest) = tt
primary_sound (other ∷ rest) = grammar.unsaid

bracketed_sound : (xs : List Token) → IfOk (read.bracketed_at xs) (λ r. Bracketed xs r.0 r.1)
unfolding read.bracketed_at
bracketed_sound [] = tt
bracketed_sound (Open ∷ xs) =
    bind (name_at xs) (λ name. after_close name.1 >>= λ r. Ok (name.0, r)) (λ r. Name xs r.0 r.1) (λ r. Bracketed (Open ∷ xs) r.0 r.1) (name_sound xs)
    (λ name n. bind (after_close name.1) (λ r. Ok (name.0, r)) (λ ys. name.1 ≡ Close ∷ ys) (λ r. Bracketed (Open ∷ xs) r.0 r.1) (close_sound name.1)
    (λ ys e. grammar.bracketed (subst (λ (ts : List Token). Name xs name.0 ts) e n)))
bracketed_sound (other ∷ xs) = tt

column_sound : (xs : List Token) → IfOk (read.column_at xs) (λ r. Define xs r.0 r.1)
unfolding read.column_at
column_sound xs =
    let Q = λ (r : Definition × List Token). Define xs r.0 r.1 in
    bind (name_at xs) (λ name. read.kind_at name.1 >>= λ k. read.nullable_at k.1 >>= λ nullable. read.primary_at nullable.1 >>= λ primary.
    Ok (definition.Column name.0 k.0 nullable.0 primary.0, primary.1)) (λ r. Name xs r.0 r.1) Q (name_sound xs)
    (λ name n. bind (read.kind_at name.1) (λ k. read.nullable_at k.1 >>= λ nullable. read.primary_at nullable.1 >>= λ primary.
    Ok (definition.Column name.0 k.0 nullable.0 primary.0, primary.1)) (λ r. ColumnKind name.1 r.0 r.1) Q (kind_sound name.1)
    (λ k c. bind (read.nullable_at k.1) (λ nullable. read.primary_at nullable.1 >>= λ primary. Ok (
      definition.Column name.0 k.0 nullable.0 primary.0,
      primary.1,
    )) (λ r. Nullable k.1 r.0 r.1) Q (nullable_sound k.1)
    (λ nullable u. bind (read.primary_at nullable.1) (λ primary. Ok (definition.Column name.0 k.0 nullable.0 primary.0, primary.1))
    (λ r. Primary nullable.1 r.0 r.1) Q (primary_sound nullable.1)
    (λ primary p. grammar.column n c u p))))

key_sound : (start xs : List Token) → KeyWord start xs → IfOk (read.key_at xs) (λ r. Define start r.0 r.1)
unfolding read.key_at
key_sound start (Open ∷ xs) k =
    bind (read.bracketed_at (Open ∷ xs)) (λ column. Ok (definition.Key None column.0, column.1)) (λ r. Bracketed (Open ∷ xs) r.0 r.1)
    (λ r. Define start r.0 r.1) (bracketed_sound (Open ∷ xs)) (λ column b. grammar.key k b)
key_sound start xs k =
    bind (name_at xs) (λ name. read.bracketed_at name.1 >>= λ column. Ok (definition.Key (Some name.0) column.0, column.1)) (λ r. Name xs r.0 r.1)
    (λ r. Define start r.0 r.1) (name_sound xs)
    (λ name n. bind (read.bracketed_at name.1) (λ column. Ok (definition.Key (Some name.0) column.0, column.1)) (λ r. Bracketed name.1 r.0 r.1)
    (λ r. Define start r.0 r.1) (bracketed_sound name.1) (λ column b. grammar.named_key k n b))

define_sound : (xs : List Token) → IfOk (read.define_at xs) (λ r. Define xs r.0 r.1)
unfolding read.define_at
define_sound (Key word.Primary ∷ Key word.Key ∷ rest) =
    bind (read.bracketed_at rest) (λ column. Ok (definition.Primary column.0, column.1)) (λ r. Bracketed rest r.0 r.1)
    (λ r. Define (Key word.Primary ∷ Key word.Key ∷ rest) r.0 r.1) (bracketed_sound rest) (λ column b. grammar.primary b)
define_sound (Key word.Primary ∷ rest) = tt
define_sound (Key word.Key ∷ rest) = key_sound (Key word.Key ∷ rest) rest grammar.key
define_sound (Key word.Index ∷ rest) = key_sound (Key word.Index ∷ rest) rest grammar.index
define_sound xs = column_sound xs

skips_sound : (xs : List Token) → IfOk (read.if_not_exists_at xs) (λ r. IfNotExists xs r.0 r.1)
unfolding read.if_not_exists_at
skips_sound [] = grammar.unsaid
skips_sound (Key word.If ∷ Key word.Not ∷ Key word.Exists ∷ rest) = grammar.said
skips_sound (Key word.If ∷ Key word.Not ∷ rest) = tt
skips_sound (Key word.If ∷ rest) = tt
skips_sound (other ∷ rest) = grammar.unsaid

open_sound : (xs : List Token) → IfOk (after_open xs) (λ ys. xs ≡ Open ∷ ys)
open_sound [] = tt
open_sound (Open ∷ ys) = refl
open_sound (other ∷ ys) = tt

-- what stands behind the engine's name
none_behind : (P : List Token → Type 0) (xs : List Token) → P [] → IfOk (end_of xs) (λ _. P xs)
none_behind P [] h = h
none_behind P (x ∷ xs) h = tt

inno_db_sound : (a : List ℕ) (xs : List Token) → IfOk (read.inno_db_of xs) (λ _. Engine (Bare (Some word.Engine) a ∷ xs))
unfolding read.inno_db_of
inno_db_sound a [] = tt
inno_db_sound a (Bare (Some word.InnoDb) b ∷ rest) = none_behind (λ ts. Engine (Bare (Some word.Engine) a ∷ Bare (Some word.InnoDb) b ∷ ts)) rest grammar.said
inno_db_sound a (other ∷ rest) = tt

equal_inno_db_sound : (a : List ℕ) (xs : List Token) → IfOk (read.inno_db_of xs) (λ _. Engine (Bare (Some word.Engine) a ∷ Compare Equal ∷ xs))
unfolding read.inno_db_of
equal_inno_db_sound a [] = tt
equal_inno_db_sound a (Bare (Some word.InnoDb) b ∷ rest) =
    none_behind (λ ts. Engine (Bare (Some word.Engine) a ∷ Compare Equal ∷ Bare (Some word.InnoDb) b ∷ ts)) rest grammar.equals
equal_inno_db_sound a (other ∷ rest) = tt

engine_sound : (xs : List Token) → IfOk (read.engine_of xs) (λ _. Engine xs)
unfolding read.engine_of
engine_sound [] = grammar.unsaid
engine_sound (Bare (Some word.Engine) a ∷ Compare Equal ∷ rest) = equal_inno_db_sound a rest
engine_sound (Bare (Some word.Engine) a ∷ rest) = inno_db_sound a rest
engine_sound (other ∷ rest) = tt

pub create_sound : (xs : List Token) → IfOk (read.create_of xs) (λ s. Statement (Key word.Create ∷ Key word.Table ∷ xs) s)
unfolding read.create_of
create_sound xs =
    let Q = λ (s : Stmt). Statement (Key word.Create ∷ Key word.Table ∷ xs) s in
    bind (read.if_not_exists_at xs) (λ skips. name_at skips.1 >>= λ table. after_open table.1 >>= λ inside.
    commas_at read.define_at inside >>= λ definitions. after_close definitions.1 >>= λ rest. read.engine_of rest >>= λ nothing.
    Ok (stmt.CreateTable table.0 skips.0 definitions.0)) (λ r. IfNotExists xs r.0 r.1) Q (skips_sound xs)
    (λ skips i. bind (name_at skips.1) (λ table. after_open table.1 >>= λ inside. commas_at read.define_at inside >>= λ definitions.
    after_close definitions.1 >>= λ rest. read.engine_of rest >>= λ nothing. Ok (stmt.CreateTable table.0 skips.0 definitions.0))
    (λ r. Name skips.1 r.0 r.1) Q (name_sound skips.1)
    (λ table n. bind (after_open table.1) (λ inside. commas_at read.define_at inside >>= λ definitions. after_close definitions.1 >>= λ rest.
    read.engine_of rest >>= λ nothing. Ok (stmt.CreateTable table.0 skips.0 definitions.0)) (λ ys. table.1 ≡ Open ∷ ys) Q (open_sound table.1)
    (λ inside o. bind (commas_at read.define_at inside) (λ definitions. after_close definitions.1 >>= λ rest. read.engine_of rest >>= λ nothing.
    Ok (stmt.CreateTable table.0 skips.0 definitions.0)) (λ r. Commas Define inside r.0 r.1) Q
    (items_sound read.define_at Define define_sound (length inside) inside)
    (λ definitions d. bind (after_close definitions.1) (λ rest. read.engine_of rest >>= λ nothing.
    Ok (stmt.CreateTable table.0 skips.0 definitions.0)) (λ ys. definitions.1 ≡ Close ∷ ys) Q (close_sound definitions.1)
    (λ rest c. bind (read.engine_of rest) (λ nothing. Ok (stmt.CreateTable table.0 skips.0 definitions.0)) (λ _. Engine rest) Q (engine_sound rest)
    (λ nothing e. grammar.create_table i (subst (λ (ts : List Token). Name skips.1 table.0 ts) o n)
    (subst (λ (ts : List Token). Commas Define inside definitions.0 ts) c d) e))))))

table_sound : (xs : List Token) → IfOk (read.after_table xs) (λ ys. xs ≡ Key word.Table ∷ ys)
table_sound [] = tt
table_sound (Key word.Table ∷ ys) = refl
table_sound (other ∷ ys) = tt

pub create_statement_sound : (xs : List Token) → IfOk (read.create_statement_of xs) (λ s. Statement (Key word.Create ∷ xs) s)
unfolding read.create_statement_of
create_statement_sound xs =
    bind (read.after_table xs) (λ rest. read.create_of rest) (λ ys. xs ≡ Key word.Table ∷ ys) (λ s. Statement (Key word.Create ∷ xs) s) (table_sound xs)
    (λ ys e. subst (λ (ts : List Token). IfOk (read.create_of ys) (λ s. Statement (Key word.Create ∷ ts) s)) (sym e) (create_sound ys))

-- ---- INSERT

into_sound : (xs : List Token) → Into xs (read.after_into xs)
into_sound [] = grammar.unsaid
into_sound (Key word.Into ∷ rest) = grammar.into
into_sound (other ∷ rest) = grammar.unsaid

columns_sound : (xs : List Token) → IfOk (read.columns_at xs) (λ r. ColumnList xs r.0 r.1)
unfolding read.columns_at
columns_sound (Open ∷ xs) =
    bind (commas_at name_at xs) (λ names. after_close names.1 >>= λ r. Ok (Some names.0, r)) (λ r. Commas Name xs r.0 r.1)
    (λ r. ColumnList (Open ∷ xs) r.0 r.1) (items_sound name_at Name name_sound (length xs) xs)
    (λ names n. bind (after_close names.1) (λ r. Ok (Some names.0, r)) (λ ys. names.1 ≡ Close ∷ ys) (λ r. ColumnList (Open ∷ xs) r.0 r.1) (close_sound names.1)
    (λ ys e. grammar.listed (subst (λ (ts : List Token). Commas Name xs names.0 ts) e n)))
columns_sound xs = grammar.unsaid

values_sound : (xs : List Token) → IfOk (read.after_values xs) (λ ys. ValuesWord xs ys)
unfolding read.after_values
values_sound [] = tt
values_sound (Key word.Values ∷ rest) = grammar.values
values_sound (Bare (Some word.Value) a ∷ rest) = grammar.value
values_sound (other ∷ rest) = tt

pub insert_sound : (xs : List Token) → IfOk (read.insert_of xs) (λ s. Statement (Key word.Insert ∷ xs) s)
unfolding read.insert_of
insert_sound xs =
    let Q = λ (s : Stmt). Statement (Key word.Insert ∷ xs) s in
    bind (name_at (read.after_into xs)) (λ table. read.columns_at table.1 >>= λ columns. read.after_values columns.1 >>= λ rest.
    commas_at tuple_at rest >>= λ tuples. ends_as (stmt.Insert table.0 columns.0 tuples.0) tuples.1) (λ r. Name (read.after_into xs) r.0 r.1) Q
    (name_sound (read.after_into xs))
    (λ table n. bind (read.columns_at table.1) (λ columns. read.after_values columns.1 >>= λ rest. commas_at tuple_at rest >>= λ tuples.
    ends_as (stmt.Insert table.0 columns.0 tuples.0) tuples.1) (λ r. ColumnList table.1 r.0 r.1) Q (columns_sound table.1)
    (λ columns c. bind (read.after_values columns.1) (λ rest. commas_at tuple_at rest >>= λ tuples.
    ends_as (stmt.Insert table.0 columns.0 tuples.0) tuples.1) (λ ys. ValuesWord columns.1 ys) Q (values_sound columns.1)
    (λ rest v. bind (commas_at tuple_at rest) (λ tuples. ends_as (stmt.Insert table.0 columns.0 tuples.0) tuples.1) (λ r. Commas Tuple rest r.0 r.1) Q
    (items_sound tuple_at Tuple tuple_sound (length rest) rest)
    (λ tuples t. ends_sound (stmt.Insert table.0 columns.0 tuples.0) Q tuples.1
    (λ e. grammar.insert (into_sound xs) n c v (subst (λ (ts : List Token). Commas Tuple rest tuples.0 ts) e t))))))

-- ---- transactions and settings

work_sound : (xs : List Token) → Work xs (read.after_work xs)
work_sound [] = grammar.unsaid
work_sound (Bare (Some word.Work) a ∷ rest) = grammar.work
work_sound (other ∷ rest) = grammar.unsaid

works : (xs : List Token) → read.after_work xs ≡ [] → Work xs []
works xs e = subst (λ (ts : List Token). Work xs ts) e (work_sound xs)

pub begin_sound : (a : List ℕ) (xs : List Token) → IfOk (read.begin_of xs) (λ s. Statement (Bare (Some word.Begin) a ∷ xs) s)
unfolding read.begin_of
begin_sound a xs = bind (end_of (read.after_work xs)) (λ nothing. Ok (stmt.Begin false)) (λ _. read.after_work xs ≡ [])
    (λ s. Statement (Bare (Some word.Begin) a ∷ xs) s) (end_sound (read.after_work xs)) (λ nothing e. grammar.begin (works xs e))

pub commit_sound : (a : List ℕ) (xs : List Token) → IfOk (read.commit_of xs) (λ s. Statement (Bare (Some word.Commit) a ∷ xs) s)
unfolding read.commit_of
commit_sound a xs = bind (end_of (read.after_work xs)) (λ nothing. Ok stmt.Commit) (λ _. read.after_work xs ≡ [])
    (λ s. Statement (Bare (Some word.Commit) a ∷ xs) s) (end_sound (read.after_work xs)) (λ nothing e. grammar.commit (works xs e))

with_snapshot_sound : (a b : List ℕ) (xs : List Token)
    → IfOk (read.with_snapshot_of xs) (λ s. Statement (Bare (Some word.Start) a ∷ Bare (Some word.Transaction) b ∷ Key word.With ∷ xs) s)
unfolding read.with_snapshot_of
with_snapshot_sound a b [] = tt
with_snapshot_sound a b (Bare (Some word.Consistent) c ∷ Bare (Some word.Snapshot) d ∷ rest) =
    ends_sound (stmt.Begin true)
    (λ s. Statement (Bare (Some word.Start) a ∷ Bare (Some word.Transaction) b ∷ Key word.With ∷ Bare (Some word.Consistent) c ∷ Bare
    (Some word.Snapshot) d ∷ rest) s) rest
    (λ e. subst (λ (ts : List Token).
    Statement (Bare (Some word.Start) a ∷ Bare (Some word.Transaction) b ∷ Key word.With ∷ Bare (Some word.Consistent) c ∷ Bare
    (Some word.Snapshot) d ∷ ts) (stmt.Begin true)) (sym e) grammar.start_snapshot)
with_snapshot_sound a b (Bare (Some word.Consistent) c ∷ rest) = tt
with_snapshot_sound a b (other ∷ rest) = tt

snapshot_sound : (a b : List ℕ) (xs : List Token)
    → IfOk (read.snapshot_of xs) (λ s. Statement (Bare (Some word.Start) a ∷ Bare (Some word.Transaction) b ∷ xs) s)
unfolding read.snapshot_of
snapshot_sound a b [] = grammar.start
snapshot_sound a b (Key word.With ∷ rest) = with_snapshot_sound a b rest
snapshot_sound a b (other ∷ rest) = tt

pub start_sound : (a : List ℕ) (xs : List Token) → IfOk (read.start_of xs) (λ s. Statement (Bare (Some word.Start) a ∷ xs) s)
unfolding read.start_of
start_sound a [] = tt
start_sound a (Bare (Some word.Transaction) b ∷ rest) = snapshot_sound a b rest
start_sound a (other ∷ rest) = tt

name_of_sound : (xs : List Token) → IfOk (read.name_of xs) (λ name. Name xs name [])
name_of_sound xs =
    bind (name_at xs) (λ name. ends_as name.0 name.1) (λ r. Name xs r.0 r.1) (λ name. Name xs name []) (name_sound xs)
    (λ name n. ends_sound name.0 (λ name. Name xs name []) name.1 (λ e. subst (λ (ts : List Token). Name xs name.0 ts) e n))

pub savepoint_statement_sound : (a : List ℕ) (xs : List Token) → IfOk (read.savepoint_statement_of xs) (λ s. Statement (Bare (Some word.Savepoint) a ∷ xs) s)
unfolding read.savepoint_statement_of
savepoint_statement_sound a xs =
    bind (read.name_of xs) (λ name. Ok (stmt.Savepoint name)) (λ name. Name xs name []) (λ s. Statement (Bare (Some word.Savepoint) a ∷ xs) s)
    (name_of_sound xs) (λ name n. grammar.savepoint n)

-- a savepoint's name behind TO
record SavepointName (xs : List Token) (name : List ℕ) : Type 0 where
  rest : List Token
  front : SavepointWord xs rest
  named : Name rest name []

savepoint_sound : (xs : List Token) → IfOk (read.savepoint_of xs) (λ name. SavepointName xs name)
unfolding read.savepoint_of
savepoint_sound (Bare (Some word.Savepoint) a ∷ []) = record { rest = Bare (Some word.Savepoint) a ∷ []; front = grammar.unsaid; named = grammar.bare }
savepoint_sound (Bare (Some word.Savepoint) a ∷ x ∷ rest) =
    weaker (read.name_of (x ∷ rest)) (λ name. Name (x ∷ rest) name []) (λ name. SavepointName (Bare (Some word.Savepoint) a ∷ x ∷ rest) name)
    (name_of_sound (x ∷ rest)) (λ name n. record { rest = x ∷ rest; front = grammar.savepoint; named = n })
savepoint_sound xs =
    weaker (read.name_of xs) (λ name. Name xs name []) (λ name. SavepointName xs name) (name_of_sound xs)
    (λ name n. record { rest = xs; front = grammar.unsaid; named = n })

rollback_to_sound : (a : List ℕ) (start xs : List Token) → Work start xs → IfOk (read.rollback_of xs) (λ s. Statement (Bare (Some word.Rollback) a ∷ start) s)
unfolding read.rollback_of
rollback_to_sound a start [] w = grammar.rollback w
rollback_to_sound a start (Key word.To ∷ rest) w =
    bind (read.savepoint_of rest) (λ name. Ok (stmt.RollbackTo name)) (λ name. SavepointName rest name)
    (λ s. Statement (Bare (Some word.Rollback) a ∷ start) s) (savepoint_sound rest) (λ name n. grammar.rollback_to w n.front n.named)
rollback_to_sound a start (other ∷ rest) w = tt

pub rollback_sound : (a : List ℕ) (xs : List Token) → IfOk (read.rollback_of (read.after_work xs)) (λ s. Statement (Bare (Some word.Rollback) a ∷ xs) s)
rollback_sound a xs = rollback_to_sound a xs (read.after_work xs) (work_sound xs)

-- the digits are those of a number, or not
test_sound : {A : Type 0} (t : Bool) (x y : Result A (List Token)) (P : A → Type 0) → (t ≡ true → IfOk x P) → IfOk y P → IfOk (cond t x y) P
test_sound true x y P h k = h refl
test_sound false x y P h k = k

switch_sound : (a : List ℕ) (xs : List Token)
    → IfOk (read.switch_of xs) (λ on. Statement (Key word.Set ∷ Bare (Some word.Autocommit) a ∷ Compare Equal ∷ xs) (stmt.SetAutocommit on))
unfolding read.switch_of
switch_sound a [] = tt
switch_sound a (Number digits ∷ rest) =
    let P = λ (on : Bool). Statement (Key word.Set ∷ Bare (Some word.Autocommit) a ∷ Compare Equal ∷ Number digits ∷ rest) (stmt.SetAutocommit on) in
    test_sound (bytes_eq digits (48 ∷ [])) (ends_as false rest) (cond (bytes_eq digits (49 ∷ [])) (ends_as true rest) (Err (Number digits ∷ rest))) P
    (λ t. ends_sound false P rest (λ e. let d = (bytes_eq-Decides digits (48 ∷ [])).0 t in
    subst (λ (ds : List ℕ). Statement (Key word.Set ∷ Bare (Some word.Autocommit) a ∷ Compare Equal ∷ Number ds ∷ rest) (stmt.SetAutocommit false)) (sym d)
    (subst (λ (ts : List Token). Statement (Key word.Set ∷ Bare (Some word.Autocommit) a ∷ Compare Equal ∷ Number (48 ∷ []) ∷ ts)
    (stmt.SetAutocommit false)) (sym e) (grammar.set_autocommit grammar.zero_digit))))
    (test_sound (bytes_eq digits (49 ∷ [])) (ends_as true rest) (Err (Number digits ∷ rest)) P
    (λ t. ends_sound true P rest (λ e. let d = (bytes_eq-Decides digits (49 ∷ [])).0 t in
    subst (λ (ds : List ℕ). Statement (Key word.Set ∷ Bare (Some word.Autocommit) a ∷ Compare Equal ∷ Number ds ∷ rest) (stmt.SetAutocommit true)) (sym d)
    (subst (λ (ts : List Token). Statement (Key word.Set ∷ Bare (Some word.Autocommit) a ∷ Compare Equal ∷ Number (49 ∷ []) ∷ ts)
    (stmt.SetAutocommit true)) (sym e) (grammar.set_autocommit grammar.one_digit))))
    tt)
switch_sound a (Bare (Some word.On) b ∷ rest) =
    ends_sound true (λ on. Statement (Key word.Set ∷ Bare (Some word.Autocommit) a ∷ Compare Equal ∷ Bare (Some word.On) b ∷ rest) (stmt.SetAutocommit on)) rest
    (λ e. subst (λ (ts : List Token). Statement (Key word.Set ∷ Bare (Some word.Autocommit) a ∷ Compare Equal ∷ Bare (Some word.On) b ∷ ts)
    (stmt.SetAutocommit true)) (sym e) (grammar.set_autocommit grammar.on))
switch_sound a (Bare (Some word.Off) b ∷ rest) =
    ends_sound false (λ on. Statement (Key word.Set ∷ Bare (Some word.Autocommit) a ∷ Compare Equal ∷ Bare (Some word.Off) b ∷ rest)
    (stmt.SetAutocommit on)) rest
    (λ e. subst (λ (ts : List Token). Statement (Key word.Set ∷ Bare (Some word.Autocommit) a ∷ Compare Equal ∷ Bare (Some word.Off) b ∷ ts)
    (stmt.SetAutocommit false)) (sym e) (grammar.set_autocommit grammar.off))
switch_sound a (other ∷ rest) = tt

autocommit_sound : (a : List ℕ) (xs : List Token) → IfOk (read.autocommit_of xs) (λ s. Statement (Key word.Set ∷ Bare (Some word.Autocommit) a ∷ xs) s)
unfolding read.autocommit_of
autocommit_sound a [] = tt
autocommit_sound a (Compare Equal ∷ rest) =
    bind (read.switch_of rest) (λ on. Ok (stmt.SetAutocommit on))
    (λ on. Statement (Key word.Set ∷ Bare (Some word.Autocommit) a ∷ Compare Equal ∷ rest) (stmt.SetAutocommit on))
    (λ s. Statement (Key word.Set ∷ Bare (Some word.Autocommit) a ∷ Compare Equal ∷ rest) s) (switch_sound a rest) (λ on h. h)
autocommit_sound a (other ∷ rest) = tt

ends_level : (front : List Token → List Token) (l : Level) (rest : List Token) → LevelName (front []) l
    → IfOk (ends_as l rest) (λ name. LevelName (front rest) name)
ends_level front l [] h = h
ends_level front l (x ∷ rest) h = tt

read_level_sound : (a : List ℕ) (xs : List Token) → IfOk (read.read_level_of xs) (λ name. LevelName (Bare (Some word.Read) a ∷ xs) name)
unfolding read.read_level_of
read_level_sound a [] = tt
read_level_sound a (Bare (Some word.Uncommitted) b ∷ rest) =
    ends_level (λ ts. Bare (Some word.Read) a ∷ Bare (Some word.Uncommitted) b ∷ ts) level.ReadUncommitted rest grammar.read_uncommitted
read_level_sound a (Bare (Some word.Committed) b ∷ rest) =
    ends_level (λ ts. Bare (Some word.Read) a ∷ Bare (Some word.Committed) b ∷ ts) level.ReadCommitted rest grammar.read_committed
read_level_sound a (other ∷ rest) = tt

level_name_sound : (xs : List Token) → IfOk (read.level_name_of xs) (λ name. LevelName xs name)
unfolding read.level_name_of
level_name_sound [] = tt
level_name_sound (Bare (Some word.Read) a ∷ rest) = read_level_sound a rest
level_name_sound (Bare (Some word.Repeatable) a ∷ Bare (Some word.Read) b ∷ rest) =
    ends_level (λ ts. Bare (Some word.Repeatable) a ∷ Bare (Some word.Read) b ∷ ts) level.RepeatableRead rest grammar.repeatable_read
level_name_sound (Bare (Some word.Repeatable) a ∷ rest) = tt
level_name_sound (Bare (Some word.Serializable) a ∷ rest) = ends_level (λ ts. Bare (Some word.Serializable) a ∷ ts) level.Serializable rest grammar.serializable
level_name_sound (other ∷ rest) = tt

level_word_sound : (start : List Token) (scope : LevelScope) (a b : List ℕ) (xs : List Token)
    → Scope start scope (Bare (Some word.Transaction) a ∷ Bare (Some word.Isolation) b ∷ xs)
    → IfOk (read.level_word_of scope xs) (λ s. Statement (Key word.Set ∷ start) s)
unfolding read.level_word_of
level_word_sound start scope a b [] h = tt
level_word_sound start scope a b (Bare (Some word.Level) c ∷ rest) h =
    bind (read.level_name_of rest) (λ name. Ok (stmt.SetLevel scope name)) (λ name. LevelName rest name) (λ s. Statement (Key word.Set ∷ start) s)
    (level_name_sound rest) (λ name n. grammar.set_level h n)
level_word_sound start scope a b (other ∷ rest) h = tt

isolation_sound : (start : List Token) (scope : LevelScope) (a : List ℕ) (xs : List Token) → Scope start scope (Bare (Some word.Transaction) a ∷ xs)
    → IfOk (read.isolation_of scope xs) (λ s. Statement (Key word.Set ∷ start) s)
unfolding read.isolation_of
isolation_sound start scope a [] h = tt
isolation_sound start scope a (Bare (Some word.Isolation) b ∷ rest) h = level_word_sound start scope a b rest h
isolation_sound start scope a (other ∷ rest) h = tt

level_sound : (start : List Token) (scope : LevelScope) (xs : List Token) → Scope start scope xs
    → IfOk (read.level_of scope xs) (λ s. Statement (Key word.Set ∷ start) s)
unfolding read.level_of
level_sound start scope [] h = tt
level_sound start scope (Bare (Some word.Transaction) a ∷ rest) h = isolation_sound start scope a rest h
level_sound start scope (other ∷ rest) h = tt

pub set_sound : (xs : List Token) → IfOk (read.set_of xs) (λ s. Statement (Key word.Set ∷ xs) s)
unfolding read.set_of
set_sound (Bare (Some word.Autocommit) a ∷ rest) = autocommit_sound a rest
set_sound (Bare (Some word.Session) a ∷ rest) = level_sound (Bare (Some word.Session) a ∷ rest) Session rest grammar.session
set_sound xs = level_sound xs NextTransaction xs grammar.next
