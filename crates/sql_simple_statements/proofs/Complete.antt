-- What is spelled so is read: statements with neither conditions nor expressions.
use Rattle.std.proofs.Common.{◌≡◌, ℕ, ◌<◌, ◌≤◌, List, [], ◌∷◌, length, Option, Some, None, Bool, false, Ok, refl, ◌∙◌, arith}
use Rattle.inno_types.specs.declared.lock.Level.{Level}
use Rattle.inno_types.specs.declared.stmt.Comparison.TheVariants.{Equal}
use Rattle.inno_types.specs.declared.stmt.Literal.{Literal}
use Rattle.inno_types.specs.declared.stmt.DeclaredKind.{DeclaredKind}
use Rattle.inno_types.specs.declared.stmt.Definition.{Definition}
use Rattle.inno_types.specs.declared.stmt.Definition.TheVariants as definition
use Rattle.inno_types.specs.declared.stmt.LevelScope.{LevelScope}
use Rattle.inno_types.specs.declared.stmt.LevelScope.TheVariants.{Session, NextTransaction}
use Rattle.inno_types.specs.declared.stmt.Stmt.TheVariants as stmt
use Rattle.sql_grammar.specs.declared.token.Word.TheVariants as word
use Rattle.sql_grammar.specs.declared.token.Token.{Token}
use Rattle.sql_grammar.specs.declared.token.Token.TheVariants.{Key, Bare, Compare, Open, Close, Comma}
use Rattle.sql_grammar.specs.Grammar.{Name, Commas, Tuple, ColumnKind, Nullable, Primary, KeyWord, Bracketed, Define, IfNotExists, Engine, Into, ColumnList, ValuesWord, Work, SavepointWord, Switch, Scope, LevelName}
use Rattle.sql_grammar.specs.Grammar as grammar
use Rattle.sql_conditions.specs.Parts.{name_at, commas_at, read_it}
use Rattle.sql_conditions.proofs.Complete.{name_complete, name_shorter, commas_complete, names_complete, tuples_complete}
use Rattle.sql_simple_statements.specs.Statements as read

-- ---- CREATE TABLE

-- what stands behind a definition
abbrev EndsDefinition : List Token → Type 0
EndsDefinition (Comma ∷ rest) = Unit {0}
EndsDefinition (Close ∷ rest) = Unit {0}
EndsDefinition other = ⊥

kind_complete : {xs ys : List Token} {k : DeclaredKind} → ColumnKind xs k ys → read.kind_at xs ≡ Ok (k, ys)
unfolding read.kind_at
kind_complete grammar.big_int = refl
kind_complete grammar.var_binary = refl

kind_shorter : {xs ys : List Token} {k : DeclaredKind} → ColumnKind xs k ys → length ys < length xs
kind_shorter grammar.big_int = omega arith
kind_shorter grammar.var_binary = omega arith

-- neither NOT nor NULL
abbrev BeginsNoNull : List Token → Type 0
BeginsNoNull [] = Unit {0}
BeginsNoNull (Key word.Not ∷ rest) = ⊥
BeginsNoNull (Key word.Null ∷ rest) = ⊥
BeginsNoNull (other ∷ rest) = Unit {0}

nullable_unsaid : (xs : List Token) → BeginsNoNull xs → read.nullable_at xs ≡ Ok (None, xs)
unfolding read.nullable_at
nullable_unsaid [] h = refl
nullable_unsaid (Key word.Not ∷ rest) h = absurd h
nullable_unsaid (Key word.Null ∷ rest) h = absurd h
nullable_unsaid (other ∷ rest) h = refl

nullable_complete : {xs ys : List Token} {n : Option Bool} → Nullable xs n ys → BeginsNoNull ys → read.nullable_at xs ≡ Ok (n, ys)
unfolding read.nullable_at
nullable_complete {xs = xs} grammar.unsaid h = nullable_unsaid xs h
nullable_complete grammar.not_null h = refl
nullable_complete grammar.null h = refl

nullable_shorter : {xs ys : List Token} {n : Option Bool} → Nullable xs n ys → length ys ≤ length xs
nullable_shorter grammar.unsaid = omega arith
nullable_shorter grammar.not_null = omega arith
nullable_shorter grammar.null = omega arith

primary_unsaid : (xs : List Token) → EndsDefinition xs → read.primary_at xs ≡ Ok (false, xs)
unfolding read.primary_at
primary_unsaid [] h = absurd h
primary_unsaid (Comma ∷ rest) h = refl
primary_unsaid (Close ∷ rest) h = refl
primary_unsaid (other ∷ rest) h = absurd h

primary_complete : {xs ys : List Token} {p : Bool} → Primary xs p ys → EndsDefinition ys → read.primary_at xs ≡ Ok (p, ys)
unfolding read.primary_at
primary_complete {xs = xs} grammar.unsaid h = primary_unsaid xs h
primary_complete grammar.primary h = refl

primary_shorter : {xs ys : List Token} {p : Bool} → Primary xs p ys → length ys ≤ length xs
primary_shorter grammar.unsaid = omega arith
primary_shorter grammar.primary = omega arith

ends_no_null : (xs : List Token) → EndsDefinition xs → BeginsNoNull xs
ends_no_null [] h = tt
ends_no_null (Comma ∷ rest) h = tt
ends_no_null (Close ∷ rest) h = tt
ends_no_null (other ∷ rest) h = absurd h

primary_no_null : {xs ys : List Token} {p : Bool} → Primary xs p ys → EndsDefinition ys → BeginsNoNull xs
primary_no_null {xs = xs} grammar.unsaid h = ends_no_null xs h
primary_no_null grammar.primary h = tt

bracketed_complete : {xs ys : List Token} {name : List ℕ} → Bracketed xs name ys → read.bracketed_at xs ≡ Ok (name, ys)
unfolding read.bracketed_at
bracketed_complete (grammar.bracketed n) = rw (name_complete n) refl

bracketed_shorter : {xs ys : List Token} {name : List ℕ} → Bracketed xs name ys → length ys < length xs
bracketed_shorter (grammar.bracketed n) = omega (arith, name_shorter n)

column_complete : {xs ys zs ws vs : List Token} {name : List ℕ} {k : DeclaredKind} {n : Option Bool} {p : Bool} → Name xs name ys → ColumnKind ys k zs → Nullable zs n ws → Primary ws p vs → EndsDefinition vs → read.column_at xs ≡ Ok (definition.Column name k n p, vs)
unfolding read.column_at
column_complete n k u p h = rw (name_complete n, kind_complete k, nullable_complete u (primary_no_null p h), primary_complete p h) refl

column_defines : {xs ys : List Token} {name : List ℕ} → Name xs name ys → read.define_at xs ≡ read.column_at xs
unfolding read.define_at
column_defines grammar.bare = refl
column_defines grammar.quoted = refl

key_complete : {xs ys : List Token} {column : List ℕ} → Bracketed xs column ys → read.key_at xs ≡ Ok (definition.Key None column, ys)
unfolding read.key_at
key_complete (grammar.bracketed n) = rw (bracketed_complete (grammar.bracketed n)) refl

named_key_complete : {xs ys zs : List Token} {name column : List ℕ} → Name xs name ys → Bracketed ys column zs → read.key_at xs ≡ Ok (definition.Key (Some name) column, zs)
unfolding read.key_at name_at
named_key_complete grammar.bare b = rw (bracketed_complete b) refl
named_key_complete grammar.quoted b = rw (bracketed_complete b) refl

key_defines : {xs ys : List Token} → KeyWord xs ys → read.define_at xs ≡ read.key_at ys
unfolding read.define_at
key_defines grammar.key = refl
key_defines grammar.index = refl

key_shorter : {xs ys : List Token} → KeyWord xs ys → length ys < length xs
key_shorter grammar.key = omega arith
key_shorter grammar.index = omega arith

primary_defines : {xs ys : List Token} {column : List ℕ} → Bracketed xs column ys → read.define_at (Key word.Primary ∷ Key word.Key ∷ xs) ≡ Ok (definition.Primary column, ys)
unfolding read.define_at
primary_defines b = rw (bracketed_complete b) refl

define_complete : {xs ys : List Token} {d : Definition} → Define xs d ys → EndsDefinition ys → read.define_at xs ≡ Ok (d, ys)
define_complete (grammar.column n k u p) h = column_defines n ∙ column_complete n k u p h
define_complete (grammar.primary b) h = primary_defines b
define_complete (grammar.key k b) h = key_defines k ∙ key_complete b
define_complete (grammar.named_key k n b) h = key_defines k ∙ named_key_complete n b

define_shorter : {xs ys : List Token} {d : Definition} → Define xs d ys → length ys < length xs
define_shorter (grammar.column n k u p) = omega (arith, name_shorter n, kind_shorter k, nullable_shorter u, primary_shorter p)
define_shorter (grammar.primary b) = omega (arith, bracketed_shorter b)
define_shorter (grammar.key k b) = omega (arith, key_shorter k, bracketed_shorter b)
define_shorter (grammar.named_key k n b) = omega (arith, key_shorter k, name_shorter n, bracketed_shorter b)

definitions_complete : {xs ys : List Token} {ds : List Definition} → Commas Define xs ds (Close ∷ ys) → commas_at read.define_at xs ≡ Ok (ds, Close ∷ ys)
definitions_complete c = commas_complete read.define_at Define EndsDefinition (λ ys. tt) (λ xs ys a d e. define_complete d e) (λ xs ys a d. define_shorter d) c tt tt

skips_unsaid : {xs ys : List Token} {name : List ℕ} → Name xs name ys → read.if_not_exists_at xs ≡ Ok (false, xs)
unfolding read.if_not_exists_at
skips_unsaid grammar.bare = refl
skips_unsaid grammar.quoted = refl

skips_complete : {xs ys zs : List Token} {skips : Bool} {name : List ℕ} → IfNotExists xs skips ys → Name ys name zs → read.if_not_exists_at xs ≡ Ok (skips, ys)
unfolding read.if_not_exists_at
skips_complete grammar.unsaid n = skips_unsaid n
skips_complete grammar.said n = refl

engine_complete : {xs : List Token} → Engine xs → read.engine_of xs ≡ Ok tt
unfolding read.engine_of read.inno_db_of
engine_complete grammar.unsaid = refl
engine_complete grammar.said = refl
engine_complete grammar.equals = refl

pub create_complete : {xs ys zs ws : List Token} {skips : Bool} {table : List ℕ} {definitions : List Definition} → IfNotExists xs skips ys → Name ys table (Open ∷ zs) → Commas Define zs definitions (Close ∷ ws) → Engine ws → read.create_of xs ≡ Ok (stmt.CreateTable table skips definitions)
unfolding read.create_of
create_complete i n d e = rw (skips_complete i n, name_complete n, definitions_complete d, engine_complete e) refl

-- ---- INSERT

into_unsaid : {xs ys : List Token} {name : List ℕ} → Name xs name ys → read.after_into xs ≡ xs
into_unsaid grammar.bare = refl
into_unsaid grammar.quoted = refl

into_complete : {xs ys zs : List Token} {name : List ℕ} → Into xs ys → Name ys name zs → read.after_into xs ≡ ys
into_complete grammar.unsaid n = into_unsaid n
into_complete grammar.into n = refl

columns_unsaid : {xs ys : List Token} → ValuesWord xs ys → read.columns_at xs ≡ Ok (None, xs)
unfolding read.columns_at
columns_unsaid grammar.values = refl
columns_unsaid grammar.value = refl

columns_complete : {xs ys zs : List Token} {columns : Option (List (List ℕ))} → ColumnList xs columns ys → ValuesWord ys zs → read.columns_at xs ≡ Ok (columns, ys)
unfolding read.columns_at
columns_complete grammar.unsaid v = columns_unsaid v
columns_complete (grammar.listed c) v = rw (names_complete c tt) refl

values_complete : {xs ys : List Token} → ValuesWord xs ys → read.after_values xs ≡ Ok ys
unfolding read.after_values
values_complete grammar.values = refl
values_complete grammar.value = refl

pub insert_complete : {xs ys zs ws vs : List Token} {table : List ℕ} {columns : Option (List (List ℕ))} {tuples : List (List Literal)} → Into xs ys → Name ys table zs → ColumnList zs columns ws → ValuesWord ws vs → Commas Tuple vs tuples [] → read.insert_of xs ≡ Ok (stmt.Insert table columns tuples)
unfolding read.insert_of
insert_complete i n c v t = rw (into_complete i n, name_complete n, columns_complete c v, values_complete v, tuples_complete t tt) refl

-- ---- transactions and settings

work_ends : {xs : List Token} → Work xs [] → read.after_work xs ≡ []
work_ends grammar.unsaid = refl
work_ends grammar.work = refl

work_goes : {xs ys : List Token} → Work xs (Key word.To ∷ ys) → read.after_work xs ≡ Key word.To ∷ ys
work_goes grammar.unsaid = refl
work_goes grammar.work = refl

pub begin_complete : {xs : List Token} → Work xs [] → read.begin_of xs ≡ Ok (stmt.Begin false)
unfolding read.begin_of
begin_complete w = rw (work_ends w) refl

pub commit_complete : {xs : List Token} → Work xs [] → read.commit_of xs ≡ Ok stmt.Commit
unfolding read.commit_of
commit_complete w = rw (work_ends w) refl

name_of_complete : {xs : List Token} {name : List ℕ} → Name xs name [] → read.name_of xs ≡ Ok name
unfolding name_at
name_of_complete grammar.bare = refl
name_of_complete grammar.quoted = refl

-- a bare word alone is a name behind TO, SAVEPOINT too
lone_name : {xs : List Token} {name : List ℕ} → Name xs name [] → (n : List ℕ) × (read.savepoint_of xs ≡ Ok n)
unfolding read.savepoint_of name_at
lone_name (grammar.bare {meaning = None} {name = name}) = (name, refl)
lone_name (grammar.bare {meaning = Some word.Savepoint} {name = name}) = (name, refl)
lone_name (grammar.bare {meaning = Some w} {name = name}) = (name, refl)
lone_name (grammar.quoted {name = name}) = (name, refl)

savepoint_complete : {xs ys : List Token} {name : List ℕ} → SavepointWord xs ys → Name ys name [] → (n : List ℕ) × (read.savepoint_of xs ≡ Ok n)
unfolding read.savepoint_of name_at
savepoint_complete grammar.unsaid n = lone_name n
savepoint_complete grammar.savepoint (grammar.bare {name = name}) = (name, refl)
savepoint_complete grammar.savepoint (grammar.quoted {name = name}) = (name, refl)

pub rollback_complete : {xs : List Token} → Work xs [] → read.rollback_of (read.after_work xs) ≡ Ok stmt.Rollback
unfolding read.rollback_of
rollback_complete w = rw (work_ends w) refl

pub rollback_to_complete : {xs ys zs : List Token} {name : List ℕ} → Work xs (Key word.To ∷ ys) → SavepointWord ys zs → Name zs name [] → read_it (read.rollback_of (read.after_work xs)) ≡ Ok tt
unfolding read.rollback_of
rollback_to_complete w s n = let p = savepoint_complete s n in rw (work_goes w, p.1) refl

pub savepoint_statement_complete : {xs : List Token} {name : List ℕ} → Name xs name [] → read.savepoint_statement_of xs ≡ Ok (stmt.Savepoint name)
unfolding read.savepoint_statement_of
savepoint_statement_complete n = rw (name_of_complete n) refl

switch_complete : {t : Token} {on : Bool} → Switch t on → read.switch_of (t ∷ []) ≡ Ok on
unfolding read.switch_of
switch_complete grammar.zero_digit = refl
switch_complete grammar.one_digit = refl
switch_complete grammar.on = refl
switch_complete grammar.off = refl

autocommit_complete : {t : Token} {on : Bool} → Switch t on → read.autocommit_of (Compare Equal ∷ t ∷ []) ≡ Ok (stmt.SetAutocommit on)
unfolding read.autocommit_of
autocommit_complete s = rw (switch_complete s) refl

level_name_complete : {xs : List Token} {name : Level} → LevelName xs name → read.level_name_of xs ≡ Ok name
unfolding read.level_name_of read.read_level_of
level_name_complete grammar.read_uncommitted = refl
level_name_complete grammar.read_committed = refl
level_name_complete grammar.repeatable_read = refl
level_name_complete grammar.serializable = refl

level_complete : {ys : List Token} {name : Level} → (scope : LevelScope) (a b c : List ℕ) → LevelName ys name → read.level_of scope (Bare (Some word.Transaction) a ∷ Bare (Some word.Isolation) b ∷ Bare (Some word.Level) c ∷ ys) ≡ Ok (stmt.SetLevel scope name)
unfolding read.level_of read.isolation_of read.level_word_of
level_complete scope a b c n = rw (level_name_complete n) refl

pub set_level_complete : {xs ys : List Token} {a b c : List ℕ} {scope : LevelScope} {name : Level} → Scope xs scope (Bare (Some word.Transaction) a ∷ Bare (Some word.Isolation) b ∷ Bare (Some word.Level) c ∷ ys) → LevelName ys name → read.set_of xs ≡ Ok (stmt.SetLevel scope name)
unfolding read.set_of
set_level_complete {a = a} {b = b} {c = c} grammar.next n = level_complete NextTransaction a b c n
set_level_complete {a = a} {b = b} {c = c} grammar.session n = level_complete Session a b c n

pub start_complete : (b : List ℕ) → read_it (read.start_of (Bare (Some word.Transaction) b ∷ [])) ≡ Ok tt
unfolding read.start_of read.snapshot_of
start_complete b = refl

pub start_snapshot_complete : (b c d : List ℕ) → read_it (read.start_of (Bare (Some word.Transaction) b ∷ Key word.With ∷ Bare (Some word.Consistent) c ∷ Bare (Some word.Snapshot) d ∷ [])) ≡ Ok tt
unfolding read.start_of read.snapshot_of read.with_snapshot_of
start_snapshot_complete b c d = refl

pub set_autocommit_complete : (a : List ℕ) {t : Token} {on : Bool} → Switch t on → read_it (read.set_of (Bare (Some word.Autocommit) a ∷ Compare Equal ∷ t ∷ [])) ≡ Ok tt
unfolding read.set_of
set_autocommit_complete a s = rw (autocommit_complete s) refl
