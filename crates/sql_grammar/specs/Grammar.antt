-- Which tokens spell which statement. Most facts read: tokens begin with such a part, and the rest follows it.
use Rattle.std.specs.Prelude.{ℕ, ◌+◌, ◌-◌, ◌*◌, ◌^◌, List, [], ◌∷◌, Option, Some, None, Bool, true, false, nat_lt, nat_le, if◌then◌else◌, pos, neg_ℤ}
use Rattle.std.specs.List.{fold}
use Rattle.inno_types.specs.declared.lock.Mode.{Mode}
use Rattle.inno_types.specs.declared.lock.Mode.TheVariants.{S, X}
use Rattle.inno_types.specs.declared.lock.Level.{Level}
use Rattle.inno_types.specs.declared.lock.Level.TheVariants as level
use Rattle.inno_types.specs.declared.stmt.Comparison.TheVariants.{Equal}
use Rattle.inno_types.specs.declared.stmt.Literal.{Literal}
use Rattle.inno_types.specs.declared.stmt.Literal.TheVariants as literal
use Rattle.inno_types.specs.declared.stmt.Operand.{Operand}
use Rattle.inno_types.specs.declared.stmt.Operand.TheVariants as operand
use Rattle.inno_types.specs.declared.stmt.Filter.{Filter}
use Rattle.inno_types.specs.declared.stmt.Filter.TheVariants as filter
use Rattle.inno_types.specs.declared.stmt.Expr.{Expr}
use Rattle.inno_types.specs.declared.stmt.Expr.TheVariants as expr
use Rattle.inno_types.specs.declared.stmt.Set.{Set}
use Rattle.inno_types.specs.declared.stmt.DeclaredKind.{DeclaredKind}
use Rattle.inno_types.specs.declared.stmt.DeclaredKind.TheVariants as kind
use Rattle.inno_types.specs.declared.stmt.Definition.{Definition}
use Rattle.inno_types.specs.declared.stmt.Definition.TheVariants as definition
use Rattle.inno_types.specs.declared.stmt.Selected.{Selected}
use Rattle.inno_types.specs.declared.stmt.Selected.TheVariants.{AllColumns, Columns}
use Rattle.inno_types.specs.declared.stmt.LevelScope.{LevelScope}
use Rattle.inno_types.specs.declared.stmt.LevelScope.TheVariants.{Session, NextTransaction}
use Rattle.inno_types.specs.declared.stmt.Stmt.{Stmt}
use Rattle.inno_types.specs.declared.stmt.Stmt.TheVariants as stmt
use Rattle.sql_grammar.specs.declared.token.Word.{Word}
use Rattle.sql_grammar.specs.declared.token.Word.TheVariants as word
use Rattle.sql_grammar.specs.declared.token.Token.{Token}
use Rattle.sql_grammar.specs.declared.token.Token.TheVariants.{Key, Bare, Quoted, Number, Text, Compare, Open, Close, Comma, Star, Plus, Minus}
use Rattle.sql_grammar.specs.Tokens.{AreTokens}

-- ---- names, literals and lists

-- a bare word that isn't reserved, or a quoted name
pub data Name : List Token → List ℕ → List Token → Type 0 where
  bare : {meaning : Option Word} {name : List ℕ} {rest : List Token} → Name (Bare meaning name ∷ rest) name rest
  quoted : {name : List ℕ} {rest : List Token} → Name (Quoted name ∷ rest) name rest

-- the number that decimal digits stand for
abbrev pub number_of : List ℕ → ℕ
number_of digits = fold (λ n digit. 10 * n + (digit - 48)) 0 digits

-- the number as it stands, where 64 bits have it
unfoldable pub plain_number : List ℕ → Literal
plain_number digits = if nat_lt (number_of digits) (2 ^ 63) then literal.Int (pos (number_of digits)) else literal.TooBig

-- the number with a minus before it, where 64 bits have it
unfoldable pub negative_number : List ℕ → Literal
negative_number digits = if nat_le (number_of digits) (2 ^ 63) then literal.Int (neg_ℤ (pos (number_of digits))) else literal.TooBig

-- lit = ["-"] number | text | NULL
pub data Lit : List Token → Literal → List Token → Type 0 where
  number : {digits : List ℕ} {rest : List Token} → Lit (Number digits ∷ rest) (plain_number digits) rest
  negative : {digits : List ℕ} {rest : List Token} → Lit (Minus ∷ Number digits ∷ rest) (negative_number digits) rest
  text : {bytes : List ℕ} {rest : List Token} → Lit (Text bytes ∷ rest) (literal.Text bytes) rest
  null : {rest : List Token} → Lit (Key word.Null ∷ rest) literal.Null rest

-- item {"," item}
pub data Commas {A : Type 0} (Item : List Token → A → List Token → Type 0) : List Token → List A → List Token → Type 0 where
  last : {xs ys : List Token} {a : A} → Item xs a ys → Commas Item xs (a ∷ []) ys
  more : {xs ys zs : List Token} {a : A} {others : List A} → Item xs a (Comma ∷ ys) → Commas Item ys others zs → Commas Item xs (a ∷ others) zs

-- tuple = "(" lit {"," lit} ")"
pub data Tuple : List Token → List Literal → List Token → Type 0 where
  tuple : {xs ys : List Token} {literals : List Literal} → Commas Lit xs literals (Close ∷ ys) → Tuple (Open ∷ xs) literals ys

-- ---- conditions

-- oper = lit | name
pub data Oper : List Token → Operand → List Token → Type 0 where
  of_literal : {xs ys : List Token} {value : Literal} → Lit xs value ys → Oper xs (operand.Literal value) ys
  of_column : {xs ys : List Token} {name : List ℕ} → Name xs name ys → Oper xs (operand.Column name) ys

-- atom = oper comparison oper | name [NOT] BETWEEN lit AND lit | name [NOT] IN "(" lit {"," lit} ")" | name IS [NOT] NULL
pub data Atom : List Token → Filter → List Token → Type 0 where
  compare : {xs ys zs : List Token} {left right : Operand} {how : _} → Oper xs left (Compare how ∷ ys) → Oper ys right zs → Atom xs (filter.Compare left how right) zs
  between : {xs ys zs ws : List Token} {name : List ℕ} {low high : Literal} → Name xs name (Key word.Between ∷ ys) → Lit ys low (Key word.And ∷ zs) → Lit zs high ws → Atom xs (filter.Between name false low high) ws
  not_between : {xs ys zs ws : List Token} {name : List ℕ} {low high : Literal} → Name xs name (Key word.Not ∷ Key word.Between ∷ ys) → Lit ys low (Key word.And ∷ zs) → Lit zs high ws → Atom xs (filter.Between name true low high) ws
  among : {xs ys zs : List Token} {name : List ℕ} {literals : List Literal} → Name xs name (Key word.In ∷ ys) → Tuple ys literals zs → Atom xs (filter.In name false literals) zs
  not_among : {xs ys zs : List Token} {name : List ℕ} {literals : List Literal} → Name xs name (Key word.Not ∷ Key word.In ∷ ys) → Tuple ys literals zs → Atom xs (filter.In name true literals) zs
  is_null : {xs ys : List Token} {name : List ℕ} → Name xs name (Key word.Is ∷ Key word.Null ∷ ys) → Atom xs (filter.IsNull name false) ys
  is_not_null : {xs ys : List Token} {name : List ℕ} → Name xs name (Key word.Is ∷ Key word.Not ∷ Key word.Null ∷ ys) → Atom xs (filter.IsNull name true) ys

-- how strongly the parts of a condition, or of an expression, hold together at least
pub data Strength : Type 0 where
  Loose : Strength
  Tight : Strength
  Single : Strength

-- cond = conj {OR conj}, conj = neg {AND neg}, neg = NOT neg | atom | "(" cond ")": Loose, Tight and Single.
-- Where the boxes of a tree lie in memory doesn't matter.
pub data Condition : Strength → List Token → Filter → List Token → Type 0 where
  conj : {xs ys : List Token} {f : Filter} → Condition Tight xs f ys → Condition Loose xs f ys
  or : {xs ys zs : List Token} {f g : Filter} {p q : _} → Condition Loose xs f (Key word.Or ∷ ys) → Condition Tight ys g zs → Condition Loose xs (filter.Or' p f q g) zs
  neg : {xs ys : List Token} {f : Filter} → Condition Single xs f ys → Condition Tight xs f ys
  and : {xs ys zs : List Token} {f g : Filter} {p q : _} → Condition Tight xs f (Key word.And ∷ ys) → Condition Single ys g zs → Condition Tight xs (filter.And' p f q g) zs
  not : {xs ys : List Token} {f : Filter} {p : _} → Condition Single xs f ys → Condition Single (Key word.Not ∷ xs) (filter.Not' p f) ys
  atom : {xs ys : List Token} {f : Filter} → Atom xs f ys → Condition Single xs f ys
  brackets : {xs ys : List Token} {f : Filter} → Condition Loose xs f (Close ∷ ys) → Condition Single (Open ∷ xs) f ys

-- [WHERE cond]
pub data Where : List Token → Option Filter → List Token → Type 0 where
  each : {rest : List Token} → Where rest None rest
  those : {xs ys : List Token} {f : Filter} → Condition Loose xs f ys → Where (Key word.Where ∷ xs) (Some f) ys

-- ---- expressions

abbrev pub BeginsNoNumber : List Token → Type 0
BeginsNoNumber [] = Unit {0}
BeginsNoNumber (Number digits ∷ rest) = ⊥
BeginsNoNumber (other ∷ rest) = Unit {0}

-- expr = term {("+" | "-") term}, term = factor {"*" factor}, factor = lit | name | "-" factor | "(" expr ")":
-- Loose, Tight and Single. In a factor a `-` before a number is part of the literal.
pub data Expression : Strength → List Token → Expr → List Token → Type 0 where
  term : {xs ys : List Token} {e : Expr} → Expression Tight xs e ys → Expression Loose xs e ys
  plus : {xs ys zs : List Token} {e f : Expr} {p q : _} → Expression Loose xs e (Plus ∷ ys) → Expression Tight ys f zs → Expression Loose xs (expr.Add' p e q f) zs
  minus : {xs ys zs : List Token} {e f : Expr} {p q : _} → Expression Loose xs e (Minus ∷ ys) → Expression Tight ys f zs → Expression Loose xs (expr.Subtract' p e q f) zs
  factor : {xs ys : List Token} {e : Expr} → Expression Single xs e ys → Expression Tight xs e ys
  times : {xs ys zs : List Token} {e f : Expr} {p q : _} → Expression Tight xs e (Star ∷ ys) → Expression Single ys f zs → Expression Tight xs (expr.Multiply' p e q f) zs
  of_literal : {xs ys : List Token} {value : Literal} → Lit xs value ys → Expression Single xs (expr.Literal value) ys
  of_column : {xs ys : List Token} {name : List ℕ} → Name xs name ys → Expression Single xs (expr.Column name) ys
  negate : {xs ys : List Token} {e : Expr} {p : _} → BeginsNoNumber xs → Expression Single xs e ys → Expression Single (Minus ∷ xs) (expr.Negate' p e) ys
  brackets : {xs ys : List Token} {e : Expr} → Expression Loose xs e (Close ∷ ys) → Expression Single (Open ∷ xs) e ys

-- name "=" expr
pub data Assignment : List Token → Set → List Token → Type 0 where
  assign : {xs ys zs : List Token} {name : List ℕ} {e : Expr} → Name xs name (Compare Equal ∷ ys) → Expression Loose ys e zs → Assignment xs (record { column = name; value = e }) zs

-- ---- CREATE TABLE

-- the number of bytes, where one byte has it
unfoldable pub size_of : List ℕ → Option ℕ
size_of digits = if nat_le (number_of digits) 255 then Some (number_of digits) else None

-- BIGINT | VARBINARY "(" number ")"
pub data ColumnKind : List Token → DeclaredKind → List Token → Type 0 where
  big_int : {rest : List Token} → ColumnKind (Key word.BigInt ∷ rest) kind.BigInt rest
  var_binary : {digits : List ℕ} {rest : List Token} → ColumnKind (Key word.VarBinary ∷ Open ∷ Number digits ∷ Close ∷ rest) (kind.VarBinary (size_of digits)) rest

-- [NOT NULL | NULL]
pub data Nullable : List Token → Option Bool → List Token → Type 0 where
  unsaid : {rest : List Token} → Nullable rest None rest
  not_null : {rest : List Token} → Nullable (Key word.Not ∷ Key word.Null ∷ rest) (Some false) rest
  null : {rest : List Token} → Nullable (Key word.Null ∷ rest) (Some true) rest

-- [PRIMARY KEY]
pub data Primary : List Token → Bool → List Token → Type 0 where
  unsaid : {rest : List Token} → Primary rest false rest
  primary : {rest : List Token} → Primary (Key word.Primary ∷ Key word.Key ∷ rest) true rest

-- KEY | INDEX
pub data KeyWord : List Token → List Token → Type 0 where
  key : {rest : List Token} → KeyWord (Key word.Key ∷ rest) rest
  index : {rest : List Token} → KeyWord (Key word.Index ∷ rest) rest

-- "(" name ")"
pub data Bracketed : List Token → List ℕ → List Token → Type 0 where
  bracketed : {xs ys : List Token} {name : List ℕ} → Name xs name (Close ∷ ys) → Bracketed (Open ∷ xs) name ys

-- def = name kind [NOT NULL | NULL] [PRIMARY KEY] | PRIMARY KEY "(" name ")" | (KEY | INDEX) [name] "(" name ")"
pub data Define : List Token → Definition → List Token → Type 0 where
  column : {xs ys zs ws vs : List Token} {name : List ℕ} {k : DeclaredKind} {nullable : Option Bool} {primary : Bool} → Name xs name ys → ColumnKind ys k zs → Nullable zs nullable ws → Primary ws primary vs → Define xs (definition.Column name k nullable primary) vs
  primary : {xs ys : List Token} {column : List ℕ} → Bracketed xs column ys → Define (Key word.Primary ∷ Key word.Key ∷ xs) (definition.Primary column) ys
  key : {xs ys zs : List Token} {column : List ℕ} → KeyWord xs ys → Bracketed ys column zs → Define xs (definition.Key None column) zs
  named_key : {xs ys zs ws : List Token} {name column : List ℕ} → KeyWord xs ys → Name ys name zs → Bracketed zs column ws → Define xs (definition.Key (Some name) column) ws

-- [IF NOT EXISTS]
pub data IfNotExists : List Token → Bool → List Token → Type 0 where
  unsaid : {rest : List Token} → IfNotExists rest false rest
  said : {rest : List Token} → IfNotExists (Key word.If ∷ Key word.Not ∷ Key word.Exists ∷ rest) true rest

-- [ENGINE ["="] InnoDB], and nothing behind it
pub data Engine : List Token → Type 0 where
  unsaid : Engine []
  said : {a b : List ℕ} → Engine (Bare (Some word.Engine) a ∷ Bare (Some word.InnoDb) b ∷ [])
  equals : {a b : List ℕ} → Engine (Bare (Some word.Engine) a ∷ Compare Equal ∷ Bare (Some word.InnoDb) b ∷ [])

-- ---- the other statements

-- "*" | name {"," name}
pub data Choice : List Token → Selected → List Token → Type 0 where
  all : {rest : List Token} → Choice (Star ∷ rest) AllColumns rest
  some : {xs ys : List Token} {names : List (List ℕ)} → Commas Name xs names ys → Choice xs (Columns names) ys

-- [FOR SHARE | FOR UPDATE | LOCK IN SHARE MODE], and nothing behind it
pub data Locking : List Token → Option Mode → Type 0 where
  unsaid : Locking [] None
  for_share : {a : List ℕ} → Locking (Key word.For ∷ Bare (Some word.Share) a ∷ []) (Some S)
  for_update : Locking (Key word.For ∷ Key word.Update ∷ []) (Some X)
  lock_in_share_mode : {a b : List ℕ} → Locking (Key word.Lock ∷ Key word.In ∷ Bare (Some word.Share) a ∷ Bare (Some word.Mode) b ∷ []) (Some S)

-- [INTO]
pub data Into : List Token → List Token → Type 0 where
  unsaid : {rest : List Token} → Into rest rest
  into : {rest : List Token} → Into (Key word.Into ∷ rest) rest

-- ["(" name {"," name} ")"]
pub data ColumnList : List Token → Option (List (List ℕ)) → List Token → Type 0 where
  unsaid : {rest : List Token} → ColumnList rest None rest
  listed : {xs ys : List Token} {names : List (List ℕ)} → Commas Name xs names (Close ∷ ys) → ColumnList (Open ∷ xs) (Some names) ys

-- VALUES | VALUE
pub data ValuesWord : List Token → List Token → Type 0 where
  values : {rest : List Token} → ValuesWord (Key word.Values ∷ rest) rest
  value : {a : List ℕ} {rest : List Token} → ValuesWord (Bare (Some word.Value) a ∷ rest) rest

-- [WORK]
pub data Work : List Token → List Token → Type 0 where
  unsaid : {rest : List Token} → Work rest rest
  work : {a : List ℕ} {rest : List Token} → Work (Bare (Some word.Work) a ∷ rest) rest

-- [SAVEPOINT]
pub data SavepointWord : List Token → List Token → Type 0 where
  unsaid : {rest : List Token} → SavepointWord rest rest
  savepoint : {a : List ℕ} {rest : List Token} → SavepointWord (Bare (Some word.Savepoint) a ∷ rest) rest

-- 0 | 1 | ON | OFF
pub data Switch : Token → Bool → Type 0 where
  zero_digit : Switch (Number (48 ∷ [])) false
  one_digit : Switch (Number (49 ∷ [])) true
  on : {a : List ℕ} → Switch (Bare (Some word.On) a) true
  off : {a : List ℕ} → Switch (Bare (Some word.Off) a) false

-- [SESSION]
pub data Scope : List Token → LevelScope → List Token → Type 0 where
  next : {rest : List Token} → Scope rest NextTransaction rest
  session : {a : List ℕ} {rest : List Token} → Scope (Bare (Some word.Session) a ∷ rest) Session rest

-- READ UNCOMMITTED | READ COMMITTED | REPEATABLE READ | SERIALIZABLE, and nothing behind it
pub data LevelName : List Token → Level → Type 0 where
  read_uncommitted : {a b : List ℕ} → LevelName (Bare (Some word.Read) a ∷ Bare (Some word.Uncommitted) b ∷ []) level.ReadUncommitted
  read_committed : {a b : List ℕ} → LevelName (Bare (Some word.Read) a ∷ Bare (Some word.Committed) b ∷ []) level.ReadCommitted
  repeatable_read : {a b : List ℕ} → LevelName (Bare (Some word.Repeatable) a ∷ Bare (Some word.Read) b ∷ []) level.RepeatableRead
  serializable : {a : List ℕ} → LevelName (Bare (Some word.Serializable) a ∷ []) level.Serializable

-- the tokens, all of them, spell the statement
pub data Statement : List Token → Stmt → Type 0 where
  create_table : {xs ys zs ws : List Token} {skips : Bool} {table : List ℕ} {definitions : List Definition} → IfNotExists xs skips ys → Name ys table (Open ∷ zs) → Commas Define zs definitions (Close ∷ ws) → Engine ws → Statement (Key word.Create ∷ Key word.Table ∷ xs) (stmt.CreateTable table skips definitions)
  select : {xs ys zs ws : List Token} {selected : Selected} {table : List ℕ} {where' : Option Filter} {lock : Option Mode} → Choice xs selected (Key word.From ∷ ys) → Name ys table zs → Where zs where' ws → Locking ws lock → Statement (Key word.Select ∷ xs) (stmt.Select selected table where' lock)
  insert : {xs ys zs ws vs : List Token} {table : List ℕ} {columns : Option (List (List ℕ))} {tuples : List (List Literal)} → Into xs ys → Name ys table zs → ColumnList zs columns ws → ValuesWord ws vs → Commas Tuple vs tuples [] → Statement (Key word.Insert ∷ xs) (stmt.Insert table columns tuples)
  update : {xs ys zs : List Token} {table : List ℕ} {sets : List Set} {where' : Option Filter} → Name xs table (Key word.Set ∷ ys) → Commas Assignment ys sets zs → Where zs where' [] → Statement (Key word.Update ∷ xs) (stmt.Update table sets where')
  delete : {xs ys : List Token} {table : List ℕ} {where' : Option Filter} → Name xs table ys → Where ys where' [] → Statement (Key word.Delete ∷ Key word.From ∷ xs) (stmt.Delete table where')
  begin : {xs : List Token} {a : List ℕ} → Work xs [] → Statement (Bare (Some word.Begin) a ∷ xs) (stmt.Begin false)
  start : {a b : List ℕ} → Statement (Bare (Some word.Start) a ∷ Bare (Some word.Transaction) b ∷ []) (stmt.Begin false)
  start_snapshot : {a b c d : List ℕ} → Statement (Bare (Some word.Start) a ∷ Bare (Some word.Transaction) b ∷ Key word.With ∷ Bare (Some word.Consistent) c ∷ Bare (Some word.Snapshot) d ∷ []) (stmt.Begin true)
  commit : {xs : List Token} {a : List ℕ} → Work xs [] → Statement (Bare (Some word.Commit) a ∷ xs) stmt.Commit
  rollback : {xs : List Token} {a : List ℕ} → Work xs [] → Statement (Bare (Some word.Rollback) a ∷ xs) stmt.Rollback
  rollback_to : {xs ys zs : List Token} {a name : List ℕ} → Work xs (Key word.To ∷ ys) → SavepointWord ys zs → Name zs name [] → Statement (Bare (Some word.Rollback) a ∷ xs) (stmt.RollbackTo name)
  savepoint : {xs : List Token} {a name : List ℕ} → Name xs name [] → Statement (Bare (Some word.Savepoint) a ∷ xs) (stmt.Savepoint name)
  set_autocommit : {a : List ℕ} {t : Token} {on : Bool} → Switch t on → Statement (Key word.Set ∷ Bare (Some word.Autocommit) a ∷ Compare Equal ∷ t ∷ []) (stmt.SetAutocommit on)
  set_level : {xs ys : List Token} {a b c : List ℕ} {scope : LevelScope} {name : Level} → Scope xs scope (Bare (Some word.Transaction) a ∷ Bare (Some word.Isolation) b ∷ Bare (Some word.Level) c ∷ ys) → LevelName ys name → Statement (Key word.Set ∷ xs) (stmt.SetLevel scope name)

-- the bytes spell the statement
pub record Spells (bytes : List ℕ) (statement : Stmt) : Type 0 where
  pub tokens : List Token
  pub lexed : AreTokens bytes tokens
  pub parsed : Statement tokens statement
