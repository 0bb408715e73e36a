-- Tokens that are cut off amid a statement can be finished: definitions and whole statements.
use Rattle.std.proofs.Common.{◌≡◌, ℕ, suc, List, [], ◌∷◌, ◌++◌, Option, Some, None, Bool, true, false, refl, ◌∙◌, subst}
use Rattle.inno_types.specs.declared.lock.Mode.{Mode}
use Rattle.inno_types.specs.declared.lock.Mode.TheVariants.{S, X as Exclusive}
use Rattle.inno_types.specs.declared.lock.Level.{Level}
use Rattle.inno_types.specs.declared.lock.Level.TheVariants as levels
use Rattle.inno_types.specs.declared.stmt.Comparison.TheVariants.{Equal}
use Rattle.inno_types.specs.declared.stmt.Literal.{Literal}
use Rattle.inno_types.specs.declared.stmt.Filter.{Filter}
use Rattle.inno_types.specs.declared.stmt.Set.{Set}
use Rattle.inno_types.specs.declared.stmt.Expr.TheVariants as expr
use Rattle.inno_types.specs.declared.stmt.DeclaredKind.{DeclaredKind}
use Rattle.inno_types.specs.declared.stmt.DeclaredKind.TheVariants as kind
use Rattle.inno_types.specs.declared.stmt.Definition.{Definition}
use Rattle.inno_types.specs.declared.stmt.Definition.TheVariants as definition
use Rattle.inno_types.specs.declared.stmt.Selected.{Selected}
use Rattle.inno_types.specs.declared.stmt.Selected.TheVariants.{AllColumns, Columns}
use Rattle.inno_types.specs.declared.stmt.LevelScope.{LevelScope}
use Rattle.inno_types.specs.declared.stmt.LevelScope.TheVariants.{Session, NextTransaction}
use Rattle.inno_types.specs.declared.stmt.Stmt.{Stmt}
use Rattle.inno_types.specs.declared.stmt.Stmt.TheVariants as stmt
use Rattle.sql_grammar.specs.declared.token.Word.TheVariants as word
use Rattle.sql_grammar.specs.declared.token.Token.{Token}
use Rattle.sql_grammar.specs.declared.token.Token.TheVariants.{Key, Bare, Quoted, Compare, Open, Close}
use Rattle.sql_grammar.specs.Grammar.{plain_number, size_of, Name, Commas, Tuple, Where, Assignment, ColumnKind, Nullable, Primary, KeyWord, Bracketed, Define, IfNotExists, Engine, Choice, Locking, Into, ColumnList, ValuesWord, Work, SavepointWord, Switch, Scope, LevelName, Statement}
use Rattle.sql_grammar.specs.Grammar as grammar
use Rattle.sql_prefix.proofs.Depth.{level}
use Rattle.sql_prefix.proofs.Cuts.{Like, Under, Cut, Just, just, closers, deeper, inside, beyond, cut, keep, X, Zero, seq, made, wider, behind, names_cut, tuples_cut, commas_cut}
use Rattle.sql_prefix.proofs.Cuts as cuts
use Rattle.sql_prefix.proofs.CutConditions.{Ending, tuple_end, closed_last, where_cut}
use Rattle.sql_prefix.proofs.CutExpressions.{assignments_cut}
use Rattle.sql_prefix.proofs.Ends.{End, Final, Tuples, said}
use Rattle.sql_prefix.proofs.Ends as ends

-- ---- definitions

kind_cut : {xs ys us : List Token} {k : DeclaredKind} → ColumnKind xs k ys → Under xs us → Cut ColumnKind Ending ys us
kind_cut k cut = inside (Key word.BigInt ∷ []) 0 ends.kind (λ d. refl) kind.BigInt (λ zs. grammar.big_int)
kind_cut grammar.big_int (keep cuts.key u) = beyond _ u (λ d. refl) kind.BigInt (λ zs. grammar.big_int)
kind_cut grammar.var_binary (keep cuts.key cut) = inside (Open ∷ Zero ∷ Close ∷ []) 0 ends.zero_tuple (λ d. refl) (kind.VarBinary (size_of (48 ∷ []))) (λ zs. grammar.var_binary)
kind_cut grammar.var_binary (keep cuts.key (keep cuts.opens cut)) = inside (Zero ∷ []) 1 ends.zero (λ d. refl) (kind.VarBinary (size_of (48 ∷ []))) (λ zs. grammar.var_binary)
kind_cut grammar.var_binary (keep cuts.key (keep cuts.opens (keep (cuts.number {digits = e}) cut))) = inside [] 1 ends.nothing (λ d. refl) (kind.VarBinary (size_of e)) (λ zs. grammar.var_binary)
kind_cut grammar.var_binary (keep cuts.key (keep cuts.opens (keep (cuts.long_number {others = e}) cut))) = inside [] 1 ends.nothing (λ d. refl) (kind.VarBinary (size_of e)) (λ zs. grammar.var_binary)
kind_cut grammar.var_binary (keep cuts.key (keep cuts.opens (keep (cuts.number {digits = e}) (keep cuts.closes u)))) = beyond _ u (λ d. refl) (kind.VarBinary (size_of e)) (λ zs. grammar.var_binary)
kind_cut grammar.var_binary (keep cuts.key (keep cuts.opens (keep (cuts.long_number {others = e}) (keep cuts.closes u)))) = beyond _ u (λ d. refl) (kind.VarBinary (size_of e)) (λ zs. grammar.var_binary)

nullable_cut : {xs ys us : List Token} {n : Option Bool} → Nullable xs n ys → Under xs us → Cut Nullable Ending ys us
nullable_cut grammar.unsaid u = beyond _ u (λ d. refl) None (λ zs. grammar.unsaid)
nullable_cut grammar.not_null cut = beyond [] cut (λ d. refl) None (λ zs. grammar.unsaid)
nullable_cut grammar.not_null (keep cuts.key cut) = inside (Key word.Null ∷ []) 0 ends.null (λ d. refl) (Some false) (λ zs. grammar.not_null)
nullable_cut grammar.not_null (keep cuts.key (keep cuts.key u)) = beyond _ u (λ d. refl) (Some false) (λ zs. grammar.not_null)
nullable_cut grammar.null cut = beyond [] cut (λ d. refl) None (λ zs. grammar.unsaid)
nullable_cut grammar.null (keep cuts.key u) = beyond _ u (λ d. refl) (Some true) (λ zs. grammar.null)

primary_cut : {xs ys us : List Token} {p : Bool} → Primary xs p ys → Under xs us → Cut Primary Ending ys us
primary_cut grammar.unsaid u = beyond _ u (λ d. refl) false (λ zs. grammar.unsaid)
primary_cut grammar.primary cut = beyond [] cut (λ d. refl) false (λ zs. grammar.unsaid)
primary_cut grammar.primary (keep cuts.key cut) = inside (Key word.Key ∷ []) 0 ends.key (λ d. refl) true (λ zs. grammar.primary)
primary_cut grammar.primary (keep cuts.key (keep cuts.key u)) = beyond _ u (λ d. refl) true (λ zs. grammar.primary)

-- what stands behind a column's kind, and behind its name
data Options : List Token → Option Bool × Bool → List Token → Type 0 where
  options : {xs ys zs : List Token} {n : Option Bool} {p : Bool} → Nullable xs n ys → Primary ys p zs → Options xs (n, p) zs

data Column : List Token → DeclaredKind × (Option Bool × Bool) → List Token → Type 0 where
  column : {xs ys zs : List Token} {k : DeclaredKind} {o : Option Bool × Bool} → ColumnKind xs k ys → Options ys o zs → Column xs (k, o) zs

options_cut : {ys zs us : List Token} → Cut Nullable Ending ys us → ((vs : List Token) → Under ys vs → Cut Primary Ending zs vs) → Cut Options Ending zs us
options_cut (inside f n e l a r) rest = inside f n e l (a, false) (λ zs. options (r zs) grammar.unsaid)
options_cut (beyond vs u l a r) rest = seq {First = λ ps qs. Nullable ps a qs} l r (λ b. (a, b)) (λ ps qs rs b p q. options p q) (rest vs u)

column_cut : {ys zs us : List Token} → Cut ColumnKind Ending ys us → ((vs : List Token) → Under ys vs → Cut Options Ending zs vs) → Cut Column Ending zs us
column_cut (inside f n e l a r) rest = inside f n e l (a, (None, false)) (λ zs. column (r zs) (options grammar.unsaid grammar.unsaid))
column_cut (beyond vs u l a r) rest = seq {First = λ ps qs. ColumnKind ps a qs} l r (λ b. (a, b)) (λ ps qs rs b p q. column p q) (rest vs u)

defined : {ps qs rs : List Token} {name : List ℕ} {c : DeclaredKind × (Option Bool × Bool)} → Name ps name qs → Column qs c rs → Define ps (definition.Column name c.0 c.1.0 c.1.1) rs
defined n (column k (options o p)) = grammar.column n k o p

bracketed_cut : {xs ys us : List Token} {name : List ℕ} → Bracketed xs name ys → Under xs us → Cut Bracketed Ending ys us
bracketed_cut b cut = inside (Open ∷ X ∷ Close ∷ []) 0 ends.name_in_brackets (λ d. refl) (120 ∷ []) (λ zs. grammar.bracketed grammar.bare)
bracketed_cut (grammar.bracketed n) (keep cuts.opens cut) = inside (X ∷ []) 1 ends.name (λ d. refl) (120 ∷ []) (λ zs. grammar.bracketed grammar.bare)
bracketed_cut (grammar.bracketed grammar.bare) (keep cuts.opens (keep (cuts.bare {b = b}) cut)) = inside [] 1 ends.nothing (λ d. refl) b (λ zs. grammar.bracketed grammar.bare)
bracketed_cut (grammar.bracketed grammar.bare) (keep cuts.opens (keep (cuts.bare {b = b}) (keep cuts.closes u))) = beyond _ u (λ d. refl) b (λ zs. grammar.bracketed grammar.bare)
bracketed_cut (grammar.bracketed grammar.quoted) (keep cuts.opens (keep (cuts.quoted {b = b}) cut)) = inside [] 1 ends.nothing (λ d. refl) b (λ zs. grammar.bracketed grammar.quoted)
bracketed_cut (grammar.bracketed grammar.quoted) (keep cuts.opens (keep (cuts.quoted {b = b}) (keep cuts.closes u))) = beyond _ u (λ d. refl) b (λ zs. grammar.bracketed grammar.quoted)

-- a key without its first word: [name] "(" name ")"
data KeyTail : List Token → Option (List ℕ) × List ℕ → List Token → Type 0 where
  unnamed : {xs ys : List Token} {column : List ℕ} → Bracketed xs column ys → KeyTail xs (None, column) ys
  named : {xs ys zs : List Token} {name column : List ℕ} → Name xs name ys → Bracketed ys column zs → KeyTail xs (Some name, column) zs

key_tail_cut : {xs ys us : List Token} {k : Option (List ℕ) × List ℕ} → KeyTail xs k ys → Under xs us → Cut KeyTail Ending ys us
key_tail_cut (unnamed b) u = made (λ column. (None, column)) (λ ps qs a b. unnamed b) (bracketed_cut b u)
key_tail_cut (named n b) cut = inside (Open ∷ X ∷ Close ∷ []) 0 ends.name_in_brackets (λ d. refl) (None, 120 ∷ []) (λ zs. unnamed (grammar.bracketed grammar.bare))
key_tail_cut (named grammar.bare b) (keep (cuts.bare {meaning = m} {b = name}) u) = behind (Bare m name) (λ d. refl) (λ column. (Some name, column)) (λ ps qs a b. named grammar.bare b) (bracketed_cut b u)
key_tail_cut (named grammar.quoted b) (keep (cuts.quoted {b = name}) u) = behind (Quoted name) (λ d. refl) (λ column. (Some name, column)) (λ ps qs a b. named grammar.quoted b) (bracketed_cut b u)

key_defined : {ps qs : List Token} {k : Option (List ℕ) × List ℕ} → KeyTail ps k qs → Define (Key word.Key ∷ ps) (definition.Key k.0 k.1) qs
key_defined (unnamed b) = grammar.key grammar.key b
key_defined (named n b) = grammar.named_key grammar.key n b

index_defined : {ps qs : List Token} {k : Option (List ℕ) × List ℕ} → KeyTail ps k qs → Define (Key word.Index ∷ ps) (definition.Key k.0 k.1) qs
index_defined (unnamed b) = grammar.key grammar.index b
index_defined (named n b) = grammar.named_key grammar.index n b

key_cut : {xs ys zs us : List Token} {k : Option (List ℕ) × List ℕ} → KeyWord xs ys → KeyTail ys k zs → Under xs us → Cut Define Ending zs us
key_cut w k cut = inside (X ∷ Key word.BigInt ∷ []) 0 ends.column (λ d. refl) (definition.Column (120 ∷ []) kind.BigInt None false) (λ zs. grammar.column grammar.bare grammar.big_int grammar.unsaid grammar.unsaid)
key_cut grammar.key k (keep cuts.key u) = behind (Key word.Key) (λ d. refl) (λ k. definition.Key k.0 k.1) (λ ps qs a k. key_defined k) (key_tail_cut k u)
key_cut grammar.index k (keep cuts.key u) = behind (Key word.Index) (λ d. refl) (λ k. definition.Key k.0 k.1) (λ ps qs a k. index_defined k) (key_tail_cut k u)

primary_key_cut : {ys us : List Token} → Cut Bracketed Ending ys us → Cut Define Ending ys (Key word.Primary ∷ Key word.Key ∷ us)
primary_key_cut (inside f n e l a r) = inside f n e l (definition.Primary a) (λ zs. grammar.primary (r zs))
primary_key_cut (beyond vs u l a r) = beyond vs u l (definition.Primary a) (λ zs. grammar.primary (r zs))

define_cut : {xs ys us : List Token} {a : Definition} → Define xs a ys → Under xs us → Cut Define Ending ys us
define_cut a cut = inside (X ∷ Key word.BigInt ∷ []) 0 ends.column (λ d. refl) (definition.Column (120 ∷ []) kind.BigInt None false) (λ zs. grammar.column grammar.bare grammar.big_int grammar.unsaid grammar.unsaid)
define_cut (grammar.column grammar.bare k n p) (keep (cuts.bare {meaning = m} {b = name}) u) =
    behind (Bare m name) (λ d. refl) (λ c. definition.Column name c.0 c.1.0 c.1.1) (λ ps qs a c. defined grammar.bare c) (column_cut (kind_cut k u) (λ vs v. options_cut (nullable_cut n v) (λ ws w. primary_cut p w)))
define_cut (grammar.column grammar.quoted k n p) (keep (cuts.quoted {b = name}) u) =
    behind (Quoted name) (λ d. refl) (λ c. definition.Column name c.0 c.1.0 c.1.1) (λ ps qs a c. defined grammar.quoted c) (column_cut (kind_cut k u) (λ vs v. options_cut (nullable_cut n v) (λ ws w. primary_cut p w)))
define_cut (grammar.primary b) (keep cuts.key cut) = inside (Key word.Key ∷ Open ∷ X ∷ Close ∷ []) 0 ends.key_of_name (λ d. refl) (definition.Primary (120 ∷ [])) (λ zs. grammar.primary (grammar.bracketed grammar.bare))
define_cut (grammar.primary b) (keep cuts.key (keep cuts.key u)) = primary_key_cut (bracketed_cut b u)
define_cut (grammar.key w b) u = key_cut w (unnamed b) u
define_cut (grammar.named_key w n b) u = key_cut w (named n b) u

definitions_cut : {xs ys us : List Token} {all : List Definition} → Commas Define xs all ys → Under xs us → Cut (Commas Define) Ending ys us
definitions_cut c u = commas_cut Define Ending (λ xs ys us a i v. define_cut i v) c u

-- ---- parts that end a statement

-- a last part that is cut off: it can be finished by such tokens, closing brackets and such tokens
pub data Done {A : Type 0} (Part : List Token → A → Type 0) (us : List Token) : Type 0 where
  done : (f g : List Token) (n : ℕ) → Final f g → ((d : ℕ) → level d us ≡ deeper n d) → (a : A) → Part (us ++ (f ++ (closers n ++ g))) a → Done Part us

-- by no more than this
by : {A : Type 0} {Part : List Token → A → Type 0} {us : List Token} (f : List Token) → End f → ((d : ℕ) → level d us ≡ d) → (a : A) → Part (us ++ (f ++ ([] ++ []))) a → Done Part us
by f e l a r = done f [] 0 (ends.last e) l a r

remade : {A B : Type 0} {Part : List Token → A → Type 0} {Other : List Token → B → Type 0} {us : List Token}
    → (make : A → B) → ((ps : List Token) (a : A) → Part ps a → Other ps (make a)) → Done Part us → Done Other us
remade make join (done f g n e l a r) = done f g n e l (make a) (join _ _ r)

-- behind a token that is no bracket
done_behind : {A B : Type 0} {Part : List Token → A → Type 0} {Whole : List Token → B → Type 0} {us : List Token}
    → (t : Token) → ((d : ℕ) → level d (t ∷ us) ≡ level d us) → (make : A → B) → ((ps : List Token) (a : A) → Part ps a → Whole (t ∷ ps) (make a)) → Done Part us → Done Whole (t ∷ us)
done_behind t l make join (done f g n e m a r) = done f g n e (λ d. l d ∙ m d) (make a) (join _ _ r)

-- behind a part that is whole
done_after : {A B : Type 0} {First : List Token → List Token → Type 0} {Part : List Token → A → Type 0} {Whole : List Token → B → Type 0} {us vs : List Token}
    → ((d : ℕ) → level d us ≡ level d vs) → ((zs : List Token) → First (us ++ zs) (vs ++ zs)) → (make : A → B) → ((ps qs : List Token) (a : A) → First ps qs → Part qs a → Whole ps (make a)) → Done Part vs → Done Whole us
done_after l r make join (done f g n e m a s) = done f g n e (λ d. l d ∙ m d) (make a) (join _ _ _ (r (f ++ (closers n ++ g))) s)

-- ---- CREATE TABLE

engine_done : {ws vs : List Token} → Engine ws → Under ws vs → Done (λ ts (u : Unit {0}). Engine ts) vs
engine_done e cut = by [] ends.nothing (λ d. refl) tt grammar.unsaid
engine_done grammar.said (keep cuts.bare cut) = by (said word.InnoDb ∷ []) ends.inno_db (λ d. refl) tt grammar.said
engine_done grammar.said (keep cuts.bare (keep cuts.bare cut)) = by [] ends.nothing (λ d. refl) tt grammar.said
engine_done grammar.equals (keep cuts.bare cut) = by (said word.InnoDb ∷ []) ends.inno_db (λ d. refl) tt grammar.said
engine_done grammar.equals (keep cuts.bare (keep cuts.compare cut)) = by (said word.InnoDb ∷ []) ends.inno_db (λ d. refl) tt grammar.equals
engine_done grammar.equals (keep cuts.bare (keep cuts.compare (keep cuts.bare cut))) = by [] ends.nothing (λ d. refl) tt grammar.equals

data Table : List Token → List Definition → Type 0 where
  table : {xs ys : List Token} {definitions : List Definition} → Commas Define xs definitions (Close ∷ ys) → Engine ys → Table (Open ∷ xs) definitions

data NamedTable : List Token → List ℕ × List Definition → Type 0 where
  named_table : {xs ys : List Token} {name : List ℕ} {definitions : List Definition} → Name xs name ys → Table ys definitions → NamedTable xs (name, definitions)

data Creation : List Token → Bool × (List ℕ × List Definition) → Type 0 where
  creation : {xs ys : List Token} {skips : Bool} {t : List ℕ × List Definition} → IfNotExists xs skips ys → NamedTable ys t → Creation xs (skips, t)

one_column : List Definition
one_column = definition.Column (120 ∷ []) kind.BigInt None false ∷ []

x_columns : (zs : List Token) → Commas Define (X ∷ Key word.BigInt ∷ zs) (definition.Column (120 ∷ []) kind.BigInt None false ∷ []) zs
x_columns zs = grammar.last (grammar.column grammar.bare grammar.big_int grammar.unsaid grammar.unsaid)

in_table : {ys us : List Token} → Cut (Commas Define) Ending (Close ∷ ys) us → ((vs : List Token) → Under ys vs → Done (λ ts (u : Unit {0}). Engine ts) vs) → Done Table (Open ∷ us)
in_table {us = us} (inside f n e l a r) rest =
    done f [] (suc n) (ends.last e) (λ d. l (suc d)) a (table (subst (λ (ts : List Token). Commas Define (us ++ (f ++ ts)) a (Close ∷ [])) (closed_last n []) (r (Close ∷ []))) grammar.unsaid)
in_table (beyond _ cut l a r) rest = done [] [] 1 (ends.last ends.nothing) (λ d. l (suc d)) a (table (r (Close ∷ [])) grammar.unsaid)
in_table {us = us} (beyond _ (keep {us = vs} cuts.closes u) l a r) rest = ended (rest vs u)
  where
    ended : Done (λ ts (u : Unit {0}). Engine ts) vs → Done Table (Open ∷ us)
    ended (done f g n e m b s) = done f g n e (λ d. l (suc d) ∙ m d) a (table (r (f ++ (closers n ++ g))) s)

table_done : {xs us : List Token} {definitions : List Definition} → Table xs definitions → Under xs us → Done Table us
table_done t cut = by (Open ∷ X ∷ Key word.BigInt ∷ Close ∷ []) ends.columns (λ d. refl) (definition.Column (120 ∷ []) kind.BigInt None false ∷ []) (table (x_columns (Close ∷ [])) grammar.unsaid)
table_done (table c e) (keep cuts.opens u) = in_table (definitions_cut c u) (λ vs v. engine_done e v)

x_table : NamedTable (X ∷ Open ∷ X ∷ Key word.BigInt ∷ Close ∷ []) (120 ∷ [], definition.Column (120 ∷ []) kind.BigInt None false ∷ [])
x_table = named_table grammar.bare (table (x_columns (Close ∷ [])) grammar.unsaid)

named_table_done : {xs us : List Token} {t : List ℕ × List Definition} → NamedTable xs t → Under xs us → Done NamedTable us
named_table_done t cut = by (X ∷ Open ∷ X ∷ Key word.BigInt ∷ Close ∷ []) ends.table (λ d. refl) (120 ∷ [], definition.Column (120 ∷ []) kind.BigInt None false ∷ []) x_table
named_table_done (named_table grammar.bare t) (keep (cuts.bare {meaning = m} {b = b}) u) = done_behind (Bare m b) (λ d. refl) (λ a. (b, a)) (λ ps a t. named_table grammar.bare t) (table_done t u)
named_table_done (named_table grammar.quoted t) (keep (cuts.quoted {b = b}) u) = done_behind (Quoted b) (λ d. refl) (λ a. (b, a)) (λ ps a t. named_table grammar.quoted t) (table_done t u)

if_not_exists_done : {us : List Token} → Done NamedTable us → Done Creation (Key word.If ∷ Key word.Not ∷ Key word.Exists ∷ us)
if_not_exists_done (done f g n e l a r) = done f g n e l (true, a) (creation grammar.said r)

creation_done : {xs ys us : List Token} {skips : Bool} {t : List ℕ × List Definition} → IfNotExists xs skips ys → NamedTable ys t → Under xs us → Done Creation us
creation_done grammar.unsaid t u = remade (λ a. (false, a)) (λ ps a t. creation grammar.unsaid t) (named_table_done t u)
creation_done grammar.said t cut = remade (λ a. (false, a)) (λ ps a t. creation grammar.unsaid t) (named_table_done t cut)
creation_done grammar.said t (keep cuts.key cut) =
    by (Key word.Not ∷ Key word.Exists ∷ X ∷ Open ∷ X ∷ Key word.BigInt ∷ Close ∷ []) ends.not_exists (λ d. refl) (true, (120 ∷ [], definition.Column (120 ∷ []) kind.BigInt None false ∷ [])) (creation grammar.said x_table)
creation_done grammar.said t (keep cuts.key (keep cuts.key cut)) =
    by (Key word.Exists ∷ X ∷ Open ∷ X ∷ Key word.BigInt ∷ Close ∷ []) ends.exists (λ d. refl) (true, (120 ∷ [], definition.Column (120 ∷ []) kind.BigInt None false ∷ [])) (creation grammar.said x_table)
creation_done grammar.said t (keep cuts.key (keep cuts.key (keep cuts.key u))) = if_not_exists_done (named_table_done t u)

created : {ps : List Token} {a : Bool × (List ℕ × List Definition)} → Creation ps a → Statement (Key word.Create ∷ Key word.Table ∷ ps) (stmt.CreateTable a.1.0 a.0 a.1.1)
created (creation i (named_table n (table c e))) = grammar.create_table i n c e

create_done : {xs ys us : List Token} {skips : Bool} {t : List ℕ × List Definition} → IfNotExists xs skips ys → NamedTable ys t → Under (Key word.Table ∷ xs) us → Done Statement (Key word.Create ∷ us)
create_done i t cut = by (Key word.Table ∷ X ∷ Open ∷ X ∷ Key word.BigInt ∷ Close ∷ []) ends.create_table (λ d. refl) (stmt.CreateTable (120 ∷ []) false (definition.Column (120 ∷ []) kind.BigInt None false ∷ [])) (created (creation grammar.unsaid x_table))
create_done i t (keep cuts.key u) = behind_table (creation_done i t u)
  where
    behind_table : {us : List Token} → Done Creation us → Done Statement (Key word.Create ∷ Key word.Table ∷ us)
    behind_table (done f g n e l a r) = done f g n e l (stmt.CreateTable a.1.0 a.0 a.1.1) (created r)

-- ---- SELECT

locking_done : {xs us : List Token} {lock : Option Mode} → Locking xs lock → Under xs us → Done Locking us
locking_done l cut = by [] ends.nothing (λ d. refl) None grammar.unsaid
locking_done grammar.for_share (keep cuts.key cut) = by (Key word.Update ∷ []) ends.update (λ d. refl) (Some Exclusive) grammar.for_update
locking_done grammar.for_share (keep cuts.key (keep cuts.bare cut)) = by [] ends.nothing (λ d. refl) (Some S) grammar.for_share
locking_done grammar.for_update (keep cuts.key cut) = by (Key word.Update ∷ []) ends.update (λ d. refl) (Some Exclusive) grammar.for_update
locking_done grammar.for_update (keep cuts.key (keep cuts.key cut)) = by [] ends.nothing (λ d. refl) (Some Exclusive) grammar.for_update
locking_done grammar.lock_in_share_mode (keep cuts.key cut) = by (Key word.In ∷ said word.Share ∷ said word.Mode ∷ []) ends.in_share_mode (λ d. refl) (Some S) grammar.lock_in_share_mode
locking_done grammar.lock_in_share_mode (keep cuts.key (keep cuts.key cut)) = by (said word.Share ∷ said word.Mode ∷ []) ends.share_mode (λ d. refl) (Some S) grammar.lock_in_share_mode
locking_done grammar.lock_in_share_mode (keep cuts.key (keep cuts.key (keep cuts.bare cut))) = by (said word.Mode ∷ []) ends.mode (λ d. refl) (Some S) grammar.lock_in_share_mode
locking_done grammar.lock_in_share_mode (keep cuts.key (keep cuts.key (keep cuts.bare (keep cuts.bare cut)))) = by [] ends.nothing (λ d. refl) (Some S) grammar.lock_in_share_mode

-- what stands behind a table, and behind FROM
data Rows : List Token → Option Filter × Option Mode → Type 0 where
  rows : {xs ys : List Token} {f : Option Filter} {lock : Option Mode} → Where xs f ys → Locking ys lock → Rows xs (f, lock)

data FromTable : List Token → List ℕ × (Option Filter × Option Mode) → Type 0 where
  from_table : {xs ys : List Token} {name : List ℕ} {r : Option Filter × Option Mode} → Name xs name ys → Rows ys r → FromTable xs (name, r)

rows_done : {ys us : List Token} → Cut Where Ending ys us → ((vs : List Token) → Under ys vs → Done Locking vs) → Done Rows us
rows_done (inside f n e l a r) rest = done f [] n (ends.last e) l (a, None) (rows (r []) grammar.unsaid)
rows_done (beyond vs u l a r) rest = done_after {First = λ ps qs. Where ps a qs} l r (λ b. (a, b)) (λ ps qs b p q. rows p q) (rest vs u)

from_table_done : {xs ys us : List Token} {name : List ℕ} {f : Option Filter} {lock : Option Mode} {zs : List Token} → Name xs name ys → Where ys f zs → Locking zs lock → Under xs us → Done FromTable us
from_table_done n w l cut = by (X ∷ []) ends.name (λ d. refl) (120 ∷ [], (None, None)) (from_table grammar.bare (rows grammar.each grammar.unsaid))
from_table_done grammar.bare w l (keep (cuts.bare {meaning = m} {b = b}) u) = done_behind (Bare m b) (λ d. refl) (λ a. (b, a)) (λ ps a t. from_table grammar.bare t) (rows_done (where_cut w u) (λ vs v. locking_done l v))
from_table_done grammar.quoted w l (keep (cuts.quoted {b = b}) u) = done_behind (Quoted b) (λ d. refl) (λ a. (b, a)) (λ ps a t. from_table grammar.quoted t) (rows_done (where_cut w u) (λ vs v. locking_done l v))

choice_cut : {xs ys us : List Token} {s : Selected} → Choice xs s ys → Under xs us → Cut Choice (Just (X ∷ [])) ys us
choice_cut (grammar.some c) u = made (λ names. Columns names) (λ ps qs a c. grammar.some c) (names_cut c u)
choice_cut grammar.all cut = inside (X ∷ []) 0 just (λ d. refl) (Columns ((120 ∷ []) ∷ [])) (λ zs. grammar.some (grammar.last grammar.bare))
choice_cut grammar.all (keep cuts.star u) = beyond _ u (λ d. refl) AllColumns (λ zs. grammar.all)

selected : {ps qs : List Token} {s : Selected} {a : List ℕ × (Option Filter × Option Mode)} → Choice ps s (Key word.From ∷ qs) → FromTable qs a → Statement (Key word.Select ∷ ps) (stmt.Select s a.0 a.1.0 a.1.1)
selected c (from_table n (rows w l)) = grammar.select c n w l

x_rows : FromTable (X ∷ []) (120 ∷ [], (None, None))
x_rows = from_table grammar.bare (rows grammar.each grammar.unsaid)

select_done : {ys us : List Token} → Cut Choice (Just (X ∷ [])) (Key word.From ∷ ys) us → ((vs : List Token) → Under ys vs → Done FromTable vs) → Done Statement (Key word.Select ∷ us)
select_done (inside _ _ just l a r) rest = by (X ∷ Key word.From ∷ X ∷ []) ends.name_from l (stmt.Select a (120 ∷ []) None None) (selected (r (Key word.From ∷ X ∷ [])) x_rows)
select_done (beyond _ cut l a r) rest = by (Key word.From ∷ X ∷ []) ends.from l (stmt.Select a (120 ∷ []) None None) (selected (r (Key word.From ∷ X ∷ [])) x_rows)
select_done {us = us} (beyond _ (keep {us = vs} cuts.key u) l a r) rest = behind_from (rest vs u)
  where
    behind_from : Done FromTable vs → Done Statement (Key word.Select ∷ us)
    behind_from (done f g n e m b s) = done f g n e (λ d. l d ∙ m d) (stmt.Select a b.0 b.1.0 b.1.1) (selected (r (f ++ (closers n ++ g))) s)

-- ---- INSERT

data Listed : List Token → List (List Literal) → Type 0 where
  listed : {xs ys : List Token} {tuples : List (List Literal)} → ValuesWord xs ys → Commas Tuple ys tuples [] → Listed xs tuples

data Given : List Token → Option (List (List ℕ)) × List (List Literal) → Type 0 where
  given : {xs ys : List Token} {columns : Option (List (List ℕ))} {tuples : List (List Literal)} → ColumnList xs columns ys → Listed ys tuples → Given xs (columns, tuples)

data IntoTable : List Token → List ℕ × (Option (List (List ℕ)) × List (List Literal)) → Type 0 where
  into_table : {xs ys : List Token} {name : List ℕ} {a : Option (List (List ℕ)) × List (List Literal)} → Name xs name ys → Given ys a → IntoTable xs (name, a)

all_tuples_done : {us : List Token} → Cut (Commas Tuple) cuts.InTuple [] us → Done (λ ts tuples. Commas Tuple ts tuples []) us
all_tuples_done (inside f n e l a r) = done f [] n (ends.last (tuple_end n f e)) l a (r [])
all_tuples_done (beyond _ cut l a r) = done [] [] 0 (ends.last ends.nothing) l a (r [])

zero_listed : Listed Tuples ((plain_number (48 ∷ []) ∷ []) ∷ [])
zero_listed = listed grammar.values (grammar.last (grammar.tuple (grammar.last grammar.number)))

listed_done : {xs us : List Token} {tuples : List (List Literal)} → Listed xs tuples → Under xs us → Done Listed us
listed_done v cut = by Tuples ends.values (λ d. refl) ((plain_number (48 ∷ []) ∷ []) ∷ []) zero_listed
listed_done (listed grammar.values c) (keep cuts.key u) = done_behind (Key word.Values) (λ d. refl) (λ a. a) (λ ps a c. listed grammar.values c) (all_tuples_done (tuples_cut c u))
listed_done (listed grammar.value c) (keep (cuts.bare {b = b}) u) = done_behind (Bare (Some word.Value) b) (λ d. refl) (λ a. a) (λ ps a c. listed grammar.value c) (all_tuples_done (tuples_cut c u))

in_columns : {ys us : List Token} → Cut (Commas Name) (Just (X ∷ [])) (Close ∷ ys) us → ((vs : List Token) → Under ys vs → Done Listed vs) → Done Given (Open ∷ us)
in_columns (inside _ _ just l a r) rest = done (X ∷ []) Tuples 1 ends.column_then (λ d. l (suc d)) (Some a, (plain_number (48 ∷ []) ∷ []) ∷ []) (given (grammar.listed (r (Close ∷ Tuples))) zero_listed)
in_columns (beyond _ cut l a r) rest = done [] Tuples 1 ends.columns_then (λ d. l (suc d)) (Some a, (plain_number (48 ∷ []) ∷ []) ∷ []) (given (grammar.listed (r (Close ∷ Tuples))) zero_listed)
in_columns {us = us} (beyond _ (keep {us = vs} cuts.closes u) l a r) rest = behind_columns (rest vs u)
  where
    behind_columns : Done Listed vs → Done Given (Open ∷ us)
    behind_columns (done f g n e m b s) = done f g n e (λ d. l (suc d) ∙ m d) (Some a, b) (given (grammar.listed (r (f ++ (closers n ++ g)))) s)

given_done : {xs ys us : List Token} {columns : Option (List (List ℕ))} {tuples : List (List Literal)} → ColumnList xs columns ys → Listed ys tuples → Under xs us → Done Given us
given_done grammar.unsaid v u = remade (λ a. (None, a)) (λ ps a v. given grammar.unsaid v) (listed_done v u)
given_done (grammar.listed c) v cut = remade (λ a. (None, a)) (λ ps a v. given grammar.unsaid v) (listed_done v cut)
given_done (grammar.listed c) v (keep cuts.opens u) = in_columns (names_cut c u) (λ vs w. listed_done v w)

into_table_done : {xs ys zs us : List Token} {name : List ℕ} {columns : Option (List (List ℕ))} {tuples : List (List Literal)} → Name xs name ys → ColumnList ys columns zs → Listed zs tuples → Under xs us → Done IntoTable us
into_table_done n c v cut = by (X ∷ Tuples) ends.name_values (λ d. refl) (120 ∷ [], (None, (plain_number (48 ∷ []) ∷ []) ∷ [])) (into_table grammar.bare (given grammar.unsaid zero_listed))
into_table_done grammar.bare c v (keep (cuts.bare {meaning = m} {b = b}) u) = done_behind (Bare m b) (λ d. refl) (λ a. (b, a)) (λ ps a t. into_table grammar.bare t) (given_done c v u)
into_table_done grammar.quoted c v (keep (cuts.quoted {b = b}) u) = done_behind (Quoted b) (λ d. refl) (λ a. (b, a)) (λ ps a t. into_table grammar.quoted t) (given_done c v u)

inserted : {ps qs : List Token} {a : List ℕ × (Option (List (List ℕ)) × List (List Literal))} → Into ps qs → IntoTable qs a → Statement (Key word.Insert ∷ ps) (stmt.Insert a.0 a.1.0 a.1.1)
inserted i (into_table n (given c (listed v t))) = grammar.insert i n c v t

insert_done : {us : List Token} → Done IntoTable us → Done Statement (Key word.Insert ∷ us)
insert_done (done f g n e l a r) = done f g n e l (stmt.Insert a.0 a.1.0 a.1.1) (inserted grammar.unsaid r)

insert_into_done : {us : List Token} → Done IntoTable us → Done Statement (Key word.Insert ∷ Key word.Into ∷ us)
insert_into_done (done f g n e l a r) = done f g n e l (stmt.Insert a.0 a.1.0 a.1.1) (inserted grammar.into r)

-- ---- UPDATE and DELETE

where_done : {us : List Token} → Cut Where Ending [] us → Done (λ ts f. Where ts f []) us
where_done (inside f n e l a r) = done f [] n (ends.last e) l a (r [])
where_done (beyond _ cut l a r) = done [] [] 0 (ends.last ends.nothing) l a (r [])

data Sets : List Token → List Set × Option Filter → Type 0 where
  sets : {xs ys : List Token} {s : List Set} {f : Option Filter} → Commas Assignment xs s ys → Where ys f [] → Sets xs (s, f)

sets_done : {ys us : List Token} → Cut (Commas Assignment) Ending ys us → ((vs : List Token) → Under ys vs → Done (λ ts f. Where ts f []) vs) → Done Sets us
sets_done (inside f n e l a r) rest = done f [] n (ends.last e) l (a, None) (sets (r []) grammar.each)
sets_done (beyond vs u l a r) rest = done_after {First = λ ps qs. Commas Assignment ps a qs} l r (λ b. (a, b)) (λ ps qs b p q. sets p q) (rest vs u)

data Updates : List Token → List ℕ × (List Set × Option Filter) → Type 0 where
  updates : {xs ys : List Token} {name : List ℕ} {a : List Set × Option Filter} → Name xs name (Key word.Set ∷ ys) → Sets ys a → Updates xs (name, a)

x_sets : Sets (X ∷ Compare Equal ∷ Zero ∷ []) (record { column = 120 ∷ []; value = expr.Literal (plain_number (48 ∷ [])) } ∷ [], None)
x_sets = sets (grammar.last (grammar.assign grammar.bare (grammar.term (grammar.factor (grammar.of_literal grammar.number))))) grammar.each

behind_set : {us : List Token} (t : Token) (name : List ℕ) → ((d : ℕ) (ts : List Token) → level d (t ∷ ts) ≡ level d ts) → ((zs : List Token) → Name (t ∷ zs) name zs) → Done Sets us → Done Updates (t ∷ Key word.Set ∷ us)
behind_set {us = us} t name l n (done f g k e m a r) = done f g k e (λ d. l d (Key word.Set ∷ us) ∙ m d) (name, a) (updates (n _) r)

updates_done : {xs ys zs us : List Token} {name : List ℕ} {s : List Set} {f : Option Filter} → Name xs name (Key word.Set ∷ ys) → Commas Assignment ys s zs → Where zs f [] → Under xs us → Done Updates us
updates_done n c w cut = by (X ∷ Key word.Set ∷ X ∷ Compare Equal ∷ Zero ∷ []) ends.name_set (λ d. refl) (120 ∷ [], (record { column = 120 ∷ []; value = expr.Literal (plain_number (48 ∷ [])) } ∷ [], None)) (updates grammar.bare x_sets)
updates_done grammar.bare c w (keep (cuts.bare {b = b}) cut) = by (Key word.Set ∷ X ∷ Compare Equal ∷ Zero ∷ []) ends.set_name (λ d. refl) (b, (record { column = 120 ∷ []; value = expr.Literal (plain_number (48 ∷ [])) } ∷ [], None)) (updates grammar.bare x_sets)
updates_done grammar.quoted c w (keep (cuts.quoted {b = b}) cut) = by (Key word.Set ∷ X ∷ Compare Equal ∷ Zero ∷ []) ends.set_name (λ d. refl) (b, (record { column = 120 ∷ []; value = expr.Literal (plain_number (48 ∷ [])) } ∷ [], None)) (updates grammar.quoted x_sets)
updates_done grammar.bare c w (keep (cuts.bare {meaning = m} {b = b}) (keep cuts.key u)) = behind_set (Bare m b) b (λ d ts. refl) (λ zs. grammar.bare) (sets_done (assignments_cut c u) (λ vs v. where_done (where_cut w v)))
updates_done grammar.quoted c w (keep (cuts.quoted {b = b}) (keep cuts.key u)) = behind_set (Quoted b) b (λ d ts. refl) (λ zs. grammar.quoted) (sets_done (assignments_cut c u) (λ vs v. where_done (where_cut w v)))

updated : {ps : List Token} {a : List ℕ × (List Set × Option Filter)} → Updates ps a → Statement (Key word.Update ∷ ps) (stmt.Update a.0 a.1.0 a.1.1)
updated (updates n (sets c w)) = grammar.update n c w

data Deletes : List Token → List ℕ × Option Filter → Type 0 where
  deletes : {xs ys : List Token} {name : List ℕ} {f : Option Filter} → Name xs name ys → Where ys f [] → Deletes xs (name, f)

deletes_done : {xs ys us : List Token} {name : List ℕ} {f : Option Filter} → Name xs name ys → Where ys f [] → Under xs us → Done Deletes us
deletes_done n w cut = by (X ∷ []) ends.name (λ d. refl) (120 ∷ [], None) (deletes grammar.bare grammar.each)
deletes_done grammar.bare w (keep (cuts.bare {meaning = m} {b = b}) u) = done_behind (Bare m b) (λ d. refl) (λ a. (b, a)) (λ ps a t. deletes grammar.bare t) (where_done (where_cut w u))
deletes_done grammar.quoted w (keep (cuts.quoted {b = b}) u) = done_behind (Quoted b) (λ d. refl) (λ a. (b, a)) (λ ps a t. deletes grammar.quoted t) (where_done (where_cut w u))

deleted : {ps : List Token} {a : List ℕ × Option Filter} → Deletes ps a → Statement (Key word.Delete ∷ Key word.From ∷ ps) (stmt.Delete a.0 a.1)
deleted (deletes n w) = grammar.delete n w

delete_done : {us : List Token} → Done Deletes us → Done Statement (Key word.Delete ∷ Key word.From ∷ us)
delete_done (done f g n e l a r) = done f g n e l (stmt.Delete a.0 a.1) (deleted r)

-- ---- transactions and settings

work_done : {xs us : List Token} → Work xs [] → Under xs us → Done (λ ts (u : Unit {0}). Work ts []) us
work_done w cut = by [] ends.nothing (λ d. refl) tt grammar.unsaid
work_done grammar.work (keep cuts.bare cut) = by [] ends.nothing (λ d. refl) tt grammar.work

last_name_done : {xs us : List Token} {name : List ℕ} → Name xs name [] → Under xs us → Done (λ ts n. Name ts n []) us
last_name_done n cut = by (X ∷ []) ends.name (λ d. refl) (120 ∷ []) grammar.bare
last_name_done grammar.bare (keep (cuts.bare {b = b}) cut) = by [] ends.nothing (λ d. refl) b grammar.bare
last_name_done grammar.quoted (keep (cuts.quoted {b = b}) cut) = by [] ends.nothing (λ d. refl) b grammar.quoted

data To : List Token → List ℕ → Type 0 where
  to : {xs ys : List Token} {name : List ℕ} → SavepointWord xs ys → Name ys name [] → To xs name

to_done : {xs ys us : List Token} {name : List ℕ} → SavepointWord xs ys → Name ys name [] → Under xs us → Done To us
to_done grammar.unsaid n u = remade (λ a. a) (λ ps a n. to grammar.unsaid n) (last_name_done n u)
to_done grammar.savepoint n cut = by (X ∷ []) ends.name (λ d. refl) (120 ∷ []) (to grammar.unsaid grammar.bare)
to_done grammar.savepoint n (keep (cuts.bare {b = b}) cut) = by [] ends.nothing (λ d. refl) b (to grammar.unsaid grammar.bare)
to_done grammar.savepoint n (keep (cuts.bare {b = b}) (keep k u)) = done_behind (Bare (Some word.Savepoint) b) (λ d. refl) (λ a. a) (λ ps a n. to grammar.savepoint n) (last_name_done n (keep k u))

rolled_back : {ps qs : List Token} {a b : List ℕ} → Work ps (Key word.To ∷ qs) → To qs b → Statement (Bare (Some word.Rollback) a ∷ ps) (stmt.RollbackTo b)
rolled_back w (to s n) = grammar.rollback_to w s n

roll_back_done : {us : List Token} (a : List ℕ) → Done To us → Done Statement (Bare (Some word.Rollback) a ∷ Key word.To ∷ us)
roll_back_done a (done f g n e l b r) = done f g n e l (stmt.RollbackTo b) (rolled_back grammar.unsaid r)

roll_back_work_done : {us : List Token} (a b : List ℕ) → Done To us → Done Statement (Bare (Some word.Rollback) a ∷ Bare (Some word.Work) b ∷ Key word.To ∷ us)
roll_back_work_done a b (done f g n e l c r) = done f g n e l (stmt.RollbackTo c) (rolled_back grammar.work r)

data Levels : List Token → Level → Type 0 where
  levels_of : {xs : List Token} {a b c : List ℕ} {name : Level} → LevelName xs name → Levels (Bare (Some word.Transaction) a ∷ Bare (Some word.Isolation) b ∷ Bare (Some word.Level) c ∷ xs) name

level_name_done : {xs us : List Token} {name : Level} → LevelName xs name → Under xs us → Done LevelName us
level_name_done n cut = by (said word.Serializable ∷ []) ends.serializable (λ d. refl) levels.Serializable grammar.serializable
level_name_done grammar.read_uncommitted (keep cuts.bare cut) = by (said word.Committed ∷ []) ends.committed (λ d. refl) levels.ReadCommitted grammar.read_committed
level_name_done grammar.read_uncommitted (keep cuts.bare (keep cuts.bare cut)) = by [] ends.nothing (λ d. refl) levels.ReadUncommitted grammar.read_uncommitted
level_name_done grammar.read_committed (keep cuts.bare cut) = by (said word.Committed ∷ []) ends.committed (λ d. refl) levels.ReadCommitted grammar.read_committed
level_name_done grammar.read_committed (keep cuts.bare (keep cuts.bare cut)) = by [] ends.nothing (λ d. refl) levels.ReadCommitted grammar.read_committed
level_name_done grammar.repeatable_read (keep cuts.bare cut) = by (said word.Read ∷ []) ends.read (λ d. refl) levels.RepeatableRead grammar.repeatable_read
level_name_done grammar.repeatable_read (keep cuts.bare (keep cuts.bare cut)) = by [] ends.nothing (λ d. refl) levels.RepeatableRead grammar.repeatable_read
level_name_done grammar.serializable (keep cuts.bare cut) = by [] ends.nothing (λ d. refl) levels.Serializable grammar.serializable

behind_level : {us : List Token} (a b c : List ℕ) → Done LevelName us → Done Levels (Bare (Some word.Transaction) a ∷ Bare (Some word.Isolation) b ∷ Bare (Some word.Level) c ∷ us)
behind_level a b c (done f g n e l k r) = done f g n e l k (levels_of r)

levels_done : {xs us : List Token} {name : Level} → Levels xs name → Under xs us → Done Levels us
levels_done l cut = by (said word.Transaction ∷ said word.Isolation ∷ said word.Level ∷ said word.Serializable ∷ []) ends.set_transaction (λ d. refl) levels.Serializable (levels_of grammar.serializable)
levels_done (levels_of n) (keep cuts.bare cut) = by (said word.Isolation ∷ said word.Level ∷ said word.Serializable ∷ []) ends.isolation (λ d. refl) levels.Serializable (levels_of grammar.serializable)
levels_done (levels_of n) (keep cuts.bare (keep cuts.bare cut)) = by (said word.Level ∷ said word.Serializable ∷ []) ends.level (λ d. refl) levels.Serializable (levels_of grammar.serializable)
levels_done (levels_of n) (keep (cuts.bare {b = a}) (keep (cuts.bare {b = b}) (keep (cuts.bare {b = c}) u))) = behind_level a b c (level_name_done n u)

next_level : {us : List Token} → Done Levels us → Done Statement (Key word.Set ∷ us)
next_level (done f g n e l k r) = done f g n e l (stmt.SetLevel NextTransaction k) (set r)
  where
    set : {ps : List Token} {k : Level} → Levels ps k → Statement (Key word.Set ∷ ps) (stmt.SetLevel NextTransaction k)
    set (levels_of n) = grammar.set_level grammar.next n

session_level : {us : List Token} (a : List ℕ) → Done Levels us → Done Statement (Key word.Set ∷ Bare (Some word.Session) a ∷ us)
session_level a (done f g n e l k r) = done f g n e l (stmt.SetLevel Session k) (set r)
  where
    set : {ps : List Token} {k : Level} → Levels ps k → Statement (Key word.Set ∷ Bare (Some word.Session) a ∷ ps) (stmt.SetLevel Session k)
    set (levels_of n) = grammar.set_level grammar.session n

set_scope_done : {xs ys us : List Token} {a b c : List ℕ} {scope : LevelScope} {name : Level} → Scope xs scope (Bare (Some word.Transaction) a ∷ Bare (Some word.Isolation) b ∷ Bare (Some word.Level) c ∷ ys) → LevelName ys name → Under xs us → Done Statement (Key word.Set ∷ us)
set_scope_done {a = a} {b = b} {c = c} grammar.next n u = next_level (levels_done (levels_of {a = a} {b = b} {c = c} n) u)
set_scope_done {a = a} {b = b} {c = c} grammar.session n cut = next_level (levels_done (levels_of {a = a} {b = b} {c = c} n) cut)
set_scope_done {a = a} {b = b} {c = c} grammar.session n (keep (cuts.bare {b = s}) u) = session_level s (levels_done (levels_of {a = a} {b = b} {c = c} n) u)

switched : {t u : Token} {on : Bool} → Switch t on → Like t u → (on' : Bool) × Switch u on'
switched grammar.zero_digit cuts.number = (false, grammar.zero_digit)
switched grammar.one_digit cuts.number = (true, grammar.one_digit)
switched grammar.on cuts.bare = (true, grammar.on)
switched grammar.off cuts.bare = (false, grammar.off)

switch_neutral : {t : Token} {on : Bool} → Switch t on → (d : ℕ) → level d (t ∷ []) ≡ d
switch_neutral grammar.zero_digit d = refl
switch_neutral grammar.one_digit d = refl
switch_neutral grammar.on d = refl
switch_neutral grammar.off d = refl

switch_done : {t : Token} {us : List Token} {a : List ℕ} {on : Bool} → Switch t on → Under (Bare (Some word.Autocommit) a ∷ Compare Equal ∷ t ∷ []) us → Done Statement (Key word.Set ∷ us)
switch_done s cut = by (said word.Autocommit ∷ Compare Equal ∷ Zero ∷ []) ends.autocommit (λ d. refl) (stmt.SetAutocommit false) (grammar.set_autocommit grammar.zero_digit)
switch_done s (keep cuts.bare cut) = by (Compare Equal ∷ Zero ∷ []) ends.equals_zero (λ d. refl) (stmt.SetAutocommit false) (grammar.set_autocommit grammar.zero_digit)
switch_done s (keep cuts.bare (keep cuts.compare cut)) = by (Zero ∷ []) ends.zero (λ d. refl) (stmt.SetAutocommit false) (grammar.set_autocommit grammar.zero_digit)
switch_done s (keep cuts.bare (keep cuts.compare (keep k cut))) = let w = switched s k in by [] ends.nothing (λ d. switch_neutral w.1 d) (stmt.SetAutocommit w.0) (grammar.set_autocommit w.1)

-- ---- statements

begun : {us : List Token} (a : List ℕ) → Done (λ ts (u : Unit {0}). Work ts []) us → Done Statement (Bare (Some word.Begin) a ∷ us)
begun a d = done_behind (Bare (Some word.Begin) a) (λ d. refl) (λ u. stmt.Begin false) (λ ps u w. grammar.begin w) d

committed : {us : List Token} (a : List ℕ) → Done (λ ts (u : Unit {0}). Work ts []) us → Done Statement (Bare (Some word.Commit) a ∷ us)
committed a d = done_behind (Bare (Some word.Commit) a) (λ d. refl) (λ u. stmt.Commit) (λ ps u w. grammar.commit w) d

rolled : {us : List Token} (a : List ℕ) → Done (λ ts (u : Unit {0}). Work ts []) us → Done Statement (Bare (Some word.Rollback) a ∷ us)
rolled a d = done_behind (Bare (Some word.Rollback) a) (λ d. refl) (λ u. stmt.Rollback) (λ ps u w. grammar.rollback w) d

pub statement_done : {xs us : List Token} {s : Stmt} → Statement xs s → Under xs us → Done Statement us
statement_done s cut = by (said word.Begin ∷ []) ends.begin (λ d. refl) (stmt.Begin false) (grammar.begin grammar.unsaid)
statement_done (grammar.create_table i n c e) (keep cuts.key u) = create_done i (named_table n (table c e)) u
statement_done (grammar.select c n w l) (keep cuts.key u) = select_done (choice_cut c u) (λ vs v. from_table_done n w l v)
statement_done (grammar.insert grammar.unsaid n c v t) (keep cuts.key u) = insert_done (into_table_done n c (listed v t) u)
statement_done (grammar.insert grammar.into n c v t) (keep cuts.key cut) = insert_done (into_table_done n c (listed v t) cut)
statement_done (grammar.insert grammar.into n c v t) (keep cuts.key (keep cuts.key u)) = insert_into_done (into_table_done n c (listed v t) u)
statement_done (grammar.update n c w) (keep cuts.key u) = done_behind (Key word.Update) (λ d. refl) (λ a. stmt.Update a.0 a.1.0 a.1.1) (λ ps a t. updated t) (updates_done n c w u)
statement_done (grammar.delete n w) (keep cuts.key cut) = by (Key word.From ∷ X ∷ []) ends.from (λ d. refl) (stmt.Delete (120 ∷ []) None) (grammar.delete grammar.bare grammar.each)
statement_done (grammar.delete n w) (keep cuts.key (keep cuts.key u)) = delete_done (deletes_done n w u)
statement_done (grammar.begin w) (keep (cuts.bare {b = b}) u) = begun b (work_done w u)
statement_done grammar.start (keep cuts.bare cut) = by (said word.Transaction ∷ []) ends.transaction (λ d. refl) (stmt.Begin false) grammar.start
statement_done grammar.start (keep cuts.bare (keep cuts.bare cut)) = by [] ends.nothing (λ d. refl) (stmt.Begin false) grammar.start
statement_done grammar.start_snapshot (keep cuts.bare cut) = by (said word.Transaction ∷ []) ends.transaction (λ d. refl) (stmt.Begin false) grammar.start
statement_done grammar.start_snapshot (keep cuts.bare (keep cuts.bare cut)) = by [] ends.nothing (λ d. refl) (stmt.Begin false) grammar.start
statement_done grammar.start_snapshot (keep cuts.bare (keep cuts.bare (keep cuts.key cut))) = by (said word.Consistent ∷ said word.Snapshot ∷ []) ends.consistent (λ d. refl) (stmt.Begin true) grammar.start_snapshot
statement_done grammar.start_snapshot (keep cuts.bare (keep cuts.bare (keep cuts.key (keep cuts.bare cut)))) = by (said word.Snapshot ∷ []) ends.snapshot (λ d. refl) (stmt.Begin true) grammar.start_snapshot
statement_done grammar.start_snapshot (keep cuts.bare (keep cuts.bare (keep cuts.key (keep cuts.bare (keep cuts.bare cut))))) = by [] ends.nothing (λ d. refl) (stmt.Begin true) grammar.start_snapshot
statement_done (grammar.commit w) (keep (cuts.bare {b = b}) u) = committed b (work_done w u)
statement_done (grammar.rollback w) (keep (cuts.bare {b = b}) u) = rolled b (work_done w u)
statement_done (grammar.rollback_to w s n) (keep cuts.bare cut) = by [] ends.nothing (λ d. refl) stmt.Rollback (grammar.rollback grammar.unsaid)
statement_done (grammar.rollback_to grammar.unsaid s n) (keep (cuts.bare {b = b}) (keep cuts.key u)) = roll_back_done b (to_done s n u)
statement_done (grammar.rollback_to grammar.work s n) (keep cuts.bare (keep cuts.bare cut)) = by [] ends.nothing (λ d. refl) stmt.Rollback (grammar.rollback grammar.work)
statement_done (grammar.rollback_to grammar.work s n) (keep (cuts.bare {b = a}) (keep (cuts.bare {b = b}) (keep cuts.key u))) = roll_back_work_done a b (to_done s n u)
statement_done (grammar.savepoint n) (keep (cuts.bare {b = b}) u) = done_behind (Bare (Some word.Savepoint) b) (λ d. refl) (λ n. stmt.Savepoint n) (λ ps a n. grammar.savepoint n) (last_name_done n u)
statement_done (grammar.set_autocommit s) (keep cuts.key u) = switch_done s u
statement_done (grammar.set_level c n) (keep cuts.key u) = set_scope_done c n u
