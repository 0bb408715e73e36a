-- Of the same tokens one statement is read, up to where its boxes lie: clause by clause, where each ends where
-- the other does. So a text spells one statement.
use Rattle.std.proofs.Common.{◌≡◌, ℕ, List, [], ◌∷◌, map, Option, Some, Bool, refl, sym, ap, subst}
use Rattle.inno_types.specs.declared.lock.Mode.{Mode}
use Rattle.inno_types.specs.declared.lock.Level.{Level}
use Rattle.inno_types.specs.declared.stmt.Filter.{Filter}
use Rattle.inno_types.specs.declared.stmt.Set.{Set}
use Rattle.inno_types.specs.declared.stmt.Selected.{Selected}
use Rattle.inno_types.specs.declared.stmt.Selected.TheVariants.{Columns}
use Rattle.inno_types.specs.declared.stmt.LevelScope.{LevelScope}
use Rattle.inno_types.specs.declared.stmt.Stmt.{Stmt}
use Rattle.sql_grammar.specs.declared.token.Word.TheVariants as word
use Rattle.sql_grammar.specs.declared.token.Token.{Token}
use Rattle.sql_grammar.specs.declared.token.Token.TheVariants.{Key, Bare, Comma, Star}
use Rattle.sql_grammar.specs.Grammar.{Name, Commas, Expression, Loose, Condition, Where, Assignment, Choice, Locking, Into, ColumnList, ValuesWord, Work, SavepointWord, Switch, Scope, LevelName, Statement, Spells}
use Rattle.sql_grammar.specs.Grammar as grammar
use Rattle.law_histories.specs.Trees.{FilterTree, ExprTree, set_tree, where_tree, tree_of, SameStatement}
use Rattle.law_histories.proofs.Machine.{NoOperator}
use Rattle.law_histories.proofs.Tokens.{tokens_one}
use Rattle.law_histories.proofs.Parts.{Same, behind, BeginsNoComma, name_same, names_same, tuples_same, commas_one}
use Rattle.law_histories.proofs.Conditions.{condition_one}
use Rattle.law_histories.proofs.Conditions as conditions
use Rattle.law_histories.proofs.Expressions.{expression_one}
use Rattle.law_histories.proofs.Expressions as expressions
use Rattle.law_histories.proofs.Definitions.{definitions_same, skips_one}

-- ---- WHERE and locks

-- what may stand behind a WHERE clause, or in its place
abbrev EndsWhere : List Token → Type 0
EndsWhere [] = Unit {0}
EndsWhere (Key word.For ∷ rest) = Unit {0}
EndsWhere (Key word.Lock ∷ rest) = Unit {0}
EndsWhere other = ⊥

ends_condition : (xs : List Token) → EndsWhere xs → NoOperator (conditions.follow xs)
ends_condition [] h = tt
ends_condition (Key word.For ∷ rest) h = tt
ends_condition (Key word.Lock ∷ rest) h = tt
ends_condition (other ∷ rest) h = absurd h

where_same : {xs us ys zs : List Token} {f g : Option Filter} → xs ≡ us → Where xs f ys → Where us g zs → EndsWhere ys → EndsWhere zs
    → Same (where_tree f) (where_tree g) ys zs
where_same e grammar.each grammar.each h k = (refl, e)
where_same e grammar.each (grammar.those d) h k = absurd (subst EndsWhere e h)
where_same e (grammar.those c) grammar.each h k = absurd (subst EndsWhere (sym e) k)
where_same e (grammar.those {ys = ys} c) (grammar.those {ys = zs} {f = g} d) h k =
    let moved = subst (λ (ts : List Token). Condition Loose ts g zs) (sym (behind e)) d in
    let s = condition_one c moved (ends_condition ys h) (ends_condition zs k) in
    (ap (λ (t : FilterTree). Some t) s.0, s.1)

locking_ends : {xs : List Token} {lock : Option Mode} → Locking xs lock → EndsWhere xs
locking_ends grammar.unsaid = tt
locking_ends grammar.for_share = tt
locking_ends grammar.for_update = tt
locking_ends grammar.lock_in_share_mode = tt

locking_one : {xs : List Token} {a b : Option Mode} → Locking xs a → Locking xs b → a ≡ b
locking_one grammar.unsaid grammar.unsaid = refl
locking_one grammar.for_share grammar.for_share = refl
locking_one grammar.for_update grammar.for_update = refl
locking_one grammar.lock_in_share_mode grammar.lock_in_share_mode = refl

no_star : {A : Type 0} {rest ys : List Token} {names : List (List ℕ)} → Commas Name (Star ∷ rest) names ys → A
no_star (grammar.last n) = elim n [ ]
no_star (grammar.more n c) = elim n [ ]

choice_one : {xs ys zs : List Token} {a b : Selected} → Choice xs a (Key word.From ∷ ys) → Choice xs b (Key word.From ∷ zs) → Same a b ys zs
choice_one grammar.all grammar.all = (refl, refl)
choice_one grammar.all (grammar.some c) = no_star c
choice_one (grammar.some c) grammar.all = no_star c
choice_one (grammar.some c) (grammar.some d) = let s = names_same refl c d tt tt in (ap Columns s.0, behind s.1)

-- ---- assignments

-- what may stand behind an assignment
abbrev EndsAssignment : List Token → Type 0
EndsAssignment [] = Unit {0}
EndsAssignment (Comma ∷ rest) = Unit {0}
EndsAssignment (Key word.Where ∷ rest) = Unit {0}
EndsAssignment other = ⊥

ends_expression : (xs : List Token) → EndsAssignment xs → NoOperator (expressions.follow xs)
ends_expression [] h = tt
ends_expression (Comma ∷ rest) h = tt
ends_expression (Key word.Where ∷ rest) h = tt
ends_expression (other ∷ rest) h = absurd h

-- an assignment, by its tree
data Assigns : List Token → List ℕ × ExprTree → List Token → Type 0 where
  assigns : {xs ys : List Token} {set : Set} → Assignment xs set ys → Assigns xs (set_tree set) ys

assigns_same : {xs us ys zs : List Token} {a b : List ℕ × ExprTree} → xs ≡ us → Assigns xs a ys → Assigns us b zs → EndsAssignment ys → EndsAssignment zs
    → Same a b ys zs
assigns_same e (assigns (grammar.assign {zs = ys} n x)) (assigns (grammar.assign {zs = zs} {e = f} m y)) h k =
    let s = name_same e n m in
    let moved = subst (λ (ts : List Token). Expression Loose ts f zs) (sym (behind s.1)) y in
    let t = expression_one x moved (ends_expression ys h) (ends_expression zs k) in
    (cc, t.1)

by_trees : {xs ys : List Token} {sets : List Set} → Commas Assignment xs sets ys → Commas Assigns xs (map set_tree sets) ys
by_trees (grammar.last a) = grammar.last (assigns a)
by_trees (grammar.more a c) = grammar.more (assigns a) (by_trees c)

where_no_comma : {xs : List Token} {f : Option Filter} → Where xs f [] → BeginsNoComma xs
where_no_comma grammar.each = tt
where_no_comma (grammar.those c) = tt

where_ends : {xs : List Token} {f : Option Filter} → Where xs f [] → EndsAssignment xs
where_ends grammar.each = tt
where_ends (grammar.those c) = tt

sets_same : {xs us ys zs : List Token} {a b : List Set} {f g : Option Filter} → xs ≡ us → Commas Assignment xs a ys → Commas Assignment us b zs
    → Where ys f [] → Where zs g [] → Same (map set_tree a) (map set_tree b) ys zs
sets_same e c d w v =
    commas_one Assigns EndsAssignment (λ ys. tt) (λ xs us ys zs a b e i j f g. assigns_same e i j f g) e (by_trees c) (by_trees d) (where_ends w)
    (where_ends v) (where_no_comma w) (where_no_comma v)

-- ---- INSERT

into_one : {xs ys zs us vs : List Token} {table other : List ℕ} → Into xs ys → Into xs zs → Name ys table us → Name zs other vs → ys ≡ zs
into_one grammar.unsaid grammar.unsaid n m = refl
into_one grammar.unsaid grammar.into n m = elim n [ ]
into_one grammar.into grammar.unsaid n m = elim m [ ]
into_one grammar.into grammar.into n m = refl

columns_one : {xs ys zs us vs : List Token} {a b : Option (List (List ℕ))} → ColumnList xs a ys → ColumnList xs b zs → ValuesWord ys us → ValuesWord zs vs
    → Same a b ys zs
columns_one grammar.unsaid grammar.unsaid v w = (refl, refl)
columns_one grammar.unsaid (grammar.listed c) v w = elim v [ ]
columns_one (grammar.listed c) grammar.unsaid v w = elim w [ ]
columns_one (grammar.listed c) (grammar.listed d) v w = let s = names_same refl c d tt tt in (ap (λ (names : List (List ℕ)). Some names) s.0, behind s.1)

values_one : {xs ys zs : List Token} → ValuesWord xs ys → ValuesWord xs zs → ys ≡ zs
values_one grammar.values grammar.values = refl
values_one grammar.value grammar.value = refl

-- ---- transactions and settings

no_to : {A : Type 0} {xs ys : List Token} → Work xs [] → Work xs (Key word.To ∷ ys) → A
no_to grammar.unsaid w = elim w [ ]
no_to grammar.work w = elim w [ ]

work_to : {xs ys zs : List Token} → Work xs (Key word.To ∷ ys) → Work xs (Key word.To ∷ zs) → ys ≡ zs
work_to grammar.unsaid grammar.unsaid = refl
work_to grammar.work grammar.work = refl

savepoint_one : {xs ys zs : List Token} {a b : List ℕ} → SavepointWord xs ys → SavepointWord xs zs → Name ys a [] → Name zs b [] → a ≡ b
savepoint_one grammar.unsaid grammar.unsaid n m = (name_same refl n m).0
savepoint_one grammar.unsaid grammar.savepoint grammar.bare m = elim m [ ]
savepoint_one grammar.savepoint grammar.unsaid n grammar.bare = elim n [ ]
savepoint_one grammar.savepoint grammar.savepoint n m = (name_same refl n m).0

switch_one : {t : Token} {a b : Bool} → Switch t a → Switch t b → a ≡ b
switch_one grammar.zero_digit grammar.zero_digit = refl
switch_one grammar.one_digit grammar.one_digit = refl
switch_one grammar.on grammar.on = refl
switch_one grammar.off grammar.off = refl

scope_one : {xs ys zs : List Token} {a b : List ℕ} {s t : LevelScope} → Scope xs s (Bare (Some word.Transaction) a ∷ ys)
    → Scope xs t (Bare (Some word.Transaction) b ∷ zs) → Same s t ys zs
scope_one grammar.next grammar.next = (refl, refl)
scope_one grammar.session grammar.session = (refl, refl)

level_one : {xs : List Token} {a b : Level} → LevelName xs a → LevelName xs b → a ≡ b
level_one grammar.read_uncommitted grammar.read_uncommitted = refl
level_one grammar.read_committed grammar.read_committed = refl
level_one grammar.repeatable_read grammar.repeatable_read = refl
level_one grammar.serializable grammar.serializable = refl

-- ---- any statement

statement_one : {xs : List Token} {a b : Stmt} → Statement xs a → Statement xs b → tree_of a ≡ tree_of b
statement_one (grammar.create_table i n d x) (grammar.create_table j m f y) =
    let s = skips_one i j n m in let t = name_same s.1 n m in let u = definitions_same (behind t.1) d f in cc
statement_one (grammar.select c n w l) (grammar.select {lock = lock} d m v k) =
    let s = choice_one c d in
    let t = name_same s.1 n m in
    let u = where_same t.1 w v (locking_ends l) (locking_ends k) in
    let o = locking_one l (subst (λ (ts : List Token). Locking ts lock) (sym u.1) k) in cc
statement_one (grammar.insert i n c v t) (grammar.insert {ws = ws} {vs = vs} {columns = columns} j m d w u) =
    let a = name_same (into_one i j n m) n m in
    let b = columns_one c (subst (λ (ts : List Token). ColumnList ts columns ws) (sym a.1) d) v w in
    let e = values_one v (subst (λ (ts : List Token). ValuesWord ts vs) (sym b.1) w) in
    let f = tuples_same e t u tt tt in cc
statement_one (grammar.update n c w) (grammar.update m d v) =
    let s = name_same refl n m in
    let t = sets_same (behind s.1) c d w v in
    let u = where_same t.1 w v tt tt in cc
statement_one (grammar.delete n w) (grammar.delete m v) =
    let s = name_same refl n m in let t = where_same s.1 w v tt tt in cc
statement_one (grammar.begin w) (grammar.begin v) = refl
statement_one grammar.start grammar.start = refl
statement_one grammar.start_snapshot grammar.start_snapshot = refl
statement_one (grammar.commit w) (grammar.commit v) = refl
statement_one (grammar.rollback w) (grammar.rollback v) = refl
statement_one (grammar.rollback w) (grammar.rollback_to v s n) = no_to w v
statement_one (grammar.rollback_to w s n) (grammar.rollback v) = no_to v w
statement_one (grammar.rollback_to w s n) (grammar.rollback_to {zs = zs} v t m) =
    let moved = subst (λ (ts : List Token). SavepointWord ts zs) (sym (work_to w v)) t in
    let o = savepoint_one s moved n m in cc
statement_one (grammar.savepoint n) (grammar.savepoint m) = let s = name_same refl n m in cc
statement_one (grammar.set_autocommit s) (grammar.set_autocommit t) = let o = switch_one s t in cc
statement_one (grammar.set_autocommit s) (grammar.set_level h n) = elim h [ ]
statement_one (grammar.set_level h n) (grammar.set_autocommit s) = elim h [ ]
statement_one (grammar.set_level h n) (grammar.set_level {name = name} k m) =
    let s = scope_one h k in
    let o = level_one n (subst (λ (ts : List Token). LevelName ts name) (sym (behind (behind s.1))) m) in cc

pub one_tree : (text : List ℕ) (a b : Stmt) → Spells text a → Spells text b → SameStatement a b
one_tree text a b p q = statement_one p.parsed (subst (λ (ts : List Token). Statement ts b) (tokens_one q.lexed p.lexed) q.parsed)
