-- What is spelled so is read: statements.
use Rattle.std.proofs.Common.{◌≡◌, ℕ, ◌<◌, List, [], ◌∷◌, length, Option, Ok, refl, ◌∙◌, arith}
use Rattle.inno_types.specs.declared.lock.Mode.{Mode}
use Rattle.inno_types.specs.declared.stmt.Filter.{Filter}
use Rattle.inno_types.specs.declared.stmt.Set.{Set}
use Rattle.inno_types.specs.declared.stmt.Selected.{Selected}
use Rattle.inno_types.specs.declared.stmt.Selected.TheVariants.{Columns}
use Rattle.inno_types.specs.declared.stmt.Stmt.{Stmt}
use Rattle.sql_grammar.specs.declared.token.Word.TheVariants as word
use Rattle.sql_grammar.specs.declared.token.Token.{Token}
use Rattle.sql_grammar.specs.declared.token.Token.TheVariants.{Key, Comma}
use Rattle.sql_grammar.specs.Grammar.{Name, Commas, Choice, Locking, Where, Assignment, Statement}
use Rattle.sql_grammar.specs.Grammar as grammar
use Rattle.sql_conditions.specs.Parts.{◌>>=◌, name_at, commas_at}
use Rattle.sql_conditions.proofs.Complete.{name_complete, name_shorter, BeginsNoComma, commas_complete, names_complete}
use Rattle.sql_conditions.proofs.CompleteConditions.{condition_complete}
use Rattle.sql_conditions.proofs.CompleteConditions as conditions
use Rattle.sql_conditions.proofs.CompleteExpressions.{expression_complete, expression_shorter}
use Rattle.sql_conditions.proofs.CompleteExpressions as expressions
use Rattle.sql_simple_statements.specs.Statements.{create_statement_of}
use Rattle.sql_simple_statements.proofs.Complete.{create_complete, insert_complete, begin_complete, start_complete, start_snapshot_complete, commit_complete, rollback_complete, rollback_to_complete, savepoint_statement_complete, set_autocommit_complete, set_level_complete}
use Rattle.sql_text.specs.Whole as read

-- ---- SELECT, UPDATE and DELETE

names_choice : {xs ys : List Token} {names : List (List ℕ)} → Commas Name xs names ys → BeginsNoComma ys → read.choice_at xs ≡ (commas_at name_at xs >>= λ names. Ok (Columns names.0, names.1))
unfolding read.choice_at
names_choice (grammar.last grammar.bare) h = refl
names_choice (grammar.last grammar.quoted) h = refl
names_choice (grammar.more grammar.bare c) h = refl
names_choice (grammar.more grammar.quoted c) h = refl

choice_complete : {xs ys : List Token} {selected : Selected} → Choice xs selected (Key word.From ∷ ys) → read.choice_at xs ≡ Ok (selected, Key word.From ∷ ys)
unfolding read.choice_at
choice_complete grammar.all = refl
choice_complete (grammar.some c) = names_choice c tt ∙ rw (names_complete c tt) refl

locking_complete : {xs : List Token} {lock : Option Mode} → Locking xs lock → read.locking_of xs ≡ Ok lock
unfolding read.locking_of read.for_lock_of read.in_share_mode_of read.share_mode_of read.mode_of
locking_complete grammar.unsaid = refl
locking_complete grammar.for_share = refl
locking_complete grammar.for_update = refl
locking_complete grammar.lock_in_share_mode = refl

-- what may stand behind a WHERE clause, or in its place
abbrev EndsWhere : List Token → Type 0
EndsWhere [] = Unit {0}
EndsWhere (Key word.For ∷ rest) = Unit {0}
EndsWhere (Key word.Lock ∷ rest) = Unit {0}
EndsWhere other = ⊥

ends_condition : (xs : List Token) → EndsWhere xs → conditions.BeginsNoOperator xs
ends_condition [] h = tt
ends_condition (Key word.For ∷ rest) h = tt
ends_condition (Key word.Lock ∷ rest) h = tt
ends_condition (other ∷ rest) h = absurd h

no_where : (xs : List Token) → EndsWhere xs → read.after_where xs ≡ Ok xs
unfolding read.after_where
no_where [] h = refl
no_where (Key word.For ∷ rest) h = refl
no_where (Key word.Lock ∷ rest) h = refl
no_where (other ∷ rest) h = absurd h

where_complete : {xs ys : List Token} {f : Option Filter} → Where xs f ys → EndsWhere ys → read.after_where xs ≡ Ok ys
unfolding read.after_where
where_complete {xs = xs} grammar.each h = no_where xs h
where_complete (grammar.those {xs = xs} {ys = ys} {f = f} c) h = condition_complete xs ys f c (ends_condition ys h)

locking_ends : {xs : List Token} {lock : Option Mode} → Locking xs lock → EndsWhere xs
locking_ends grammar.unsaid = tt
locking_ends grammar.for_share = tt
locking_ends grammar.for_update = tt
locking_ends grammar.lock_in_share_mode = tt

select_complete : {xs ys zs ws : List Token} {selected : Selected} {table : List ℕ} {f : Option Filter} {lock : Option Mode} → Choice xs selected (Key word.From ∷ ys) → Name ys table zs → Where zs f ws → Locking ws lock → read.select_of xs ≡ Ok tt
unfolding read.select_of read.from_table_at read.where_lock_of
select_complete c n w l = rw (choice_complete c, name_complete n, where_complete w (locking_ends l), locking_complete l) refl

-- what may stand behind an assignment
abbrev EndsAssignment : List Token → Type 0
EndsAssignment [] = Unit {0}
EndsAssignment (Comma ∷ rest) = Unit {0}
EndsAssignment (Key word.Where ∷ rest) = Unit {0}
EndsAssignment other = ⊥

ends_expression : (xs : List Token) → EndsAssignment xs → expressions.BeginsNoOperator xs
ends_expression [] h = tt
ends_expression (Comma ∷ rest) h = tt
ends_expression (Key word.Where ∷ rest) h = tt
ends_expression (other ∷ rest) h = absurd h

-- assignments, each by its column
data Assigns : List Token → List ℕ → List Token → Type 0 where
  assigns : {xs ys : List Token} {set : Set} → Assignment xs set ys → Assigns xs set.column ys

assignment_complete : {xs ys : List Token} {column : List ℕ} → Assigns xs column ys → EndsAssignment ys → read.assignment_at xs ≡ Ok (column, ys)
unfolding read.assignment_at
assignment_complete (assigns (grammar.assign {ys = ys} {zs = zs} {e = e} n x)) h = rw (name_complete n, expression_complete ys zs e x (ends_expression zs h)) refl

assignment_shorter : {xs ys : List Token} {column : List ℕ} → Assigns xs column ys → length ys < length xs
assignment_shorter (assigns (grammar.assign n x)) = omega (arith, name_shorter n, expression_shorter x)

by_columns : {xs ys : List Token} {sets : List Set} → Commas Assignment xs sets ys → Commas Assigns xs (read.columns_of sets) ys
by_columns (grammar.last a) = grammar.last (assigns a)
by_columns (grammar.more a c) = grammar.more (assigns a) (by_columns c)

where_no_comma : {xs : List Token} {f : Option Filter} → Where xs f [] → BeginsNoComma xs
where_no_comma grammar.each = tt
where_no_comma (grammar.those c) = tt

where_ends_assignment : {xs : List Token} {f : Option Filter} → Where xs f [] → EndsAssignment xs
where_ends_assignment grammar.each = tt
where_ends_assignment (grammar.those c) = tt

sets_complete : {xs ys : List Token} {sets : List Set} {f : Option Filter} → Commas Assignment xs sets ys → Where ys f [] → commas_at read.assignment_at xs ≡ Ok (read.columns_of sets, ys)
sets_complete c w = commas_complete read.assignment_at Assigns EndsAssignment (λ ys. tt) (λ xs ys a d e. assignment_complete d e) (λ xs ys a d. assignment_shorter d) (by_columns c) (where_no_comma w) (where_ends_assignment w)

update_complete : {xs ys zs : List Token} {table : List ℕ} {sets : List Set} {f : Option Filter} → Name xs table (Key word.Set ∷ ys) → Commas Assignment ys sets zs → Where zs f [] → read.update_of xs ≡ Ok tt
unfolding read.update_of read.set_table_at read.last_where_of
update_complete n c w = rw (name_complete n, sets_complete c w, where_complete w tt) refl

delete_complete : {xs ys : List Token} {table : List ℕ} {f : Option Filter} → Name xs table ys → Where ys f [] → read.delete_of (Key word.From ∷ xs) ≡ Ok tt
unfolding read.delete_of read.from_table_at read.last_where_of
delete_complete n w = rw (name_complete n, where_complete w tt) refl

-- ---- any statement

pub statement_complete : {xs : List Token} {s : Stmt} → Statement xs s → read.statement_of xs ≡ Ok tt
unfolding read.statement_of read.first_of read.behind_key read.behind_word create_statement_of
statement_complete (grammar.create_table i n d e) = rw (create_complete i n d e) refl
statement_complete (grammar.select c n w l) = select_complete c n w l
statement_complete (grammar.insert i n c v t) = rw (insert_complete i n c v t) refl
statement_complete (grammar.update n c w) = update_complete n c w
statement_complete (grammar.delete n w) = delete_complete n w
statement_complete (grammar.begin w) = rw (begin_complete w) refl
statement_complete (grammar.start {b = b}) = start_complete b
statement_complete (grammar.start_snapshot {b = b} {c = c} {d = d}) = start_snapshot_complete b c d
statement_complete (grammar.commit w) = rw (commit_complete w) refl
statement_complete (grammar.rollback w) = rw (rollback_complete w) refl
statement_complete (grammar.rollback_to w s n) = rollback_to_complete w s n
statement_complete (grammar.savepoint n) = rw (savepoint_statement_complete n) refl
statement_complete (grammar.set_autocommit {a = a} s) = set_autocommit_complete a s
statement_complete (grammar.set_level h n) = rw (set_level_complete h n) refl
