-- What can be read has a tree: whole statements.
use Rattle.std.proofs.Common.{◌≡◌, ℕ, List, [], ◌∷◌, length, Some, None, Option, Result, Ok, IfOk, sym, subst}
use Rattle.inno_types.specs.declared.stmt.Filter.{Filter}
use Rattle.inno_types.specs.declared.stmt.Set.{Set}
use Rattle.inno_types.specs.declared.stmt.Stmt.{Stmt}
use Rattle.inno_types.specs.declared.stmt.Stmt.TheVariants as stmt
use Rattle.sql_grammar.specs.declared.token.Word.{Word}
use Rattle.sql_grammar.specs.declared.token.Word.TheVariants as word
use Rattle.sql_grammar.specs.declared.token.Token.{Token}
use Rattle.sql_grammar.specs.declared.token.Token.TheVariants.{Key, Bare}
use Rattle.sql_grammar.specs.Grammar.{Name, Choice, Commas, Condition, Loose, Where, Locking, Assignment, Statement}
use Rattle.sql_grammar.specs.Grammar as grammar
use Rattle.sql_conditions.specs.Parts.{◌>>=◌, commas_at, end_of, read_it}
use Rattle.sql_simple_statements.specs.Statements as simple
use Rattle.sql_conditions.specs.Conditions.{after_condition}
use Rattle.sql_text.specs.Whole as read
use Rattle.sql_conditions.proofs.Sound.{bind, weaker, items_sound, end_sound}
use Rattle.sql_simple_statements.proofs.Sound.{create_statement_sound, insert_sound, set_sound, begin_sound, start_sound, commit_sound, rollback_sound}
use Rattle.sql_simple_statements.proofs.Sound.{savepoint_statement_sound}
use Rattle.sql_text.proofs.SoundStatements.{choice_sound, locking_sound, from_table_sound, set_table_sound}
use Rattle.sql_text.proofs.Trees.{condition_sound}
use Rattle.sql_text.proofs.SteadyStatements.{assignment_sound}

where_sound : (xs : List Token) → IfOk (read.after_where xs) (λ rest. (f : Option Filter) × Where xs f rest)
unfolding read.after_where
where_sound [] = (None, grammar.each)
where_sound (Key word.Where ∷ xs) =
    weaker (after_condition xs) (λ rest. (f : Filter) × Condition Loose xs f rest) (λ rest. (f : Option Filter) × Where (Key word.Where ∷ xs) f rest)
    (condition_sound xs) (λ rest c. (Some c.0, grammar.those c.1))
where_sound (t ∷ xs) = (None, grammar.each)

last_where_sound : (xs : List Token) → IfOk (read.last_where_of xs) (λ u. (f : Option Filter) × Where xs f [])
unfolding read.last_where_of
last_where_sound xs =
    bind {B = Unit {0}} (read.after_where xs) (λ rest. end_of rest) (λ rest. (f : Option Filter) × Where xs f rest) (λ u. (f : Option Filter) × Where xs f [])
    (where_sound xs)
    (λ rest w. weaker (end_of rest) (λ u. rest ≡ []) (λ u. (f : Option Filter) × Where xs f []) (end_sound rest)
    (λ u e. (w.0, subst (λ (ts : List Token). Where xs w.0 ts) e w.1)))

abbrev pub IsOne : List Token → Unit {0} → Type 0
IsOne xs u = (s : Stmt) × Statement xs s

select_sound : (xs : List Token) → IfOk (read.select_of xs) (IsOne (Key word.Select ∷ xs))
unfolding read.select_of read.where_lock_of
select_sound xs =
    let Q = IsOne (Key word.Select ∷ xs) in
    bind {B = Unit {0}} (read.choice_at xs) (λ selected. read.from_table_at selected.1 >>= λ table. read.where_lock_of table.1) (λ r. Choice xs r.0 r.1) Q
    (choice_sound xs)
    (λ selected c. bind {B = Unit {0}} (read.from_table_at selected.1) (λ table. read.where_lock_of table.1)
    (λ r. (from : List Token) × (selected.1 ≡ Key word.From ∷ from) × Name from r.0 r.1) Q (from_table_sound selected.1)
    (λ table t. bind {B = Unit {0}} (read.after_where table.1) (λ rest. read_it (read.locking_of rest)) (λ rest. (f : Option Filter) × Where table.1 f rest) Q
    (where_sound table.1)
    (λ rest w. bind {B = Unit {0}} (read.locking_of rest) (λ lock. Ok tt) (λ lock. Locking rest lock) Q (locking_sound rest)
    (λ lock l. (stmt.Select selected.0 table.0 w.0 lock, grammar.select (subst (λ (ts : List Token). Choice xs selected.0 ts) t.1 c) t.2 w.1 l)))))

abbrev OfColumn : List Token → List ℕ → List Token → Type 0
OfColumn xs column rest = (set : Set) × (set.column ≡ column) × Assignment xs set rest

with_sets : {xs ys : List Token} {columns : List (List ℕ)} → Commas OfColumn xs columns ys → (sets : List Set) × Commas Assignment xs sets ys
with_sets (grammar.last a) = (a.0 ∷ [], grammar.last a.2)
with_sets (grammar.more a c) = let others = with_sets c in (a.0 ∷ others.0, grammar.more a.2 others.1)

update_sound : (xs : List Token) → IfOk (read.update_of xs) (IsOne (Key word.Update ∷ xs))
unfolding read.update_of
update_sound xs =
    let Q = IsOne (Key word.Update ∷ xs) in
    bind {B = Unit {0}} (read.set_table_at xs) (λ table. commas_at read.assignment_at table.1 >>= λ sets. read.last_where_of sets.1)
    (λ r. Name xs r.0 (Key word.Set ∷ r.1)) Q (set_table_sound xs)
    (λ table n. bind {B = Unit {0}} (commas_at read.assignment_at table.1) (λ sets. read.last_where_of sets.1) (λ r. Commas OfColumn table.1 r.0 r.1) Q
    (items_sound read.assignment_at OfColumn assignment_sound (length table.1) table.1)
    (λ sets c. weaker (read.last_where_of sets.1) (λ u. (f : Option Filter) × Where sets.1 f []) Q (last_where_sound sets.1)
    (λ u w. let all = with_sets c in (stmt.Update table.0 all.0 w.0, grammar.update n all.1 w.1))))

delete_sound : (xs : List Token) → IfOk (read.delete_of xs) (IsOne (Key word.Delete ∷ xs))
unfolding read.delete_of
delete_sound xs =
    let Q = IsOne (Key word.Delete ∷ xs) in
    bind {B = Unit {0}} (read.from_table_at xs) (λ table. read.last_where_of table.1)
    (λ r. (from : List Token) × (xs ≡ Key word.From ∷ from) × Name from r.0 r.1) Q (from_table_sound xs)
    (λ table t. weaker (read.last_where_of table.1) (λ u. (f : Option Filter) × Where table.1 f []) Q (last_where_sound table.1)
    (λ u w. (
      stmt.Delete table.0 w.0,
      subst (λ (ts : List Token). Statement (Key word.Delete ∷ ts) (stmt.Delete table.0 w.0)) (sym t.1)
          (grammar.delete t.2 w.1),
    )))

-- a statement that was read, without its tree
one_of : (xs : List Token) (r : Result Stmt (List Token)) → IfOk r (λ s. Statement xs s) → IfOk (read_it r) (IsOne xs)
one_of xs r h = bind {B = Unit {0}} r (λ s. Ok tt) (λ s. Statement xs s) (IsOne xs) h (λ s p. (s, p))

key_sound : (w : Word) (all rest : List Token) → IfOk (read.behind_key w all rest) (IsOne (Key w ∷ rest))
unfolding read.behind_key
key_sound word.Create all rest = one_of (Key word.Create ∷ rest) (simple.create_statement_of rest) (create_statement_sound rest)
key_sound word.Select all rest = select_sound rest
key_sound word.Insert all rest = one_of (Key word.Insert ∷ rest) (simple.insert_of rest) (insert_sound rest)
key_sound word.Update all rest = update_sound rest
key_sound word.Delete all rest = delete_sound rest
key_sound word.Set all rest = one_of (Key word.Set ∷ rest) (simple.set_of rest) (set_sound rest)
key_sound w all rest = tt

word_sound : (w : Word) (name : List ℕ) (all xs : List Token) → IfOk (read.behind_word w all xs) (λ s. Statement (Bare (Some w) name ∷ xs) s)
unfolding read.behind_word
word_sound word.Begin name all xs = begin_sound name xs
word_sound word.Start name all xs = start_sound name xs
word_sound word.Commit name all xs = commit_sound name xs
word_sound word.Rollback name all xs = rollback_sound name xs
word_sound word.Savepoint name all xs = savepoint_statement_sound name xs
word_sound w name all xs = tt

pub statement_sound : (xs : List Token) → IfOk (read.statement_of xs) (IsOne xs)
unfolding read.statement_of read.first_of
statement_sound [] = tt
statement_sound (Key w ∷ rest) = key_sound w (Key w ∷ rest) rest
statement_sound (Bare (Some w) a ∷ rest) =
    one_of (Bare (Some w) a ∷ rest) (read.behind_word w (Bare (Some w) a ∷ rest) rest) (word_sound w a (Bare (Some w) a ∷ rest) rest)
statement_sound (t ∷ rest) = tt
