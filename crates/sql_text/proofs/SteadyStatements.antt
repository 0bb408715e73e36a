-- Whole statements, where more tokens come behind; and what can be read has a tree.
use Rattle.std.proofs.Common.{◌≡◌, ℕ, ◌<◌, List, [], ◌∷◌, ◌++◌, length, Some, None, Result, Ok, Err, IfOk, refl, subst, arith}
use Rattle.inno_types.specs.declared.lock.Mode.TheVariants as mode
use Rattle.inno_types.specs.declared.stmt.Comparison.TheVariants.{Equal}
use Rattle.inno_types.specs.declared.stmt.Expr.{Expr}
use Rattle.inno_types.specs.declared.stmt.Set.{Set}
use Rattle.inno_types.specs.declared.stmt.Selected.TheVariants.{AllColumns, Columns}
use Rattle.sql_grammar.specs.declared.token.Word.{Word}
use Rattle.sql_grammar.specs.declared.token.Word.TheVariants as word
use Rattle.sql_grammar.specs.declared.token.Token.{Token}
use Rattle.sql_grammar.specs.declared.token.Token.TheVariants.{Key, Bare, Compare, Star}
use Rattle.sql_grammar.specs.Grammar.{Name, Expression, Assignment, Commas, Condition, Loose, Where, Statement}
use Rattle.sql_grammar.specs.Grammar as grammar
use Rattle.sql_conditions.specs.Parts.{Read, ◌>>=◌, name_at, items_at, commas_at, end_of, read_it}
use Rattle.sql_simple_statements.specs.Statements as simple
use Rattle.sql_conditions.specs.Expressions.{after_expression}
use Rattle.sql_conditions.specs.Expressions as expressions
use Rattle.sql_text.specs.Whole as read
use Rattle.sql_conditions.proofs.Sound.{bind, name_sound}
use Rattle.sql_conditions.proofs.Complete.{name_shorter, names_complete}
use Rattle.sql_conditions.proofs.CompleteExpressions.{expression_shorter}
use Rattle.sql_text.proofs.Steady.{Said, Stays, Settles, took, took_all, faulty, cut_off, whole, wrong, short, last_wanted, last_unsaid, reads, then, then_last}
use Rattle.sql_text.proofs.Steady.{made_of, last_made_of}
use Rattle.sql_text.proofs.SteadyLists.{X, Any, Apart, at_end, at_close, at_from, at_values, at_name, pair, alone, said_x, said_equal, said_before, name_stays}
use Rattle.sql_text.proofs.SteadyLists.{commas_stay}
use Rattle.sql_text.proofs.SteadyConditions.{firmly, of_sound, condition_stays}
use Rattle.sql_text.proofs.SteadyExpressions.{expression_stays}
use Rattle.sql_text.proofs.SteadyTables.{said, said_from, said_set, said_update, said_mode, said_share, said_in, said_begin, firmly_last, end_settles}
use Rattle.sql_text.proofs.SteadyTables.{ends_settle, create_statement_settles}
use Rattle.sql_text.proofs.SteadySettings.{names_stay, insert_settles, begin_settles, start_settles, commit_settles, rollback_settles}
use Rattle.sql_text.proofs.SteadySettings.{savepoint_statement_settles, set_settles}
use Rattle.sql_text.proofs.Trees.{expression_sound}

-- ---- SELECT

choice_stays : (xs : List Token) → Stays pair Apart (read.choice_at xs) (λ zs. read.choice_at (xs ++ zs))
unfolding read.choice_at items_at
choice_stays [] = cut_off (X ∷ []) (Columns ((120 ∷ []) ∷ [])) refl said_x (λ zs z. rw (one_name z) refl)
  where
    one_name : {zs : List Token} → Apart zs → commas_at name_at (X ∷ zs) ≡ Ok ((120 ∷ []) ∷ [], zs)
    one_name at_end = names_complete (grammar.last grammar.bare) tt
    one_name at_close = names_complete (grammar.last grammar.bare) tt
    one_name at_from = names_complete (grammar.last grammar.bare) tt
    one_name at_values = names_complete (grammar.last grammar.bare) tt
    one_name at_name = names_complete (grammar.last grammar.bare) tt
choice_stays (Star ∷ rest) = reads AllColumns rest refl (λ zs. refl)
choice_stays (t ∷ rest) = made_of (λ names. Ok (Columns names.0, names.1)) (λ names. Columns names) (λ names zs. refl) (names_stay (t ∷ rest))

mode_settles : (xs : List Token) → Settles (read.mode_of xs) (λ zs. read.mode_of (xs ++ zs))
unfolding read.mode_of
mode_settles [] = short (said word.Mode ∷ []) (Some mode.S) refl said_mode refl
mode_settles (Bare (Some word.Mode) a ∷ rest) = ends_settle (Some mode.S) rest
mode_settles (t ∷ rest) = wrong t rest refl (λ zs. refl)

said_share_mode : Said (said word.Share ∷ said word.Mode ∷ [])
said_share_mode = said_before (said word.Share) (said word.Mode ∷ []) said_share said_mode

share_mode_settles : (xs : List Token) → Settles (read.share_mode_of xs) (λ zs. read.share_mode_of (xs ++ zs))
unfolding read.share_mode_of read.mode_of
share_mode_settles [] = short (said word.Share ∷ said word.Mode ∷ []) (Some mode.S) refl said_share_mode refl
share_mode_settles (Bare (Some word.Share) a ∷ rest) = mode_settles rest
share_mode_settles (t ∷ rest) = wrong t rest refl (λ zs. refl)

in_share_mode_settles : (xs : List Token) → Settles (read.in_share_mode_of xs) (λ zs. read.in_share_mode_of (xs ++ zs))
unfolding read.in_share_mode_of read.share_mode_of read.mode_of
in_share_mode_settles [] =
    short (Key word.In ∷ said word.Share ∷ said word.Mode ∷ []) (Some mode.S) refl
    (said_before (Key word.In) (said word.Share ∷ said word.Mode ∷ []) said_in said_share_mode) refl
in_share_mode_settles (Key word.In ∷ rest) = share_mode_settles rest
in_share_mode_settles (t ∷ rest) = wrong t rest refl (λ zs. refl)

for_lock_settles : (xs : List Token) → Settles (read.for_lock_of xs) (λ zs. read.for_lock_of (xs ++ zs))
unfolding read.for_lock_of
for_lock_settles [] = short (Key word.Update ∷ []) (Some mode.X) refl said_update refl
for_lock_settles (Bare (Some word.Share) a ∷ rest) = ends_settle (Some mode.S) rest
for_lock_settles (Key word.Update ∷ rest) = ends_settle (Some mode.X) rest
for_lock_settles (t ∷ rest) = wrong t rest refl (λ zs. refl)

locking_settles : (xs : List Token) → Settles (read.locking_of xs) (λ zs. read.locking_of (xs ++ zs))
unfolding read.locking_of
locking_settles [] = whole None refl
locking_settles (Key word.For ∷ rest) = for_lock_settles rest
locking_settles (Key word.Lock ∷ rest) = in_share_mode_settles rest
locking_settles (t ∷ rest) = wrong t rest refl (λ zs. refl)

no_where : {zs : List Token} → Apart zs → read.after_where zs ≡ Ok zs
unfolding read.after_where
no_where at_end = refl
no_where at_close = refl
no_where at_from = refl
no_where at_values = refl
no_where at_name = refl

where_stays : (xs : List Token) → Stays alone Apart (read.after_where xs) (λ zs. read.after_where (xs ++ zs))
unfolding read.after_where
where_stays [] = took_all tt refl (λ zs z. no_where z)
where_stays (Key word.Where ∷ rest) = condition_stays rest
where_stays (t ∷ rest) = took tt t rest refl (λ zs. refl)

from_stays : {Fits : List Token → Type 0} (xs : List Token) → Stays alone Fits (read.after_from xs) (λ zs. read.after_from (xs ++ zs))
from_stays [] = cut_off (Key word.From ∷ []) tt refl said_from (λ zs z. refl)
from_stays (Key word.From ∷ rest) = reads tt rest refl (λ zs. refl)
from_stays (t ∷ rest) = faulty t rest refl (λ zs. refl)

set_word_stays : {Fits : List Token → Type 0} (xs : List Token) → Stays alone Fits (read.after_set xs) (λ zs. read.after_set (xs ++ zs))
set_word_stays [] = cut_off (Key word.Set ∷ []) tt refl said_set (λ zs z. refl)
set_word_stays (Key word.Set ∷ rest) = reads tt rest refl (λ zs. refl)
set_word_stays (t ∷ rest) = faulty t rest refl (λ zs. refl)

equal_stays : {Fits : List Token → Type 0} (xs : List Token) → Stays alone Fits (read.after_equal xs) (λ zs. read.after_equal (xs ++ zs))
equal_stays [] = cut_off (Compare Equal ∷ []) tt refl said_equal (λ zs z. refl)
equal_stays (Compare Equal ∷ rest) = reads tt rest refl (λ zs. refl)
equal_stays (t ∷ rest) = faulty t rest refl (λ zs. refl)

from_table_stays : {Fits : List Token → Type 0} (xs : List Token) → Stays pair Fits (read.from_table_at xs) (λ zs. read.from_table_at (xs ++ zs))
unfolding read.from_table_at name_at
from_table_stays xs = then {form = pair} (λ from. name_at from) (from_stays xs) (λ u t rest e. name_stays (t ∷ rest)) (λ u. firmly name_at refl (name_stays []))

set_behind : {Fits : List Token → Type 0} (table : List ℕ) (xs : List Token)
    → Stays pair Fits (read.after_set xs >>= λ rest. Ok (table, rest)) (λ zs. read.after_set (xs ++ zs) >>= λ rest. Ok (table, rest))
set_behind table xs = made_of (λ rest. Ok (table, rest)) (λ u. table) (λ u zs. refl) (set_word_stays xs)

set_table_stays : {Fits : List Token → Type 0} (xs : List Token) → Stays pair Fits (read.set_table_at xs) (λ zs. read.set_table_at (xs ++ zs))
unfolding read.set_table_at
set_table_stays xs =
    then {form = pair} (λ table. read.after_set table.1 >>= λ rest. Ok (table.0, rest)) (name_stays xs) (λ table t rest e. set_behind table (t ∷ rest))
    (λ table. firmly (λ zs. read.after_set zs >>= λ rest. Ok (table, rest)) refl (set_behind table []))

where_lock_settles : (xs : List Token) → Settles (read.where_lock_of xs) (λ zs. read.where_lock_of (xs ++ zs))
unfolding read.where_lock_of read.locking_of
where_lock_settles xs =
    then_last (λ rest. read_it (read.locking_of rest)) (where_stays xs) (λ u t rest e. last_made_of (λ lock. tt) (locking_settles (t ∷ rest)))
    (λ u. last_unsaid tt refl at_end)

last_where_settles : (xs : List Token) → Settles (read.last_where_of xs) (λ zs. read.last_where_of (xs ++ zs))
unfolding read.last_where_of
last_where_settles xs = then_last (λ rest. end_of rest) (where_stays xs) (λ u t rest e. end_settles (t ∷ rest)) (λ u. last_unsaid tt refl at_end)

abbrev FromWhere : List Token → Result (Unit {0}) (List Token)
FromWhere xs = read.from_table_at xs >>= λ table. read.where_lock_of table.1

from_where : (xs : List Token) → Settles (FromWhere xs) (λ zs. FromWhere (xs ++ zs))
unfolding read.where_lock_of read.after_where read.locking_of
from_where xs =
    then_last (λ table. read.where_lock_of table.1) (from_table_stays {Fits = Any} xs) (λ table t rest e. where_lock_settles (t ∷ rest))
    (λ table. last_unsaid tt refl tt)

said_from_x : Said (Key word.From ∷ X ∷ [])
said_from_x = said_before (Key word.From) (X ∷ []) said_from said_x

select_settles : (xs : List Token) → Settles (read.select_of xs) (λ zs. read.select_of (xs ++ zs))
unfolding read.select_of read.from_table_at read.where_lock_of read.after_where read.locking_of name_at
select_settles xs =
    then_last (λ selected. FromWhere selected.1) (choice_stays xs) (λ selected t rest e. from_where (t ∷ rest))
    (λ selected. last_wanted (Key word.From ∷ X ∷ []) tt refl said_from_x at_from refl)

-- ---- UPDATE and DELETE

abbrev ValueRead : List ℕ → List Token → Read (List ℕ)
ValueRead column xs = read.after_equal xs >>= λ right. after_expression right >>= λ rest. Ok (column, rest)

expression_behind : (column : List ℕ) (xs : List Token)
    → Stays pair Apart (after_expression xs >>= λ rest. Ok (column, rest)) (λ zs. after_expression (xs ++ zs) >>= λ rest. Ok (column, rest))
expression_behind column xs = made_of (λ rest. Ok (column, rest)) (λ u. column) (λ u zs. refl) (expression_stays xs)

no_expression : after_expression [] ≡ Err []
unfolding expressions.steps
no_expression = refl

value_behind : (column : List ℕ) (xs : List Token) → Stays pair Apart (ValueRead column xs) (λ zs. ValueRead column (xs ++ zs))
value_behind column xs =
    then {form = pair} (λ right. after_expression right >>= λ rest. Ok (column, rest)) (equal_stays xs) (λ u t rest e. expression_behind column (t ∷ rest))
    (λ u. firmly (λ zs. after_expression zs >>= λ rest. Ok (column, rest)) (rw no_expression refl) (expression_behind column []))

assignment_stays : (xs : List Token) → Stays pair Apart (read.assignment_at xs) (λ zs. read.assignment_at (xs ++ zs))
unfolding read.assignment_at
assignment_stays xs =
    then {form = pair} (λ column. ValueRead column.0 column.1) (name_stays xs) (λ column t rest e. value_behind column (t ∷ rest))
    (λ column. firmly (ValueRead column) refl (value_behind column []))

assignment_none : read.assignment_at [] ≡ Err []
unfolding read.assignment_at name_at
assignment_none = refl

equal_sound : (xs : List Token) → IfOk (read.after_equal xs) (λ ys. xs ≡ Compare Equal ∷ ys)
equal_sound [] = tt
equal_sound (Compare Equal ∷ ys) = refl
equal_sound (t ∷ ys) = tt

pub assignment_sound : (xs : List Token) → IfOk (read.assignment_at xs) (λ r. (set : Set) × (set.column ≡ r.0) × Assignment xs set r.1)
unfolding read.assignment_at
assignment_sound xs =
    let Q = λ (r : List ℕ × List Token). (set : Set) × (set.column ≡ r.0) × Assignment xs set r.1 in
    bind {B = List ℕ × List Token} (name_at xs) (λ column. ValueRead column.0 column.1) (λ r. Name xs r.0 r.1) Q (name_sound xs)
    (λ column n. bind {B = List ℕ × List Token} (read.after_equal column.1) (λ right. after_expression right >>= λ rest. Ok (column.0, rest))
    (λ ys. column.1 ≡ Compare Equal ∷ ys) Q (equal_sound column.1)
    (λ right e. bind {B = List ℕ × List Token} (after_expression right) (λ rest. Ok (column.0, rest)) (λ rest. (v : Expr) × Expression Loose right v rest) Q
    (expression_sound right)
    (λ rest x. (record { column = column.0; value = x.0 }, refl, grammar.assign (subst (λ (ts : List Token). Name xs column.0 ts) e n) x.1))))

assignment_shrinks : (xs rest : List Token) (column : List ℕ) → read.assignment_at xs ≡ Ok (column, rest) → length rest < length xs
assignment_shrinks xs rest column e =
    let a = of_sound (read.assignment_at xs) (λ r. (set : Set) × (set.column ≡ r.0) × Assignment xs set r.1) (column, rest) (assignment_sound xs) e in
    assignment_shorter a.2
  where
    assignment_shorter : {xs ys : List Token} {set : Set} → Assignment xs set ys → length ys < length xs
    assignment_shorter (grammar.assign n x) = omega (arith, name_shorter n, expression_shorter x)

sets_stay : (xs : List Token) → Stays pair Apart (commas_at read.assignment_at xs) (λ zs. commas_at read.assignment_at (xs ++ zs))
sets_stay xs = commas_stay read.assignment_at assignment_none assignment_shrinks assignment_stays xs

abbrev SetsWhere : List Token → Result (Unit {0}) (List Token)
SetsWhere xs = commas_at read.assignment_at xs >>= λ sets. read.last_where_of sets.1

sets_where : (xs : List Token) → Settles (SetsWhere xs) (λ zs. SetsWhere (xs ++ zs))
unfolding read.last_where_of read.after_where
sets_where xs =
    then_last (λ sets. read.last_where_of sets.1) (sets_stay xs) (λ sets t rest e. last_where_settles (t ∷ rest)) (λ sets. last_unsaid tt refl at_end)

update_settles : (xs : List Token) → Settles (read.update_of xs) (λ zs. read.update_of (xs ++ zs))
unfolding read.update_of items_at
update_settles xs =
    then_last (λ table. SetsWhere table.1) (set_table_stays xs) (λ table t rest e. sets_where (t ∷ rest)) (λ table. firmly_last SetsWhere refl (sets_where []))

delete_settles : (xs : List Token) → Settles (read.delete_of xs) (λ zs. read.delete_of (xs ++ zs))
unfolding read.delete_of read.last_where_of read.after_where
delete_settles xs =
    then_last (λ table. read.last_where_of table.1) (from_table_stays {Fits = Any} xs) (λ table t rest e. last_where_settles (t ∷ rest))
    (λ table. last_unsaid tt refl tt)

-- ---- any statement

key_settles : (w : Word) (rest : List Token) → Settles (read.behind_key w (Key w ∷ rest) rest) (λ zs. read.behind_key w (Key w ∷ (rest ++ zs)) (rest ++ zs))
unfolding read.behind_key
key_settles word.Create rest = last_made_of (λ s. tt) (create_statement_settles rest)
key_settles word.Select rest = select_settles rest
key_settles word.Insert rest = last_made_of (λ s. tt) (insert_settles rest)
key_settles word.Update rest = update_settles rest
key_settles word.Delete rest = delete_settles rest
key_settles word.Set rest = last_made_of (λ s. tt) (set_settles rest)
key_settles w rest = wrong (Key w) rest refl (λ zs. refl)

word_settles : (w : Word) (a : List ℕ) (rest : List Token)
    → Settles (read.behind_word w (Bare (Some w) a ∷ rest) rest) (λ zs. read.behind_word w (Bare (Some w) a ∷ (rest ++ zs)) (rest ++ zs))
unfolding read.behind_word
word_settles word.Begin a rest = begin_settles rest
word_settles word.Start a rest = start_settles rest
word_settles word.Commit a rest = commit_settles rest
word_settles word.Rollback a rest = rollback_settles rest
word_settles word.Savepoint a rest = savepoint_statement_settles rest
word_settles w a rest = wrong (Bare (Some w) a) rest refl (λ zs. refl)

pub statement_settles : (xs : List Token) → Settles (read.statement_of xs) (λ zs. read.statement_of (xs ++ zs))
unfolding read.statement_of read.first_of read.behind_word simple.begin_of
statement_settles [] = short (said word.Begin ∷ []) tt refl said_begin refl
statement_settles (Key w ∷ rest) = key_settles w rest
statement_settles (Bare (Some w) a ∷ rest) = last_made_of (λ s. tt) (word_settles w a rest)
statement_settles (t ∷ rest) = wrong t rest refl (λ zs. refl)
