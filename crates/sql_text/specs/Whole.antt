-- Reading whole statements from left to right: whether they can be read, or from which token on they can't.
use Rattle.std.specs.Prelude.{ℕ, List, [], ◌∷◌, map, Option, Some, None, Result, Ok, Err}
use Rattle.inno_types.specs.declared.lock.Mode.{Mode}
use Rattle.inno_types.specs.declared.lock.Mode.TheVariants.{S, X}
use Rattle.inno_types.specs.declared.stmt.Comparison.TheVariants.{Equal}
use Rattle.inno_types.specs.declared.stmt.Selected.{Selected}
use Rattle.inno_types.specs.declared.stmt.Selected.TheVariants.{AllColumns, Columns}
use Rattle.inno_types.specs.declared.stmt.Set.{Set}
use Rattle.inno_types.specs.declared.stmt.Stmt.{Stmt}
use Rattle.sql_grammar.specs.declared.token.Word.{Word}
use Rattle.sql_grammar.specs.declared.token.Word.TheVariants as word
use Rattle.sql_grammar.specs.declared.token.Token.{Token}
use Rattle.sql_grammar.specs.declared.token.Token.TheVariants.{Key, Bare, Compare, Star}
use Rattle.sql_text.specs.declared.statement.First.{First}
use Rattle.sql_text.specs.declared.statement.First.TheVariants as first
use Rattle.sql_conditions.specs.Parts.{Read, ◌>>=◌, name_at, commas_at, end_of, ends_as, read_it}
use Rattle.sql_simple_statements.specs.Statements.{create_statement_of, insert_of, after_work, begin_of, start_of, commit_of, rollback_of, savepoint_statement_of, set_of}
use Rattle.sql_conditions.specs.Conditions.{after_condition}
use Rattle.sql_conditions.specs.Expressions.{after_expression}

-- ---- what a SELECT gives of each row, and the lock that ends it

unfoldable pub choice_at : List Token → Read Selected
choice_at (Star ∷ rest) = Ok (AllColumns, rest)
choice_at tokens = commas_at name_at tokens >>= λ names. Ok (Columns names.0, names.1)

unfoldable pub mode_of : List Token → Result (Option Mode) (List Token)
mode_of (Bare (Some word.Mode) a ∷ rest) = ends_as (Some S) rest
mode_of rest = Err rest

unfoldable pub share_mode_of : List Token → Result (Option Mode) (List Token)
share_mode_of (Bare (Some word.Share) a ∷ rest) = mode_of rest
share_mode_of rest = Err rest

unfoldable pub in_share_mode_of : List Token → Result (Option Mode) (List Token)
in_share_mode_of (Key word.In ∷ rest) = share_mode_of rest
in_share_mode_of rest = Err rest

unfoldable pub for_lock_of : List Token → Result (Option Mode) (List Token)
for_lock_of (Bare (Some word.Share) a ∷ rest) = ends_as (Some S) rest
for_lock_of (Key word.Update ∷ rest) = ends_as (Some X) rest
for_lock_of rest = Err rest

unfoldable pub locking_of : List Token → Result (Option Mode) (List Token)
locking_of [] = Ok None
locking_of (Key word.For ∷ rest) = for_lock_of rest
locking_of (Key word.Lock ∷ rest) = in_share_mode_of rest
locking_of rest = Err rest

-- ---- conditions and assignments

abbrev pub behind_where : List Token → Option (List Token)
behind_where (Key word.Where ∷ rest) = Some rest
behind_where rest = None

-- a condition behind WHERE, or nothing
abbrev pub condition_if : List Token → Option (List Token) → Result (List Token) (List Token)
condition_if tokens None = Ok tokens
condition_if tokens (Some rest) = after_condition rest

unfoldable pub after_where : List Token → Result (List Token) (List Token)
after_where tokens = condition_if tokens (behind_where tokens)

abbrev pub after_equal : List Token → Result (List Token) (List Token)
after_equal (Compare Equal ∷ rest) = Ok rest
after_equal rest = Err rest

-- an assignment, by its column
unfoldable pub assignment_at : List Token → Read (List ℕ)
assignment_at tokens = do
  column ← name_at tokens
  right ← after_equal column.1
  rest ← after_expression right
  Ok (column.0, rest)

abbrev pub columns_of : List Set → List (List ℕ)
columns_of sets = map (λ (s : Set). s.column) sets

abbrev pub after_from : List Token → Result (List Token) (List Token)
after_from (Key word.From ∷ rest) = Ok rest
after_from rest = Err rest

abbrev pub after_set : List Token → Result (List Token) (List Token)
after_set (Key word.Set ∷ rest) = Ok rest
after_set rest = Err rest

-- the table behind FROM
unfoldable pub from_table_at : List Token → Read (List ℕ)
from_table_at tokens = after_from tokens >>= λ from. name_at from

-- the table behind UPDATE, with its SET
unfoldable pub set_table_at : List Token → Read (List ℕ)
set_table_at tokens = name_at tokens >>= λ table. after_set table.1 >>= λ rest. Ok (table.0, rest)

-- a condition, and the lock behind it
unfoldable pub where_lock_of : List Token → Result (Unit {0}) (List Token)
where_lock_of tokens = after_where tokens >>= λ rest. read_it (locking_of rest)

-- a condition, and nothing behind it
unfoldable pub last_where_of : List Token → Result (Unit {0}) (List Token)
last_where_of tokens = after_where tokens >>= λ rest. end_of rest

unfoldable pub select_of : List Token → Result (Unit {0}) (List Token)
select_of tokens = do
  selected ← choice_at tokens
  table ← from_table_at selected.1
  where_lock_of table.1

unfoldable pub update_of : List Token → Result (Unit {0}) (List Token)
update_of tokens = do
  table ← set_table_at tokens
  sets ← commas_at assignment_at table.1
  last_where_of sets.1

unfoldable pub delete_of : List Token → Result (Unit {0}) (List Token)
delete_of tokens = from_table_at tokens >>= λ table. last_where_of table.1

abbrev pub create_table_of : List Token → Result (Unit {0}) (List Token)
create_table_of tokens = read_it (create_statement_of tokens)

unfoldable pub behind_key : Word → List Token → List Token → Result (Unit {0}) (List Token)
behind_key word.Create all rest = create_table_of rest
behind_key word.Select all rest = select_of rest
behind_key word.Insert all rest = read_it (insert_of rest)
behind_key word.Update all rest = update_of rest
behind_key word.Delete all rest = delete_of rest
behind_key word.Set all rest = read_it (set_of rest)
behind_key other all rest = Err all

unfoldable pub behind_word : Word → List Token → List Token → Result Stmt (List Token)
behind_word word.Begin all rest = begin_of rest
behind_word word.Start all rest = start_of rest
behind_word word.Commit all rest = commit_of rest
behind_word word.Rollback all rest = rollback_of (after_work rest)
behind_word word.Savepoint all rest = savepoint_statement_of rest
behind_word other all rest = Err all

-- the first word of a statement, and what stands behind it
pub data InFront : Type 0 where
  OfKey : Word → List Token → InFront
  OfBare : Word → List Token → InFront
  OfOther : InFront

abbrev pub first_by : First → InFront
first_by (first.Key w rest) = OfKey w rest.now
first_by (first.Bare w rest) = OfBare w rest.now
first_by first.Other = OfOther

unfoldable pub first_of : List Token → InFront
first_of (Key w ∷ rest) = OfKey w rest
first_of (Bare (Some w) name ∷ rest) = OfBare w rest
first_of tokens = OfOther

abbrev pub by_first : List Token → InFront → Result (Unit {0}) (List Token)
by_first all (OfKey w rest) = behind_key w all rest
by_first all (OfBare w rest) = read_it (behind_word w all rest)
by_first all OfOther = Err all

unfoldable pub statement_of : List Token → Result (Unit {0}) (List Token)
statement_of tokens = by_first tokens (first_of tokens)
