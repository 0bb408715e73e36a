-- INSERT, transactions and settings, where more tokens come behind.
use Rattle.std.proofs.Common.{◌≡◌, ℕ, List, [], ◌∷◌, ◌++◌, Some, None, Option, Bool, true, false, cond, Result, Ok, refl}
use Rattle.std.specs.Str.{bytes_eq}
use Rattle.inno_types.specs.declared.lock.Level.TheVariants as level
use Rattle.inno_types.specs.declared.stmt.Comparison.TheVariants.{Equal}
use Rattle.inno_types.specs.declared.stmt.Literal.{Literal}
use Rattle.inno_types.specs.declared.stmt.LevelScope.{LevelScope}
use Rattle.inno_types.specs.declared.stmt.LevelScope.TheVariants.{Session, NextTransaction}
use Rattle.inno_types.specs.declared.stmt.Stmt.{Stmt}
use Rattle.inno_types.specs.declared.stmt.Stmt.TheVariants as stmt
use Rattle.sql_grammar.specs.declared.token.Word.TheVariants as word
use Rattle.sql_grammar.specs.declared.token.Token.{Token}
use Rattle.sql_grammar.specs.declared.token.Token.TheVariants.{Key, Bare, Number, Compare, Open, Close}
use Rattle.sql_grammar.specs.Grammar.{plain_number, Name, Tuple}
use Rattle.sql_conditions.specs.Parts.{◌>>=◌, name_at, lit_at, tuple_at, items_at, commas_at, after_close, ends_as}
use Rattle.sql_simple_statements.specs.Statements as read
use Rattle.sql_conditions.proofs.Sound.{name_sound, tuple_sound}
use Rattle.sql_conditions.proofs.Complete.{name_shorter, tuple_shorter}
use Rattle.sql_text.proofs.Steady.{Said, Stays, Settles, took, took_all, faulty, cut_off, whole, wrong, short, wanted, last_wanted, last_unsaid, reads, then}
use Rattle.sql_text.proofs.Steady.{then_last, last_made_of}
use Rattle.sql_text.proofs.SteadyLists.{X, Zero, Any, Apart, at_end, at_close, at_from, at_values, at_name, pair, alone, said_x, said_zero, said_open}
use Rattle.sql_text.proofs.SteadyLists.{said_close, said_equal, said_before, name_stays, commas_stay}
use Rattle.sql_text.proofs.SteadyConditions.{of_sound, tuple_stays}
use Rattle.sql_text.proofs.SteadyTables.{said, said_values, said_transaction, said_snapshot, said_consistent, said_read, said_committed, said_serializable}
use Rattle.sql_text.proofs.SteadyTables.{said_level, said_isolation, firmly_last, end_settles, ends_settle, closing_stays}

-- ---- INSERT

pub names_stay : (xs : List Token) → Stays pair Apart (commas_at name_at xs) (λ zs. commas_at name_at (xs ++ zs))
unfolding name_at
names_stay xs =
    commas_stay name_at refl (λ ys rest name e. name_shorter (of_sound (name_at ys) (λ r. Name ys r.0 r.1) (name, rest) (name_sound ys) e)) name_stays xs

tuples_stay : (xs : List Token) → Stays pair Apart (commas_at tuple_at xs) (λ zs. commas_at tuple_at (xs ++ zs))
unfolding tuple_at
tuples_stay xs =
    commas_stay tuple_at refl (λ ys rest literals e. tuple_shorter (of_sound (tuple_at ys) (λ r. Tuple ys r.0 r.1) (literals, rest)
    (tuple_sound ys) e)) tuple_stays xs

columns_unsaid : {zs : List Token} → Apart zs → read.columns_at zs ≡ Ok (None, zs)
unfolding read.columns_at
columns_unsaid at_end = refl
columns_unsaid at_close = refl
columns_unsaid at_from = refl
columns_unsaid at_values = refl
columns_unsaid at_name = refl

columns_stay : (xs : List Token) → Stays pair Apart (read.columns_at xs) (λ zs. read.columns_at (xs ++ zs))
unfolding read.columns_at
columns_stay [] = took_all None refl (λ zs z. columns_unsaid z)
columns_stay (Open ∷ rest) =
    then {form = pair} (λ names. after_close names.1 >>= λ r. Ok (Some names.0, r)) (names_stay rest) (λ names t r e. closing_stays (Some names) (t ∷ r))
    (λ names. wanted (Close ∷ []) (Some names) refl said_close (λ zs z. at_close) (λ zs z. refl))
columns_stay (t ∷ rest) = took None t rest refl (λ zs. refl)

values_stay : {Fits : List Token → Type 0} (xs : List Token) → Stays alone Fits (read.after_values xs) (λ zs. read.after_values (xs ++ zs))
unfolding read.after_values
values_stay [] = cut_off (Key word.Values ∷ []) tt refl said_values (λ zs z. refl)
values_stay (Key word.Values ∷ rest) = reads tt rest refl (λ zs. refl)
values_stay (Bare (Some word.Value) a ∷ rest) = reads tt rest refl (λ zs. refl)
values_stay (t ∷ rest) = faulty t rest refl (λ zs. refl)

abbrev a_tuple : List Token
a_tuple = Open ∷ Zero ∷ Close ∷ []

said_tuple : Said a_tuple
said_tuple = said_before Open (Zero ∷ Close ∷ []) said_open (said_before Zero (Close ∷ []) said_zero said_close)

said_rows : Said (Key word.Values ∷ a_tuple)
said_rows = said_before (Key word.Values) a_tuple said_values said_tuple

abbrev the_rows : List (List Literal)
the_rows = (plain_number (48 ∷ []) ∷ []) ∷ []

module _ (table : List ℕ) where
  abbrev Rows : Option (List (List ℕ)) → List Token → Result Stmt (List Token)
  Rows columns xs = commas_at tuple_at xs >>= λ tuples. ends_as (stmt.Insert table columns tuples.0) tuples.1

  rows_settle : (columns : Option (List (List ℕ))) (xs : List Token) → Settles (Rows columns xs) (λ zs. Rows columns (xs ++ zs))
  rows_settle columns xs =
      then_last (λ tuples. ends_as (stmt.Insert table columns tuples.0) tuples.1) (tuples_stay xs)
      (λ tuples t rest e. ends_settle (stmt.Insert table columns tuples) (t ∷ rest)) (λ tuples. last_unsaid (stmt.Insert table columns tuples) refl at_end)

  abbrev Values : Option (List (List ℕ)) → List Token → Result Stmt (List Token)
  Values columns xs = read.after_values xs >>= λ rest. Rows columns rest

  values_settle : (columns : Option (List (List ℕ))) (xs : List Token) → Settles (Values columns xs) (λ zs. Values columns (xs ++ zs))
  unfolding items_at
  values_settle columns xs =
      then_last (λ rest. Rows columns rest) (values_stay xs) (λ u t rest e. rows_settle columns (t ∷ rest))
      (λ u. firmly_last (Rows columns) refl (rows_settle columns []))

  abbrev Columns : List Token → Result Stmt (List Token)
  Columns xs = read.columns_at xs >>= λ columns. Values columns.0 columns.1

  columns_settle : (xs : List Token) → Settles (Columns xs) (λ zs. Columns (xs ++ zs))
  unfolding read.after_values items_at tuple_at lit_at
  columns_settle xs =
      then_last (λ columns. Values columns.0 columns.1) (columns_stay xs) (λ columns t rest e. values_settle columns (t ∷ rest))
      (λ columns. last_wanted (Key word.Values ∷ a_tuple) (stmt.Insert table columns the_rows) refl said_rows at_values refl)

abbrev IntoTable : List Token → Result Stmt (List Token)
IntoTable xs = name_at xs >>= λ table. Columns table.0 table.1

into_settles : (xs : List Token) → Settles (IntoTable xs) (λ zs. IntoTable (xs ++ zs))
unfolding read.columns_at read.after_values
into_settles xs =
    then_last (λ table. Columns table.0 table.1) (name_stays xs) (λ table t rest e. columns_settle table (t ∷ rest))
    (λ table. firmly_last (Columns table) refl (columns_settle table []))

pub insert_settles : (xs : List Token) → Settles (read.insert_of xs) (λ zs. read.insert_of (xs ++ zs))
unfolding read.insert_of name_at read.columns_at read.after_values items_at tuple_at lit_at
insert_settles [] =
    short (X ∷ Key word.Values ∷ a_tuple) (stmt.Insert (120 ∷ []) None the_rows) refl (said_before X (Key word.Values ∷ a_tuple) said_x said_rows) refl
insert_settles (Key word.Into ∷ rest) = into_settles rest
insert_settles (t ∷ rest) = into_settles (t ∷ rest)

-- ---- transactions

pub begin_settles : (xs : List Token) → Settles (read.begin_of xs) (λ zs. read.begin_of (xs ++ zs))
unfolding read.begin_of
begin_settles [] = whole (stmt.Begin false) refl
begin_settles (Bare (Some word.Work) a ∷ rest) = last_made_of (λ nothing. stmt.Begin false) (end_settles rest)
begin_settles (t ∷ rest) = wrong t rest refl (λ zs. refl)

pub commit_settles : (xs : List Token) → Settles (read.commit_of xs) (λ zs. read.commit_of (xs ++ zs))
unfolding read.commit_of
commit_settles [] = whole stmt.Commit refl
commit_settles (Bare (Some word.Work) a ∷ rest) = last_made_of (λ nothing. stmt.Commit) (end_settles rest)
commit_settles (t ∷ rest) = wrong t rest refl (λ zs. refl)

with_snapshot_settles : (xs : List Token) → Settles (read.with_snapshot_of xs) (λ zs. read.with_snapshot_of (xs ++ zs))
unfolding read.with_snapshot_of
with_snapshot_settles [] =
    short (said word.Consistent ∷ said word.Snapshot ∷ []) (stmt.Begin true) refl
    (said_before (said word.Consistent) (said word.Snapshot ∷ []) said_consistent said_snapshot) refl
with_snapshot_settles (Bare (Some word.Consistent) a ∷ []) = short (said word.Snapshot ∷ []) (stmt.Begin true) refl said_snapshot refl
with_snapshot_settles (Bare (Some word.Consistent) a ∷ Bare (Some word.Snapshot) b ∷ rest) = ends_settle (stmt.Begin true) rest
with_snapshot_settles (Bare (Some word.Consistent) a ∷ t ∷ rest) = wrong t rest refl (λ zs. refl)
with_snapshot_settles (t ∷ rest) = wrong t rest refl (λ zs. refl)

snapshot_settles : (xs : List Token) → Settles (read.snapshot_of xs) (λ zs. read.snapshot_of (xs ++ zs))
unfolding read.snapshot_of
snapshot_settles [] = whole (stmt.Begin false) refl
snapshot_settles (Key word.With ∷ rest) = with_snapshot_settles rest
snapshot_settles (t ∷ rest) = wrong t rest refl (λ zs. refl)

pub start_settles : (xs : List Token) → Settles (read.start_of xs) (λ zs. read.start_of (xs ++ zs))
unfolding read.start_of read.snapshot_of
start_settles [] = short (said word.Transaction ∷ []) (stmt.Begin false) refl said_transaction refl
start_settles (Bare (Some word.Transaction) a ∷ rest) = snapshot_settles rest
start_settles (t ∷ rest) = wrong t rest refl (λ zs. refl)

name_settles : (xs : List Token) → Settles (read.name_of xs) (λ zs. read.name_of (xs ++ zs))
name_settles xs =
    then_last (λ name. ends_as name.0 name.1) (name_stays {Fits = Any} xs) (λ name t rest e. ends_settle name (t ∷ rest)) (λ name. last_unsaid name refl tt)

pub savepoint_statement_settles : (xs : List Token) → Settles (read.savepoint_statement_of xs) (λ zs. read.savepoint_statement_of (xs ++ zs))
unfolding read.savepoint_statement_of
savepoint_statement_settles xs = last_made_of (λ name. stmt.Savepoint name) (name_settles xs)

savepoint_settles : (xs : List Token) → Settles (read.savepoint_of xs) (λ zs. read.savepoint_of (xs ++ zs))
unfolding read.savepoint_of name_at
savepoint_settles [] = short (X ∷ []) (120 ∷ []) refl said_x refl
savepoint_settles (Bare (Some word.Savepoint) a ∷ []) = whole a refl
savepoint_settles (Bare (Some word.Savepoint) a ∷ t ∷ rest) = name_settles (t ∷ rest)
savepoint_settles (t ∷ rest) = name_settles (t ∷ rest)

to_settles : (xs : List Token) → Settles (read.rollback_of xs) (λ zs. read.rollback_of (xs ++ zs))
unfolding read.rollback_of
to_settles [] = whole stmt.Rollback refl
to_settles (Key word.To ∷ rest) = last_made_of (λ name. stmt.RollbackTo name) (savepoint_settles rest)
to_settles (t ∷ rest) = wrong t rest refl (λ zs. refl)

pub rollback_settles : (xs : List Token) → Settles (read.rollback_of (read.after_work xs)) (λ zs. read.rollback_of (read.after_work (xs ++ zs)))
unfolding read.rollback_of
rollback_settles [] = whole stmt.Rollback refl
rollback_settles (Bare (Some word.Work) a ∷ rest) = to_settles rest
rollback_settles (t ∷ rest) = to_settles (t ∷ rest)

-- ---- settings

either_settles : {A : Type 0} (b : Bool) {r s : Result A (List Token)} {more others : List Token → Result A (List Token)} → Settles r more → Settles s others
    → Settles (cond b r s) (λ zs. cond b (more zs) (others zs))
either_settles true h k = h
either_settles false h k = k

switch_settles : (xs : List Token) → Settles (read.switch_of xs) (λ zs. read.switch_of (xs ++ zs))
unfolding read.switch_of
switch_settles [] = short (Zero ∷ []) false refl said_zero refl
switch_settles (Number digits ∷ rest) =
    either_settles (bytes_eq digits (48 ∷ [])) (ends_settle false rest)
    (either_settles (bytes_eq digits (49 ∷ [])) (ends_settle true rest) (wrong (Number digits) rest refl (λ zs. refl)))
switch_settles (Bare (Some word.On) a ∷ rest) = ends_settle true rest
switch_settles (Bare (Some word.Off) a ∷ rest) = ends_settle false rest
switch_settles (t ∷ rest) = wrong t rest refl (λ zs. refl)

autocommit_settles : (xs : List Token) → Settles (read.autocommit_of xs) (λ zs. read.autocommit_of (xs ++ zs))
unfolding read.autocommit_of read.switch_of
autocommit_settles [] = short (Compare Equal ∷ Zero ∷ []) (stmt.SetAutocommit false) refl (said_before (Compare Equal) (Zero ∷ []) said_equal said_zero) refl
autocommit_settles (Compare Equal ∷ rest) = last_made_of (λ on. stmt.SetAutocommit on) (switch_settles rest)
autocommit_settles (t ∷ rest) = wrong t rest refl (λ zs. refl)

read_level_settles : (xs : List Token) → Settles (read.read_level_of xs) (λ zs. read.read_level_of (xs ++ zs))
unfolding read.read_level_of
read_level_settles [] = short (said word.Committed ∷ []) level.ReadCommitted refl said_committed refl
read_level_settles (Bare (Some word.Uncommitted) a ∷ rest) = ends_settle level.ReadUncommitted rest
read_level_settles (Bare (Some word.Committed) a ∷ rest) = ends_settle level.ReadCommitted rest
read_level_settles (t ∷ rest) = wrong t rest refl (λ zs. refl)

level_name_settles : (xs : List Token) → Settles (read.level_name_of xs) (λ zs. read.level_name_of (xs ++ zs))
unfolding read.level_name_of
level_name_settles [] = short (said word.Serializable ∷ []) level.Serializable refl said_serializable refl
level_name_settles (Bare (Some word.Read) a ∷ rest) = read_level_settles rest
level_name_settles (Bare (Some word.Repeatable) a ∷ []) = short (said word.Read ∷ []) level.RepeatableRead refl said_read refl
level_name_settles (Bare (Some word.Repeatable) a ∷ Bare (Some word.Read) b ∷ rest) = ends_settle level.RepeatableRead rest
level_name_settles (Bare (Some word.Repeatable) a ∷ t ∷ rest) = wrong t rest refl (λ zs. refl)
level_name_settles (Bare (Some word.Serializable) a ∷ rest) = ends_settle level.Serializable rest
level_name_settles (t ∷ rest) = wrong t rest refl (λ zs. refl)

abbrev a_level : List Token
a_level = said word.Level ∷ said word.Serializable ∷ []

said_a_level : Said a_level
said_a_level = said_before (said word.Level) (said word.Serializable ∷ []) said_level said_serializable

level_word_settles : (scope : LevelScope) (xs : List Token) → Settles (read.level_word_of scope xs) (λ zs. read.level_word_of scope (xs ++ zs))
unfolding read.level_word_of read.level_name_of
level_word_settles scope [] = short a_level (stmt.SetLevel scope level.Serializable) refl said_a_level refl
level_word_settles scope (Bare (Some word.Level) a ∷ rest) = last_made_of (λ name. stmt.SetLevel scope name) (level_name_settles rest)
level_word_settles scope (t ∷ rest) = wrong t rest refl (λ zs. refl)

said_isolation_level : Said (said word.Isolation ∷ a_level)
said_isolation_level = said_before (said word.Isolation) a_level said_isolation said_a_level

isolation_settles : (scope : LevelScope) (xs : List Token) → Settles (read.isolation_of scope xs) (λ zs. read.isolation_of scope (xs ++ zs))
unfolding read.isolation_of read.level_word_of read.level_name_of
isolation_settles scope [] = short (said word.Isolation ∷ a_level) (stmt.SetLevel scope level.Serializable) refl said_isolation_level refl
isolation_settles scope (Bare (Some word.Isolation) a ∷ rest) = level_word_settles scope rest
isolation_settles scope (t ∷ rest) = wrong t rest refl (λ zs. refl)

said_transaction_level : Said (said word.Transaction ∷ said word.Isolation ∷ a_level)
said_transaction_level = said_before (said word.Transaction) (said word.Isolation ∷ a_level) said_transaction said_isolation_level

level_settles : (scope : LevelScope) (xs : List Token) → Settles (read.level_of scope xs) (λ zs. read.level_of scope (xs ++ zs))
unfolding read.level_of read.isolation_of read.level_word_of read.level_name_of
level_settles scope [] = short (said word.Transaction ∷ said word.Isolation ∷ a_level) (stmt.SetLevel scope level.Serializable) refl said_transaction_level refl
level_settles scope (Bare (Some word.Transaction) a ∷ rest) = isolation_settles scope rest
level_settles scope (t ∷ rest) = wrong t rest refl (λ zs. refl)

pub set_settles : (xs : List Token) → Settles (read.set_of xs) (λ zs. read.set_of (xs ++ zs))
unfolding read.set_of read.level_of read.isolation_of read.level_word_of read.level_name_of
set_settles [] =
    short (said word.Transaction ∷ said word.Isolation ∷ a_level) (stmt.SetLevel NextTransaction level.Serializable) refl said_transaction_level refl
set_settles (Bare (Some word.Autocommit) a ∷ rest) = autocommit_settles rest
set_settles (Bare (Some word.Session) a ∷ rest) = level_settles Session rest
set_settles (t ∷ rest) = level_settles NextTransaction (t ∷ rest)
