-- Statements with neither conditions nor expressions, where more tokens come behind.
use Rattle.std.proofs.Common.{◌≡◌, ℕ, ◌<◌, ◌≤◌, List, [], ◌∷◌, ◌++◌, length, Some, None, Option, Bool, true, false, Result, Ok, Err, IfOk, refl, arith}
use Rattle.inno_types.specs.declared.stmt.Comparison.TheVariants.{Equal}
use Rattle.inno_types.specs.declared.stmt.DeclaredKind.{DeclaredKind}
use Rattle.inno_types.specs.declared.stmt.DeclaredKind.TheVariants as kind
use Rattle.inno_types.specs.declared.stmt.Definition.{Definition}
use Rattle.inno_types.specs.declared.stmt.Definition.TheVariants as definition
use Rattle.inno_types.specs.declared.stmt.Stmt.{Stmt}
use Rattle.inno_types.specs.declared.stmt.Stmt.TheVariants as stmt
use Rattle.sql_grammar.specs.declared.token.Word.{Word}
use Rattle.sql_grammar.specs.declared.token.Word.TheVariants as word
use Rattle.sql_grammar.specs.declared.token.Token.{Token}
use Rattle.sql_grammar.specs.declared.token.Token.TheVariants.{Key, Bare, Number, Compare, Open, Close}
use Rattle.sql_grammar.specs.Words.{spelling}
use Rattle.sql_grammar.specs.Grammar.{size_of, Name}
use Rattle.sql_grammar.specs.Tokens.{after_blank, token_at, sign_at, word_token}
use Rattle.sql_grammar.specs.Tokens as spelled
use Rattle.sql_conditions.specs.Parts.{Read, ◌>>=◌, name_at, items_at, commas_at, after_open, after_close, end_of, ends_as}
use Rattle.sql_simple_statements.specs.Statements as read
use Rattle.sql_conditions.proofs.Sound.{bind, weaker, name_sound}
use Rattle.sql_conditions.proofs.Complete.{name_shorter}
use Rattle.sql_text.proofs.Steady.{Said, Stays, Settles, StartsLast, took, took_all, faulty, cut_off, whole, wrong, short, unsaid, last_wanted, last_unsaid}
use Rattle.sql_text.proofs.Steady.{reads, then, then_last, made_of, last_made_of}
use Rattle.sql_text.proofs.SteadyLists.{X, Zero, Any, Apart, at_end, at_close, at_from, at_values, at_name, pair, alone, said_x, said_zero, said_open}
use Rattle.sql_text.proofs.SteadyLists.{said_close, said_before, name_stays, commas_stay}
use Rattle.sql_text.proofs.SteadyConditions.{firmly, of_sound, said_null, close_stays}

-- ---- words

-- a word that is not reserved, in capital letters
abbrev pub said : Word → Token
said w = Bare (Some w) (spelling w)

pub said_from : Said (Key word.From ∷ [])
unfolding after_blank token_at word_token
said_from = (70 ∷ 82 ∷ 79 ∷ 77 ∷ 32 ∷ [], λ rest more a. spelled.token refl refl (spelled.blank refl a))

pub said_set : Said (Key word.Set ∷ [])
unfolding after_blank token_at word_token
said_set = (83 ∷ 69 ∷ 84 ∷ 32 ∷ [], λ rest more a. spelled.token refl refl (spelled.blank refl a))

pub said_values : Said (Key word.Values ∷ [])
unfolding after_blank token_at word_token
said_values = (86 ∷ 65 ∷ 76 ∷ 85 ∷ 69 ∷ 83 ∷ 32 ∷ [], λ rest more a. spelled.token refl refl (spelled.blank refl a))

pub said_big_int : Said (Key word.BigInt ∷ [])
unfolding after_blank token_at word_token
said_big_int = (66 ∷ 73 ∷ 71 ∷ 73 ∷ 78 ∷ 84 ∷ 32 ∷ [], λ rest more a. spelled.token refl refl (spelled.blank refl a))

pub said_the_table : Said (Key word.Table ∷ [])
unfolding after_blank token_at word_token
said_the_table = (84 ∷ 65 ∷ 66 ∷ 76 ∷ 69 ∷ 32 ∷ [], λ rest more a. spelled.token refl refl (spelled.blank refl a))

pub said_exists : Said (Key word.Exists ∷ [])
unfolding after_blank token_at word_token
said_exists = (69 ∷ 88 ∷ 73 ∷ 83 ∷ 84 ∷ 83 ∷ 32 ∷ [], λ rest more a. spelled.token refl refl (spelled.blank refl a))

pub said_not : Said (Key word.Not ∷ [])
unfolding after_blank token_at word_token
said_not = (78 ∷ 79 ∷ 84 ∷ 32 ∷ [], λ rest more a. spelled.token refl refl (spelled.blank refl a))

pub said_key : Said (Key word.Key ∷ [])
unfolding after_blank token_at word_token
said_key = (75 ∷ 69 ∷ 89 ∷ 32 ∷ [], λ rest more a. spelled.token refl refl (spelled.blank refl a))

pub said_update : Said (Key word.Update ∷ [])
unfolding after_blank token_at word_token
said_update = (85 ∷ 80 ∷ 68 ∷ 65 ∷ 84 ∷ 69 ∷ 32 ∷ [], λ rest more a. spelled.token refl refl (spelled.blank refl a))

pub said_in : Said (Key word.In ∷ [])
unfolding after_blank token_at word_token
said_in = (73 ∷ 78 ∷ 32 ∷ [], λ rest more a. spelled.token refl refl (spelled.blank refl a))

pub said_inno_db : Said (said word.InnoDb ∷ [])
unfolding after_blank token_at word_token
said_inno_db = (73 ∷ 78 ∷ 78 ∷ 79 ∷ 68 ∷ 66 ∷ 32 ∷ [], λ rest more a. spelled.token refl refl (spelled.blank refl a))

pub said_transaction : Said (said word.Transaction ∷ [])
unfolding after_blank token_at word_token
said_transaction = (84 ∷ 82 ∷ 65 ∷ 78 ∷ 83 ∷ 65 ∷ 67 ∷ 84 ∷ 73 ∷ 79 ∷ 78 ∷ 32 ∷ [], λ rest more a. spelled.token refl refl (spelled.blank refl a))

pub said_snapshot : Said (said word.Snapshot ∷ [])
unfolding after_blank token_at word_token
said_snapshot = (83 ∷ 78 ∷ 65 ∷ 80 ∷ 83 ∷ 72 ∷ 79 ∷ 84 ∷ 32 ∷ [], λ rest more a. spelled.token refl refl (spelled.blank refl a))

pub said_consistent : Said (said word.Consistent ∷ [])
unfolding after_blank token_at word_token
said_consistent = (67 ∷ 79 ∷ 78 ∷ 83 ∷ 73 ∷ 83 ∷ 84 ∷ 69 ∷ 78 ∷ 84 ∷ 32 ∷ [], λ rest more a. spelled.token refl refl (spelled.blank refl a))

pub said_read : Said (said word.Read ∷ [])
unfolding after_blank token_at word_token
said_read = (82 ∷ 69 ∷ 65 ∷ 68 ∷ 32 ∷ [], λ rest more a. spelled.token refl refl (spelled.blank refl a))

pub said_committed : Said (said word.Committed ∷ [])
unfolding after_blank token_at word_token
said_committed = (67 ∷ 79 ∷ 77 ∷ 77 ∷ 73 ∷ 84 ∷ 84 ∷ 69 ∷ 68 ∷ 32 ∷ [], λ rest more a. spelled.token refl refl (spelled.blank refl a))

pub said_serializable : Said (said word.Serializable ∷ [])
unfolding after_blank token_at word_token
said_serializable = (83 ∷ 69 ∷ 82 ∷ 73 ∷ 65 ∷ 76 ∷ 73 ∷ 90 ∷ 65 ∷ 66 ∷ 76 ∷ 69 ∷ 32 ∷ [], λ rest more a. spelled.token refl refl (spelled.blank refl a))

pub said_level : Said (said word.Level ∷ [])
unfolding after_blank token_at word_token
said_level = (76 ∷ 69 ∷ 86 ∷ 69 ∷ 76 ∷ 32 ∷ [], λ rest more a. spelled.token refl refl (spelled.blank refl a))

pub said_isolation : Said (said word.Isolation ∷ [])
unfolding after_blank token_at word_token
said_isolation = (73 ∷ 83 ∷ 79 ∷ 76 ∷ 65 ∷ 84 ∷ 73 ∷ 79 ∷ 78 ∷ 32 ∷ [], λ rest more a. spelled.token refl refl (spelled.blank refl a))

pub said_mode : Said (said word.Mode ∷ [])
unfolding after_blank token_at word_token
said_mode = (77 ∷ 79 ∷ 68 ∷ 69 ∷ 32 ∷ [], λ rest more a. spelled.token refl refl (spelled.blank refl a))

pub said_share : Said (said word.Share ∷ [])
unfolding after_blank token_at word_token
said_share = (83 ∷ 72 ∷ 65 ∷ 82 ∷ 69 ∷ 32 ∷ [], λ rest more a. spelled.token refl refl (spelled.blank refl a))

pub said_begin : Said (said word.Begin ∷ [])
unfolding after_blank token_at word_token
said_begin = (66 ∷ 69 ∷ 71 ∷ 73 ∷ 78 ∷ 32 ∷ [], λ rest more a. spelled.token refl refl (spelled.blank refl a))

pub said_autocommit : Said (said word.Autocommit ∷ [])
unfolding after_blank token_at word_token
said_autocommit = (65 ∷ 85 ∷ 84 ∷ 79 ∷ 67 ∷ 79 ∷ 77 ∷ 77 ∷ 73 ∷ 84 ∷ 32 ∷ [], λ rest more a. spelled.token refl refl (spelled.blank refl a))

-- ---- the end

pub firmly_last : {B : Type 0} (r : List Token → Result B (List Token)) → r [] ≡ Err [] → Settles (r []) r → StartsLast Any r
firmly_last r e (whole a h) = absurd (cc)
firmly_last r e (wrong t rest h k) = absurd (cc)
firmly_last r e (short g a h s k) = last_wanted g a e s tt k

pub end_settles : (xs : List Token) → Settles (end_of xs) (λ zs. end_of (xs ++ zs))
end_settles [] = whole tt refl
end_settles (t ∷ rest) = wrong t rest refl (λ zs. refl)

pub ends_settle : {A : Type 0} (a : A) (xs : List Token) → Settles (ends_as a xs) (λ zs. ends_as a (xs ++ zs))
ends_settle a [] = whole a refl
ends_settle a (t ∷ rest) = wrong t rest refl (λ zs. refl)

-- ---- the definitions of a table

kind_stays : {Fits : List Token → Type 0} (xs : List Token) → Stays pair Fits (read.kind_at xs) (λ zs. read.kind_at (xs ++ zs))
unfolding read.kind_at
kind_stays [] = cut_off (Key word.BigInt ∷ []) kind.BigInt refl said_big_int (λ zs z. refl)
kind_stays (Key word.BigInt ∷ rest) = reads kind.BigInt rest refl (λ zs. refl)
kind_stays (Key word.VarBinary ∷ []) =
    cut_off (Open ∷ Zero ∷ Close ∷ []) (kind.VarBinary (size_of (48 ∷ []))) refl
    (said_before Open (Zero ∷ Close ∷ []) said_open (said_before Zero (Close ∷ []) said_zero said_close)) (λ zs z. refl)
kind_stays (Key word.VarBinary ∷ Open ∷ []) =
    cut_off (Zero ∷ Close ∷ []) (kind.VarBinary (size_of (48 ∷ []))) refl (said_before Zero (Close ∷ []) said_zero said_close) (λ zs z. refl)
kind_stays (Key word.VarBinary ∷ Open ∷ Number digits ∷ rest) =
    made_of (λ r. Ok (kind.VarBinary (size_of digits), r)) (λ u. kind.VarBinary (size_of digits)) (λ u zs. refl) (close_stays rest)
kind_stays (Key word.VarBinary ∷ Open ∷ t ∷ rest) = faulty t rest refl (λ zs. refl)
kind_stays (Key word.VarBinary ∷ t ∷ rest) = faulty t rest refl (λ zs. refl)
kind_stays (t ∷ rest) = faulty t rest refl (λ zs. refl)

nullable_unsaid : {zs : List Token} → Apart zs → read.nullable_at zs ≡ Ok (None, zs)
unfolding read.nullable_at
nullable_unsaid at_end = refl
nullable_unsaid at_close = refl
nullable_unsaid at_from = refl
nullable_unsaid at_values = refl
nullable_unsaid at_name = refl

nullable_stays : (xs : List Token) → Stays pair Apart (read.nullable_at xs) (λ zs. read.nullable_at (xs ++ zs))
unfolding read.nullable_at
nullable_stays [] = took_all None refl (λ zs z. nullable_unsaid z)
nullable_stays (Key word.Not ∷ []) = cut_off (Key word.Null ∷ []) (Some false) refl said_null (λ zs z. refl)
nullable_stays (Key word.Not ∷ Key word.Null ∷ rest) = reads (Some false) rest refl (λ zs. refl)
nullable_stays (Key word.Not ∷ t ∷ rest) = faulty t rest refl (λ zs. refl)
nullable_stays (Key word.Null ∷ rest) = reads (Some true) rest refl (λ zs. refl)
nullable_stays (t ∷ rest) = took None t rest refl (λ zs. refl)

primary_unsaid : {zs : List Token} → Apart zs → read.primary_at zs ≡ Ok (false, zs)
unfolding read.primary_at
primary_unsaid at_end = refl
primary_unsaid at_close = refl
primary_unsaid at_from = refl
primary_unsaid at_values = refl
primary_unsaid at_name = refl

primary_stays : (xs : List Token) → Stays pair Apart (read.primary_at xs) (λ zs. read.primary_at (xs ++ zs))
unfolding read.primary_at
primary_stays [] = took_all false refl (λ zs z. primary_unsaid z)
primary_stays (Key word.Primary ∷ []) = cut_off (Key word.Key ∷ []) true refl said_key (λ zs z. refl)
primary_stays (Key word.Primary ∷ Key word.Key ∷ rest) = reads true rest refl (λ zs. refl)
primary_stays (Key word.Primary ∷ t ∷ rest) = faulty t rest refl (λ zs. refl)
primary_stays (t ∷ rest) = took false t rest refl (λ zs. refl)

abbrev bracketed_name : List Token
bracketed_name = Open ∷ X ∷ Close ∷ []

said_bracketed : Said bracketed_name
said_bracketed = said_before Open (X ∷ Close ∷ []) said_open (said_before X (Close ∷ []) said_x said_close)

pub closing_stays : {A : Type 0} {Fits : List Token → Type 0} (a : A) (xs : List Token)
    → Stays pair Fits (after_close xs >>= λ r. Ok (a, r)) (λ zs. after_close (xs ++ zs) >>= λ r. Ok (a, r))
closing_stays a xs = made_of (λ r. Ok (a, r)) (λ u. a) (λ u zs. refl) (close_stays xs)

bracketed_stays : {Fits : List Token → Type 0} (xs : List Token) → Stays pair Fits (read.bracketed_at xs) (λ zs. read.bracketed_at (xs ++ zs))
unfolding read.bracketed_at name_at
bracketed_stays [] = cut_off bracketed_name (120 ∷ []) refl said_bracketed (λ zs z. refl)
bracketed_stays (Open ∷ rest) =
    then {form = pair} (λ name. after_close name.1 >>= λ r. Ok (name.0, r)) (name_stays rest) (λ name t r e. closing_stays name (t ∷ r))
    (λ name. firmly (λ zs. after_close zs >>= λ r. Ok (name, r)) refl (closing_stays name []))
bracketed_stays (t ∷ rest) = faulty t rest refl (λ zs. refl)

abbrev ColumnRead : List ℕ → DeclaredKind → Option Bool → List Token → Read Definition
ColumnRead name k n xs = read.primary_at xs >>= λ primary. Ok (definition.Column name k n primary.0, primary.1)

column_primary : (name : List ℕ) (k : DeclaredKind) (n : Option Bool) (xs : List Token)
    → Stays pair Apart (ColumnRead name k n xs) (λ zs. ColumnRead name k n (xs ++ zs))
column_primary name k n xs =
    made_of (λ primary. Ok (definition.Column name k n primary.0, primary.1)) (λ primary. definition.Column name k n primary) (λ primary zs. refl)
    (primary_stays xs)

abbrev ColumnTail : List ℕ → DeclaredKind → List Token → Read Definition
ColumnTail name k xs = read.nullable_at xs >>= λ nullable. ColumnRead name k nullable.0 nullable.1

column_nullable : (name : List ℕ) (k : DeclaredKind) (xs : List Token) → Stays pair Apart (ColumnTail name k xs) (λ zs. ColumnTail name k (xs ++ zs))
unfolding read.primary_at
column_nullable name k xs =
    then {form = pair} (λ nullable. ColumnRead name k nullable.0 nullable.1) (nullable_stays xs) (λ n t rest e. column_primary name k n (t ∷ rest))
    (λ n. unsaid (definition.Column name k n false) refl (λ zs z. z) (λ zs z. rw (primary_unsaid z) refl))

abbrev ColumnRest : List ℕ → List Token → Read Definition
ColumnRest name xs = read.kind_at xs >>= λ k. ColumnTail name k.0 k.1

column_kind : (name : List ℕ) (xs : List Token) → Stays pair Apart (ColumnRest name xs) (λ zs. ColumnRest name (xs ++ zs))
unfolding read.primary_at read.nullable_at
column_kind name xs =
    then {form = pair} (λ k. ColumnTail name k.0 k.1) (kind_stays {Fits = Any} xs) (λ k t rest e. column_nullable name k (t ∷ rest))
    (λ k. unsaid (definition.Column name k None false) refl (λ zs z. tt) (λ zs z. rw (nullable_unsaid z, primary_unsaid z) refl))

column_stays : (xs : List Token) → Stays pair Apart (read.column_at xs) (λ zs. read.column_at (xs ++ zs))
unfolding read.column_at read.kind_at
column_stays xs =
    then {form = pair} (λ name. ColumnRest name.0 name.1) (name_stays xs) (λ name t rest e. column_kind name (t ∷ rest))
    (λ name. firmly (ColumnRest name) refl (column_kind name []))

named_key : {Fits : List Token → Type 0} (name : List ℕ) (xs : List Token)
    → Stays pair Fits (read.bracketed_at xs >>= λ column. Ok (definition.Key (Some name) column.0, column.1))
    (λ zs. read.bracketed_at (xs ++ zs) >>= λ column. Ok (definition.Key (Some name) column.0, column.1))
named_key name xs =
    made_of (λ column. Ok (definition.Key (Some name) column.0, column.1)) (λ column. definition.Key (Some name) column) (λ column zs. refl)
    (bracketed_stays xs)

key_stays : {Fits : List Token → Type 0} (xs : List Token) → Stays pair Fits (read.key_at xs) (λ zs. read.key_at (xs ++ zs))
unfolding read.key_at read.bracketed_at name_at
key_stays [] = cut_off bracketed_name (definition.Key None (120 ∷ [])) refl said_bracketed (λ zs z. refl)
key_stays (Open ∷ rest) =
    made_of (λ column. Ok (definition.Key None column.0, column.1)) (λ column. definition.Key None column) (λ column zs. refl) (bracketed_stays (Open ∷ rest))
key_stays (t ∷ rest) =
    then {form = pair} (λ name. read.bracketed_at name.1 >>= λ column. Ok (definition.Key (Some name.0) column.0, column.1)) (name_stays (t ∷ rest))
    (λ name u r e. named_key name (u ∷ r))
    (λ name. firmly (λ zs. read.bracketed_at zs >>= λ column. Ok (definition.Key (Some name) column.0, column.1)) refl (named_key name []))

abbrev a_column : Definition
a_column = definition.Column (120 ∷ []) kind.BigInt None false

define_stays : (xs : List Token) → Stays pair Apart (read.define_at xs) (λ zs. read.define_at (xs ++ zs))
unfolding read.define_at read.column_at read.kind_at read.bracketed_at name_at
define_stays [] =
    cut_off (X ∷ Key word.BigInt ∷ []) a_column refl (said_before X (Key word.BigInt ∷ []) said_x said_big_int)
    (λ zs z. rw (nullable_unsaid z, primary_unsaid z) refl)
define_stays (Key word.Primary ∷ []) =
    cut_off (Key word.Key ∷ bracketed_name) (definition.Primary (120 ∷ [])) refl (said_before (Key word.Key) bracketed_name said_key said_bracketed)
    (λ zs z. refl)
define_stays (Key word.Primary ∷ Key word.Key ∷ rest) =
    made_of (λ column. Ok (definition.Primary column.0, column.1)) (λ column. definition.Primary column) (λ column zs. refl) (bracketed_stays rest)
define_stays (Key word.Primary ∷ t ∷ rest) = faulty t rest refl (λ zs. refl)
define_stays (Key word.Key ∷ rest) = key_stays rest
define_stays (Key word.Index ∷ rest) = key_stays rest
define_stays (t ∷ rest) = column_stays (t ∷ rest)

-- ---- a definition takes tokens

name_shrinks : (xs : List Token) → IfOk (name_at xs) (λ x. length x.1 < length xs)
name_shrinks xs = weaker (name_at xs) (λ r. Name xs r.0 r.1) (λ x. length x.1 < length xs) (name_sound xs) (λ r n. name_shorter n)

close_shrinks : (xs : List Token) → IfOk (after_close xs) (λ ys. length ys < length xs)
close_shrinks [] = tt
close_shrinks (Close ∷ rest) = omega arith
close_shrinks (t ∷ rest) = tt

closing_shrinks : {A : Type 0} (a : A) (xs : List Token) (n : ℕ) → length xs ≤ n
    → IfOk {T = A × List Token} (after_close xs >>= λ r. Ok (a, r)) (λ x. length x.1 < n)
closing_shrinks {A} a xs n le =
    bind {B = A × List Token} (after_close xs) (λ r. Ok (a, r)) (λ ys. length ys < length xs) (λ x. length x.1 < n) (close_shrinks xs)
    (λ r lt. omega (arith, lt, le))

kind_shrinks : (xs : List Token) → IfOk (read.kind_at xs) (λ x. length x.1 < length xs)
unfolding read.kind_at
kind_shrinks [] = tt
kind_shrinks (Key word.BigInt ∷ rest) = omega arith
kind_shrinks (Key word.VarBinary ∷ []) = tt
kind_shrinks (Key word.VarBinary ∷ Open ∷ []) = tt
kind_shrinks (Key word.VarBinary ∷ Open ∷ Number digits ∷ rest) =
    closing_shrinks (kind.VarBinary (size_of digits)) rest (length (Key word.VarBinary ∷ Open ∷ Number digits ∷ rest)) (omega arith)
kind_shrinks (Key word.VarBinary ∷ Open ∷ t ∷ rest) = tt
kind_shrinks (Key word.VarBinary ∷ t ∷ rest) = tt
kind_shrinks (t ∷ rest) = tt

nullable_shrinks : (xs : List Token) → IfOk (read.nullable_at xs) (λ x. length x.1 ≤ length xs)
unfolding read.nullable_at
nullable_shrinks [] = omega arith
nullable_shrinks (Key word.Not ∷ []) = tt
nullable_shrinks (Key word.Not ∷ Key word.Null ∷ rest) = omega arith
nullable_shrinks (Key word.Not ∷ t ∷ rest) = tt
nullable_shrinks (Key word.Null ∷ rest) = omega arith
nullable_shrinks (t ∷ rest) = omega arith

primary_shrinks : (xs : List Token) → IfOk (read.primary_at xs) (λ x. length x.1 ≤ length xs)
unfolding read.primary_at
primary_shrinks [] = omega arith
primary_shrinks (Key word.Primary ∷ []) = tt
primary_shrinks (Key word.Primary ∷ Key word.Key ∷ rest) = omega arith
primary_shrinks (Key word.Primary ∷ t ∷ rest) = tt
primary_shrinks (t ∷ rest) = omega arith

bracketed_shrinks : (xs : List Token) → IfOk (read.bracketed_at xs) (λ x. length x.1 < length xs)
unfolding read.bracketed_at
bracketed_shrinks [] = tt
bracketed_shrinks (Open ∷ rest) =
    bind {B = List ℕ × List Token} (name_at rest) (λ name. after_close name.1 >>= λ r. Ok (name.0, r)) (λ x. length x.1 < length rest)
    (λ x. length x.1 < length (Open ∷ rest)) (name_shrinks rest)
    (λ name lt. closing_shrinks name.0 name.1 (length (Open ∷ rest)) (omega (arith, lt)))
bracketed_shrinks (t ∷ rest) = tt

column_shrinks : (xs : List Token) → IfOk (read.column_at xs) (λ x. length x.1 < length xs)
unfolding read.column_at
column_shrinks xs =
    let Q = λ (x : Definition × List Token). length x.1 < length xs in
    bind {B = Definition × List Token} (name_at xs) (λ name. ColumnRest name.0 name.1) (λ x. length x.1 < length xs) Q (name_shrinks xs)
    (λ name l. bind {B = Definition × List Token} (read.kind_at name.1) (λ k. ColumnTail name.0 k.0 k.1) (λ x. length x.1 < length name.1) Q
    (kind_shrinks name.1)
    (λ k m. bind {B = Definition × List Token} (read.nullable_at k.1) (λ nullable. ColumnRead name.0 k.0 nullable.0 nullable.1) (λ x. length x.1 ≤ length k.1) Q
    (nullable_shrinks k.1)
    (λ nullable n. bind {B = Definition × List Token} (read.primary_at nullable.1)
    (λ primary. Ok (definition.Column name.0 k.0 nullable.0 primary.0, primary.1)) (λ x. length x.1 ≤ length nullable.1) Q (primary_shrinks nullable.1)
    (λ primary o. omega (arith, l, m, n, o)))))

key_shrinks : (xs : List Token) → IfOk (read.key_at xs) (λ x. length x.1 < length xs)
unfolding read.key_at name_at
key_shrinks [] = tt
key_shrinks (Open ∷ rest) =
    bind {B = Definition × List Token} (read.bracketed_at (Open ∷ rest)) (λ column. Ok (definition.Key None column.0, column.1))
    (λ x. length x.1 < length (Open ∷ rest)) (λ x. length x.1 < length (Open ∷ rest)) (bracketed_shrinks (Open ∷ rest)) (λ column l. l)
key_shrinks (t ∷ rest) =
    let Q = λ (x : Definition × List Token). length x.1 < length (t ∷ rest) in
    bind {B = Definition × List Token} (name_at (t ∷ rest)) (λ name. read.bracketed_at name.1 >>= λ column. Ok
    (definition.Key (Some name.0) column.0, column.1)) (λ x. length x.1 < length (t ∷ rest)) Q (name_shrinks (t ∷ rest))
    (λ name l. bind {B = Definition × List Token} (read.bracketed_at name.1) (λ column. Ok (definition.Key (Some name.0) column.0, column.1))
    (λ x. length x.1 < length name.1) Q (bracketed_shrinks name.1) (λ column m. omega (arith, l, m)))

longer : {A : Type 0} (r : Read A) (n m : ℕ) → n ≤ m → IfOk r (λ x. length x.1 < n) → IfOk r (λ x. length x.1 < m)
longer r n m le h = weaker r (λ x. length x.1 < n) (λ x. length x.1 < m) h (λ x lt. omega (arith, le, lt))

define_shrinks : (xs : List Token) → IfOk (read.define_at xs) (λ x. length x.1 < length xs)
unfolding read.define_at read.column_at name_at
define_shrinks [] = tt
define_shrinks (Key word.Primary ∷ []) = tt
define_shrinks (Key word.Primary ∷ Key word.Key ∷ rest) =
    bind {B = Definition × List Token} (read.bracketed_at rest) (λ column. Ok (definition.Primary column.0, column.1)) (λ x. length x.1 < length rest)
    (λ x. length x.1 < length (Key word.Primary ∷ Key word.Key ∷ rest)) (bracketed_shrinks rest) (λ column l. omega (arith, l))
define_shrinks (Key word.Primary ∷ t ∷ rest) = tt
define_shrinks (Key word.Key ∷ rest) = longer (read.key_at rest) (length rest) (length (Key word.Key ∷ rest)) (omega arith) (key_shrinks rest)
define_shrinks (Key word.Index ∷ rest) = longer (read.key_at rest) (length rest) (length (Key word.Index ∷ rest)) (omega arith) (key_shrinks rest)
define_shrinks (t ∷ rest) = column_shrinks (t ∷ rest)

define_none : read.define_at [] ≡ Err []
unfolding read.define_at read.column_at name_at
define_none = refl

definitions_stay : (xs : List Token) → Stays pair Apart (commas_at read.define_at xs) (λ zs. commas_at read.define_at (xs ++ zs))
definitions_stay xs =
    commas_stay read.define_at define_none (λ ys rest d e. of_sound (read.define_at ys) (λ x. length x.1 < length ys) (d, rest)
    (define_shrinks ys) e) define_stays xs

-- ---- CREATE TABLE

skips_unsaid : {zs : List Token} → Apart zs → read.if_not_exists_at zs ≡ Ok (false, zs)
unfolding read.if_not_exists_at
skips_unsaid at_end = refl
skips_unsaid at_close = refl
skips_unsaid at_from = refl
skips_unsaid at_values = refl
skips_unsaid at_name = refl

skips_stay : (xs : List Token) → Stays pair Apart (read.if_not_exists_at xs) (λ zs. read.if_not_exists_at (xs ++ zs))
unfolding read.if_not_exists_at
skips_stay [] = took_all false refl (λ zs z. skips_unsaid z)
skips_stay (Key word.If ∷ []) =
    cut_off (Key word.Not ∷ Key word.Exists ∷ []) true refl (said_before (Key word.Not) (Key word.Exists ∷ []) said_not said_exists) (λ zs z. refl)
skips_stay (Key word.If ∷ Key word.Not ∷ []) = cut_off (Key word.Exists ∷ []) true refl said_exists (λ zs z. refl)
skips_stay (Key word.If ∷ Key word.Not ∷ Key word.Exists ∷ rest) = reads true rest refl (λ zs. refl)
skips_stay (Key word.If ∷ Key word.Not ∷ t ∷ rest) = faulty t rest refl (λ zs. refl)
skips_stay (Key word.If ∷ t ∷ rest) = faulty t rest refl (λ zs. refl)
skips_stay (t ∷ rest) = took false t rest refl (λ zs. refl)

inno_db_settles : (xs : List Token) → Settles (read.inno_db_of xs) (λ zs. read.inno_db_of (xs ++ zs))
unfolding read.inno_db_of
inno_db_settles [] = short (said word.InnoDb ∷ []) tt refl said_inno_db refl
inno_db_settles (Bare (Some word.InnoDb) a ∷ rest) = end_settles rest
inno_db_settles (t ∷ rest) = wrong t rest refl (λ zs. refl)

engine_settles : (xs : List Token) → Settles (read.engine_of xs) (λ zs. read.engine_of (xs ++ zs))
unfolding read.engine_of read.inno_db_of
engine_settles [] = whole tt refl
engine_settles (Bare (Some word.Engine) a ∷ []) = short (said word.InnoDb ∷ []) tt refl said_inno_db refl
engine_settles (Bare (Some word.Engine) a ∷ Compare Equal ∷ rest) = inno_db_settles rest
engine_settles (Bare (Some word.Engine) a ∷ t ∷ rest) = inno_db_settles (t ∷ rest)
engine_settles (t ∷ rest) = wrong t rest refl (λ zs. refl)

open_stays : {Fits : List Token → Type 0} (xs : List Token) → Stays alone Fits (after_open xs) (λ zs. after_open (xs ++ zs))
open_stays [] = cut_off (Open ∷ []) tt refl said_open (λ zs z. refl)
open_stays (Open ∷ rest) = reads tt rest refl (λ zs. refl)
open_stays (t ∷ rest) = faulty t rest refl (λ zs. refl)

module _ (skips : Bool) (table : List ℕ) where
  abbrev TableEnd : List Definition → List Token → Result Stmt (List Token)
  TableEnd definitions xs = after_close xs >>= λ rest. read.engine_of rest >>= λ nothing. Ok (stmt.CreateTable table skips definitions)

  table_end : (definitions : List Definition) (xs : List Token) → Settles (TableEnd definitions xs) (λ zs. TableEnd definitions (xs ++ zs))
  unfolding read.engine_of
  table_end definitions xs =
      then_last (λ rest. read.engine_of rest >>= λ nothing. Ok (stmt.CreateTable table skips definitions)) (close_stays {Fits = Any} xs)
      (λ u t rest e. last_made_of (λ nothing. stmt.CreateTable table skips definitions) (engine_settles (t ∷ rest)))
      (λ u. last_unsaid (stmt.CreateTable table skips definitions) refl tt)

  abbrev TableBody : List Token → Result Stmt (List Token)
  TableBody xs = commas_at read.define_at xs >>= λ definitions. TableEnd definitions.0 definitions.1

  table_body : (xs : List Token) → Settles (TableBody xs) (λ zs. TableBody (xs ++ zs))
  unfolding read.engine_of
  table_body xs =
      then_last (λ definitions. TableEnd definitions.0 definitions.1) (definitions_stay xs) (λ definitions t rest e. table_end definitions (t ∷ rest))
      (λ definitions. last_wanted (Close ∷ []) (stmt.CreateTable table skips definitions) refl said_close at_close refl)

  abbrev TableOpen : List Token → Result Stmt (List Token)
  TableOpen xs = after_open xs >>= λ inside. TableBody inside

  table_open : (xs : List Token) → Settles (TableOpen xs) (λ zs. TableOpen (xs ++ zs))
  unfolding items_at
  table_open xs = then_last (λ inside. TableBody inside) (open_stays xs) (λ u t rest e. table_body (t ∷ rest)) (λ u. firmly_last TableBody refl (table_body []))

abbrev CreateTail : Bool → List Token → Result Stmt (List Token)
CreateTail skips xs = name_at xs >>= λ table. TableOpen skips table.0 table.1

create_tail : (skips : Bool) (xs : List Token) → Settles (CreateTail skips xs) (λ zs. CreateTail skips (xs ++ zs))
create_tail skips xs =
    then_last (λ table. TableOpen skips table.0 table.1) (name_stays xs) (λ table t rest e. table_open skips table (t ∷ rest))
    (λ table. firmly_last (TableOpen skips table) refl (table_open skips table []))

abbrev a_table : List Token
a_table = X ∷ Open ∷ X ∷ Key word.BigInt ∷ Close ∷ []

said_table : Said a_table
said_table =
    said_before X (Open ∷ X ∷ Key word.BigInt ∷ Close ∷ []) said_x (said_before Open (X ∷ Key word.BigInt ∷ Close ∷ []) said_open
    (said_before X (Key word.BigInt ∷ Close ∷ []) said_x (said_before (Key word.BigInt) (Close ∷ []) said_big_int said_close)))

create_settles : (xs : List Token) → Settles (read.create_of xs) (λ zs. read.create_of (xs ++ zs))
unfolding read.create_of items_at read.define_at read.column_at read.kind_at read.nullable_at read.primary_at read.engine_of name_at
create_settles xs =
    then_last (λ skips. CreateTail skips.0 skips.1) (skips_stay xs) (λ skips t rest e. create_tail skips (t ∷ rest))
    (λ skips. last_wanted a_table (stmt.CreateTable (120 ∷ []) skips (a_column ∷ [])) refl said_table at_name refl)

table_stays : {Fits : List Token → Type 0} (xs : List Token) → Stays alone Fits (read.after_table xs) (λ zs. read.after_table (xs ++ zs))
table_stays [] = cut_off (Key word.Table ∷ []) tt refl said_the_table (λ zs z. refl)
table_stays (Key word.Table ∷ rest) = reads tt rest refl (λ zs. refl)
table_stays (t ∷ rest) = faulty t rest refl (λ zs. refl)

pub create_statement_settles : (xs : List Token) → Settles (read.create_statement_of xs) (λ zs. read.create_statement_of (xs ++ zs))
unfolding read.create_statement_of read.create_of read.if_not_exists_at name_at
create_statement_settles xs =
    then_last (λ rest. read.create_of rest) (table_stays xs) (λ u t rest e. create_settles (t ∷ rest))
    (λ u. firmly_last read.create_of refl (create_settles []))
