-- The names among the tokens of a text are short.
use Rattle.std.proofs.Common.{◌≡◌, ℕ, ◌≤◌, Bool, true, false, List, [], ◌∷◌, length, Option, None, Some, refl, subst, arith}
use Rattle.std.specs.Prelude.{◌==◌, ◌||◌, if◌then◌else◌}
use Rattle.std.specs.List.{AllByRecursion}
use Rattle.std.proofs.lemmas.Bool.Decides.{nat_tests}
use Rattle.sql_grammar.specs.declared.token.Word.{Word}
use Rattle.sql_grammar.specs.declared.token.Token.{Token}
use Rattle.sql_grammar.specs.declared.token.Token.TheVariants.{Bare, Quoted, Number, Text}
use Rattle.sql_grammar.specs.Words.{reserved, word_among, capitals}
use Rattle.sql_grammar.specs.Tokens.{starts_word, is_digit, is_in_word, begins, quoted, text_in, front_while, fits_name, key_or_bare, word_token}
use Rattle.sql_grammar.specs.Tokens.{as_token, as_token_if, sign_at, token_at, AreTokens}
use Rattle.sql_grammar.specs.Tokens as tokens

abbrev pub IsShort : Token → Type 0
IsShort (Bare meaning name) = length name ≤ 64
IsShort (Quoted name) = length name ≤ 64
IsShort other = Unit {0}

-- if a token was read, then such a one
abbrev ReadsShort : Option (Token × List ℕ) → Type 0
ReadsShort None = Unit {0}
ReadsShort (Some read) = IsShort read.0

short_name : (name : List ℕ) → fits_name name ≡ true → length name ≤ 64
short_name [] h = omega arith
short_name (b ∷ bytes) h = grind (arith, nat_tests)

choose : (test : Bool) (one other : Option (Token × List ℕ)) → ReadsShort one → ReadsShort other → ReadsShort (if test then one else other)
choose true one other first second = first
choose false one other first second = second

as_short : (may : List ℕ → Bool) (token : List ℕ → Token) (read : List ℕ × List ℕ) → ((name : List ℕ) → may name ≡ true → IsShort (token name))
    → ReadsShort (as_token may token read)
as_short may token read h =
    elim (may read.0) as (λ b. may read.0 ≡ b → ReadsShort (if b then Some (token read.0, read.1) else None)) [ true ↦ λ e. h read.0 e | false ↦ λ e. tt ] refl

as_short_if : (may : List ℕ → Bool) (token : List ℕ → Token) (read : Option (List ℕ × List ℕ))
    → ((name : List ℕ) → may name ≡ true → IsShort (token name)) → ReadsShort (as_token_if may token read)
as_short_if may token None h = tt
as_short_if may token (Some read) h = as_short may token read h

word_short : (word : Option Word) (name : List ℕ) → fits_name name ≡ true → IsShort (key_or_bare word name)
word_short None name h = short_name name h
word_short (Some meant) name h = tt

bare_short : (name : List ℕ) → fits_name name ≡ true → IsShort (word_token name)
unfolding word_token
bare_short name h = word_short (word_among reserved (capitals name)) name h

sign_short : (bytes : List ℕ) → ReadsShort (sign_at bytes)
unfolding sign_at
sign_short [] = tt
sign_short (b ∷ bytes) =
    choose (b == 40) _ _ tt (choose (b == 41) _ _ tt (choose (b == 44) _ _ tt (choose (b == 42) _ _ tt
    (choose (b == 43) _ _ tt (choose (b == 45) _ _ tt (choose (b == 61) _ _ tt
    (choose (b == 33) _ _ (choose (begins 61 bytes) _ _ tt tt)
    (choose (b == 60) _ _ (choose (begins 61 bytes) _ _ tt (choose (begins 62 bytes) _ _ tt tt))
    (choose (b == 62) _ _ (choose (begins 61 bytes) _ _ tt tt) tt)))))))))

token_short : (bytes : List ℕ) → ReadsShort (token_at bytes)
unfolding token_at
token_short [] = tt
token_short (b ∷ bytes) =
    choose (starts_word b) _ _ (as_short fits_name word_token (front_while is_in_word (b ∷ bytes)) bare_short)
    (choose (is_digit b) _ _ (as_short (λ _. true) Number (front_while is_digit (b ∷ bytes)) (λ name e. tt))
    (choose (b == 96) _ _ (as_short_if fits_name Quoted (quoted 96 bytes) short_name)
    (choose (b == 39 || b == 34) _ _ (as_short_if (λ _. true) Text (text_in b bytes) (λ name e. tt)) (sign_short (b ∷ bytes)))))

pub all_short : {bytes : List ℕ} {read : List Token} → AreTokens bytes read → AllByRecursion IsShort read
all_short tokens.nothing = tt
all_short (tokens.blank e rest) = all_short rest
all_short (tokens.token {bytes = bytes} none e rest) = (subst ReadsShort e (token_short bytes), all_short rest)
