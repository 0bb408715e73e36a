-- Which bytes spell which tokens. A byte stands by its code in ASCII.
use Rattle.std.specs.Prelude.{◌≡◌, ℕ, List, [], ◌∷◌, ◌++◌, length, drop, Option, Some, None, Bool, true, false, ◌||◌, ◌&&◌, ◌==◌, nat_le, if◌then◌else◌}
use Rattle.std.specs.List.{prefix_len, take_while}
use Rattle.inno_types.specs.declared.stmt.Comparison.TheVariants.{Equal, NotEqual, Less, LessOrEqual, Greater, GreaterOrEqual}
use Rattle.sql_grammar.specs.declared.token.Word.{Word}
use Rattle.sql_grammar.specs.declared.token.Token.{Token}
use Rattle.sql_grammar.specs.declared.token.Token.TheVariants.{Key, Bare, Quoted, Number, Text, Compare, Open, Close, Comma, Star, Plus, Minus}
use Rattle.sql_grammar.specs.Words.{reserved, others, word_among, capitals}

-- space, or TAB, LF, VT, FF and CR
abbrev pub is_space : ℕ → Bool
is_space b = b == 32 || nat_le 9 b && nat_le b 13

abbrev pub is_digit : ℕ → Bool
is_digit b = nat_le 48 b && nat_le b 57

-- a letter, `_` or `$`
abbrev pub starts_word : ℕ → Bool
starts_word b = nat_le 65 b && nat_le b 90 || nat_le 97 b && nat_le b 122 || b == 95 || b == 36

abbrev pub is_in_word : ℕ → Bool
is_in_word b = starts_word b || is_digit b

-- the bytes begin with this one
abbrev pub begins : ℕ → List ℕ → Bool
begins c [] = false
begins c (b ∷ bytes) = b == c

-- behind a first `-`: another one, and then white space or the end
abbrev pub opens_line : List ℕ → Bool
opens_line [] = false
opens_line (b ∷ []) = b == 45
opens_line (b ∷ c ∷ bytes) = b == 45 && is_space c

-- what follows the line
unfoldable pub after_line : List ℕ → List ℕ
after_line [] = []
after_line (b ∷ bytes) = if b == 10 then bytes else after_line bytes

-- what follows the next `*/`
unfoldable pub after_comment : List ℕ → Option (List ℕ)
after_comment [] = None
after_comment (b ∷ bytes) = if b == 42 && begins 47 bytes then Some (drop 1 bytes) else after_comment bytes

-- what follows a byte of white space or a comment at the front: `#` or `-- ` to the end of the line, `/*` to `*/`
unfoldable pub after_blank : List ℕ → Option (List ℕ)
after_blank [] = None
after_blank (b ∷ bytes) =
    if is_space b then Some bytes
    else (if b == 35 || b == 45 && opens_line bytes then Some (after_line bytes)
    else (if b == 47 && begins 42 bytes then after_comment (drop 1 bytes)
    else None))

-- what was read, with more in front of it
abbrev pub with_front : List ℕ → Option (List ℕ × List ℕ) → Option (List ℕ × List ℕ)
with_front front None = None
with_front front (Some read) = Some (front ++ read.0, read.1)

-- the bytes up to the closing quote, and what follows it; a doubled quote is one
unfoldable mutual
  pub quoted : ℕ → List ℕ → Option (List ℕ × List ℕ)
  quoted quote [] = None
  quoted quote (b ∷ bytes) = if b == quote then doubled quote bytes else with_front (b ∷ []) (quoted quote bytes)

  pub doubled : ℕ → List ℕ → Option (List ℕ × List ℕ)
  doubled quote [] = Some ([], [])
  doubled quote (b ∷ bytes) = if b == quote then with_front (quote ∷ []) (quoted quote bytes) else Some ([], b ∷ bytes)

-- the letters that stand for another byte behind a backslash
abbrev pub unescaped : ℕ → ℕ
unescaped b =
    if b == 48 then 0
    else (if b == 98 then 8
    else (if b == 110 then 10
    else (if b == 114 then 13
    else (if b == 116 then 9
    else (if b == 90 then 26
    else b)))))

-- what a byte behind a backslash stands for; `%` and `_` keep the backslash
abbrev pub escaped : ℕ → List ℕ
escaped b = if b == 37 || b == 95 then 92 ∷ b ∷ [] else unescaped b ∷ []

-- the bytes that a text stands for up to its closing quote, and what follows it
unfoldable mutual
  pub text_in : ℕ → List ℕ → Option (List ℕ × List ℕ)
  text_in quote [] = None
  text_in quote (b ∷ bytes) =
      if b == quote then closes quote bytes
      else (if b == 92 then escapes quote bytes else with_front (b ∷ []) (text_in quote bytes))

  -- behind a quote
  pub closes : ℕ → List ℕ → Option (List ℕ × List ℕ)
  closes quote [] = Some ([], [])
  closes quote (b ∷ bytes) = if b == quote then with_front (quote ∷ []) (text_in quote bytes) else Some ([], b ∷ bytes)

  -- behind a backslash
  pub escapes : ℕ → List ℕ → Option (List ℕ × List ℕ)
  escapes quote [] = None
  escapes quote (b ∷ bytes) = with_front (escaped b) (text_in quote bytes)

-- the longest front whose bytes pass, and what follows it
abbrev pub front_while : (ℕ → Bool) → List ℕ → List ℕ × List ℕ
front_while p bytes = (take_while p bytes, drop (prefix_len p bytes) bytes)

-- a name has 1 to 64 bytes
abbrev pub fits_name : List ℕ → Bool
fits_name [] = false
fits_name (b ∷ bytes) = nat_le (length bytes) 63

abbrev pub key_or_bare : Option Word → List ℕ → Token
key_or_bare (Some word) bytes = Key word
key_or_bare None bytes = Bare (word_among others (capitals bytes)) bytes

-- the token of a bare word
unfoldable pub word_token : List ℕ → Token
word_token bytes = key_or_bare (word_among reserved (capitals bytes)) bytes

-- a token of what was read, if it may be one
abbrev pub as_token : (List ℕ → Bool) → (List ℕ → Token) → List ℕ × List ℕ → Option (Token × List ℕ)
as_token may token read = if may read.0 then Some (token read.0, read.1) else None

abbrev pub as_token_if : (List ℕ → Bool) → (List ℕ → Token) → Option (List ℕ × List ℕ) → Option (Token × List ℕ)
as_token_if may token None = None
as_token_if may token (Some read) = as_token may token read

-- the operator or the sign at the front, and what follows it
unfoldable pub sign_at : List ℕ → Option (Token × List ℕ)
sign_at [] = None
sign_at (b ∷ bytes) =
    if b == 40 then Some (Open, bytes)
    else (if b == 41 then Some (Close, bytes)
    else (if b == 44 then Some (Comma, bytes)
    else (if b == 42 then Some (Star, bytes)
    else (if b == 43 then Some (Plus, bytes)
    else (if b == 45 then Some (Minus, bytes)
    else (if b == 61 then Some (Compare Equal, bytes)
    else (if b == 33 then (if begins 61 bytes then Some (Compare NotEqual, drop 1 bytes) else None)
    else (if b == 60 then
    (if begins 61 bytes then Some (Compare LessOrEqual, drop 1 bytes)
    else (if begins 62 bytes then Some (Compare NotEqual, drop 1 bytes) else Some (Compare Less, bytes)))
    else (if b == 62 then
    (if begins 61 bytes then Some (Compare GreaterOrEqual, drop 1 bytes) else Some (Compare Greater, bytes))
    else None)))))))))

-- the token at the front of the bytes, as long as it goes, and what follows it
unfoldable pub token_at : List ℕ → Option (Token × List ℕ)
token_at [] = None
token_at (b ∷ bytes) =
    if starts_word b then as_token fits_name word_token (front_while is_in_word (b ∷ bytes))
    else (if is_digit b then as_token (λ _. true) Number (front_while is_digit (b ∷ bytes))
    else (if b == 96 then as_token_if fits_name Quoted (quoted 96 bytes)
    else (if b == 39 || b == 34 then as_token_if (λ _. true) Text (text_in b bytes)
    else sign_at (b ∷ bytes))))

-- The bytes are these tokens, with white space and comments before, between and behind them.
pub data AreTokens : List ℕ → List Token → Type 0 where
  nothing : AreTokens [] []
  blank : {bytes rest : List ℕ} {tokens : List Token} → after_blank bytes ≡ Some rest → AreTokens rest tokens → AreTokens bytes tokens
  token : {bytes rest : List ℕ} {first : Token} {tokens : List Token} → after_blank bytes ≡ None → token_at bytes ≡ Some (first, rest) → AreTokens rest tokens → AreTokens bytes (first ∷ tokens)
