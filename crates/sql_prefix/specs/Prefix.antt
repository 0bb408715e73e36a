-- Which bytes begin a statement, how far the longest front that does goes, and how that is found by trying.
use Rattle.std.specs.Prelude.{◌≡◌, ℕ, ◌+◌, ◌-◌, ◌<◌, ◌≤◌, List, [], ◌∷◌, ◌++◌, length, take, drop, Bool, true}
use Rattle.std.specs.Str.{bytes_eq}
use Rattle.inno_types.specs.declared.stmt.Stmt.{Stmt}
use Rattle.sql_grammar.specs.declared.token.Token.{Token}
use Rattle.sql_grammar.specs.declared.token.Word.{Word}
use Rattle.sql_grammar.specs.Words.{capitals, spelling}
use Rattle.sql_grammar.specs.Tokens.{AreTokens}
use Rattle.sql_grammar.specs.Grammar.{Spells}
use Rattle.sql_text.specs.Parsed.{IsFront}
use Rattle.sql_prefix.specs.declared.prefix.TokenEnd.{TokenEnd}
use Rattle.sql_prefix.specs.Endings.{token_end}

-- the bytes are in the grammar
abbrev pub IsStatement : List ℕ → Type 0
IsStatement bytes = (s : Stmt) × Spells bytes s

-- some byte string of the grammar begins with the bytes
abbrev pub Begins : List ℕ → Type 0
Begins bytes = (more : List ℕ) × IsStatement (bytes ++ more)

-- the longest prefix that begins some statement of the grammar ends there
pub record IsLongestPrefix (bytes : List ℕ) (at : ℕ) : Type 0 where
  pub within : at ≤ length bytes
  pub begins : Begins (take at bytes)
  pub longest : at < length bytes → Begins (take (at + 1) bytes) → ⊥

-- ---- how it is found

-- a prefix that begins a statement, and a longer one that doesn't
pub record IsBetween (bytes : List ℕ) (low high : ℕ) : Type 0 where
  pub apart : low < high
  pub within : high ≤ length bytes
  pub begins : Begins (take low bytes)
  pub fails : Begins (take high bytes) → ⊥

-- the bytes, such an end of their last token, and a new line
abbrev pub ended : List ℕ → List ℕ → List ℕ
ended bytes end = bytes ++ (end ++ (10 ∷ []))

-- with such an end of their last token, the bytes are the first tokens of a statement
pub record IsCutOff (bytes end : List ℕ) : Type 0 where
  pub tokens : List Token
  pub lexed : AreTokens (ended bytes end) tokens
  pub begun : IsFront tokens

abbrev pub GoesOnByToken : List ℕ → Type 0
GoesOnByToken bytes = (end : TokenEnd) × IsCutOff bytes (token_end end)

-- whether the last bytes are these, in any case of letters
abbrev pub ends_in : List ℕ → List ℕ → Bool
ends_in bytes head = bytes_eq (capitals (drop (length bytes - length head) bytes)) head

-- the bytes end in so many bytes of the word, and are cut off there
abbrev pub GoesOnAt : List ℕ → List ℕ → ℕ → Type 0
GoesOnAt bytes word len = (ends_in bytes (take len word) ≡ true) × IsCutOff bytes (drop len word)

-- the bytes end in a front of the word, and are cut off there
abbrev pub GoesOn : List ℕ → List ℕ → Type 0
GoesOn bytes word = (len : ℕ) × (1 ≤ len) × (len ≤ length word) × GoesOnAt bytes word len

abbrev pub GoesOnByWord : List ℕ → Type 0
GoesOnByWord bytes = (word : Word) × GoesOn bytes (spelling word)
