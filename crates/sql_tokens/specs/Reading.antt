-- How far the tokens of some bytes go.
use Rattle.std.specs.Prelude.{◌≡◌, ℕ, List, [], ◌∷◌, length, Some, None}
use Rattle.sql_grammar.specs.declared.token.Token.{Token}
use Rattle.sql_grammar.specs.Tokens.{after_blank, token_at}

-- The bytes begin with these tokens, with blanks before and between them, and the rest follows.
-- From each token on stand so many bytes.
pub data BeginWith : List ℕ → List Token → List ℕ → List ℕ → Type 0 where
  here : {rest : List ℕ} → BeginWith rest [] [] rest
  blank : {bytes after lefts rest : List ℕ} {tokens : List Token} → after_blank bytes ≡ Some after → BeginWith after tokens lefts rest → BeginWith bytes tokens lefts rest
  token : {bytes after lefts rest : List ℕ} {first : Token} {tokens : List Token} → after_blank bytes ≡ None → token_at bytes ≡ Some (first, after) → BeginWith after tokens lefts rest → BeginWith bytes (first ∷ tokens) (length bytes ∷ lefts) rest

-- nothing stands there, or what is neither a blank nor a token
pub data Stops : List ℕ → Type 0 where
  ends : Stops []
  no_token : {bytes : List ℕ} → after_blank bytes ≡ None → token_at bytes ≡ None → Stops bytes

-- the tokens go as far as they can, and so many bytes are left
pub record IsLexed (bytes : List ℕ) (tokens : List Token) (lefts : List ℕ) (unread : ℕ) : Type 0 where
  pub rest : List ℕ
  pub begin : BeginWith bytes tokens lefts rest
  pub stops : Stops rest
  pub left : length rest ≡ unread
