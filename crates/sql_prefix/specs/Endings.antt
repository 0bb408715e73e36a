-- What finishes a token that is cut off, in bytes.
use Rattle.std.specs.Prelude.{ℕ, List, [], ◌∷◌}
use Rattle.sql_prefix.specs.declared.prefix.TokenEnd.{TokenEnd}
use Rattle.sql_prefix.specs.declared.prefix.TokenEnd.TheVariants as token

-- the end of a token or of a comment
abbrev pub token_end : TokenEnd → List ℕ
token_end token.Nothing = []
token_end token.Underscore = 95 ∷ []
token_end token.Equal = 61 ∷ []
token_end token.Minus = 45 ∷ []
token_end token.EndOfComment = 42 ∷ 47 ∷ []
token_end token.Comment = 42 ∷ 42 ∷ 47 ∷ []
token_end token.Backquote = 96 ∷ []
token_end token.Name = 120 ∷ 96 ∷ []
token_end token.Backquotes = 96 ∷ 96 ∷ []
token_end token.Quote = 39 ∷ []
token_end token.Text = 120 ∷ 39 ∷ []
token_end token.DoubleQuote = 34 ∷ []
token_end token.DoubleText = 120 ∷ 34 ∷ []
