-- How deep in brackets tokens end.
use Rattle.std.specs.Prelude.{ℕ, zero, suc, List, [], ◌∷◌}
use Rattle.sql_grammar.specs.declared.token.Token.{Token}
use Rattle.sql_grammar.specs.declared.token.Token.TheVariants.{Open, Close}

-- one less, and never below none
abbrev pub shallower : ℕ → ℕ
shallower zero = zero
shallower (suc depth) = depth

abbrev pub stepped : ℕ → Token → ℕ
stepped depth Open = suc depth
stepped depth Close = shallower depth
stepped depth other = depth

-- how many brackets are open behind the tokens, where so many were before them
abbrev pub level : ℕ → List Token → ℕ
level depth [] = depth
level depth (token ∷ tokens) = level (stepped depth token) tokens
