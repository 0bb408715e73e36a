-- What a refusal of bytes says, and which tokens a statement begins with.
use Rattle.std.specs.Prelude.{ℕ, List, ◌++◌}
use Rattle.inno_types.specs.declared.stmt.Stmt.{Stmt}
use Rattle.sql_grammar.specs.declared.token.Token.{Token}
use Rattle.sql_grammar.specs.Grammar.{Statement, Spells}
use Rattle.sql_text.specs.declared.parser.NotParsed.{NotParsed}
use Rattle.sql_text.specs.declared.parser.NotParsed.TheVariants.{NoStatement, NoMemory}

-- the bytes spell no statement
abbrev pub IsRefused : List ℕ → NotParsed → Type 0
IsRefused bytes NoStatement = (s : Stmt) → Spells bytes s → ⊥
IsRefused bytes NoMemory = Unit {0}

-- the tokens are a statement, or more of them behind these are one
abbrev pub IsFront : List Token → Type 0
IsFront tokens = (more : List Token) × (s : Stmt) × Statement (tokens ++ more) s
