-- What a refusal of bytes says.
use Rattle.std.specs.Prelude.{◌≡◌, ℕ, List, min}
use Rattle.inno_types.specs.declared.stmt.Stmt.{Stmt}
use Rattle.sql_grammar.specs.Grammar.{Spells}
use Rattle.sql_prefix.specs.declared.parser.ParseBad.{ParseBad}
use Rattle.sql_prefix.specs.declared.parser.ParseBad.TheVariants.{Syntax, NoMemory}
use Rattle.sql_prefix.specs.Prefix.{IsLongestPrefix}

-- the bytes spell no statement, and the place, as far as 32 bits go, is where the longest prefix ends that begins one
abbrev pub IsRefusedAt : List ℕ → ParseBad → Type 0
IsRefusedAt bytes (Syntax at) = (longest : ℕ) × IsLongestPrefix bytes longest × (at ≡ min longest 4294967295) × ((s : Stmt) → Spells bytes s → ⊥)
IsRefusedAt bytes NoMemory = Unit {0}

-- The first byte, as far as 32 bits go, at which the bytes go wrong: those before it begin a statement, and with one more they begin none.
abbrev pub IsFirstBad : List ℕ → ℕ → Type 0
IsFirstBad bytes at = (longest : ℕ) × IsLongestPrefix bytes longest × (at ≡ min longest 4294967295)
