-- The keys of spots as they are kept.
use Rattle.std.specs.Prelude.{ℕ, ◌≤◌, List, length, Option, IfSome}

-- no longer than the longest key: 67 bytes
abbrev pub IsShort : Option (List ℕ) → Type 0
IsShort key = IfSome key (λ bytes. length bytes ≤ 67)
