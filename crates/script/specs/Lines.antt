-- Lines: where they begin, which one a place is in, and what may stand at a directive's end.
use Rattle.std.specs.Prelude.{ℕ, ◌+◌, ◌-◌, List, [], ◌∷◌, drop, take, Option, Some, None, Bool, ◌||◌, ◌&&◌, ◌==◌, count_by, slice_index_or, if◌then◌else◌}
use Rattle.sql_grammar.specs.Tokens.{begins}

-- at the front, and behind each line feed
abbrev pub begins_line : List ℕ → ℕ → Bool
begins_line bytes at = at == 0 || slice_index_or bytes (at - 1) 0 == 10

-- the number of the line behind some bytes
abbrev pub line_after : List ℕ → ℕ
line_after before = count_by (λ b. b == 10) before + 1

-- the number of the line that the place is in; lines count from 1
abbrev pub line_at : List ℕ → ℕ → ℕ
line_at bytes at = line_after (take at bytes)

-- what follows the end of a directive's line: spaces, and then a line feed, perhaps behind a CR, or nothing
unfoldable pub after_end : List ℕ → Option (List ℕ)
after_end [] = Some []
after_end (b ∷ bytes) =
    if b == 32 then after_end bytes
    else (if b == 10 then Some bytes
    else (if b == 13 && begins 10 bytes then Some (drop 1 bytes)
    else None))
