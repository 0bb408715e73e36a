-- What stands at a place of a script. White space, comments, quoted names and texts are those of SQL.
use Rattle.std.specs.Prelude.{ℕ, ◌-◌, ◌<◌, ◌≤◌, List, [], ◌∷◌, length, drop, Option, Some, None, Bool, not, ◌||◌, ◌&&◌, ◌==◌, if◌then◌else◌}
use Rattle.std.specs.List.{prefix_len}
use Rattle.sql_grammar.specs.Tokens.{begins, after_blank, quoted, text_in}
use Rattle.script.specs.declared.part.Part.{Part}
use Rattle.script.specs.declared.part.Part.TheVariants.{Directive, Blank, Semicolon, Token, Unended}
use Rattle.script.specs.Lines.{begins_line}
use Rattle.script.specs.Names.{is_name_byte}

-- what follows what was read
abbrev pub behind : Option (List ℕ × List ℕ) → Option (List ℕ)
behind None = None
behind (Some read) = Some read.1

-- What follows a text, a quoted name, some letters, or any other byte. Nothing does where a text, a quoted name or a
-- comment has no end; a comment that has one is a blank.
unfoldable pub after_token : List ℕ → Option (List ℕ)
after_token [] = None
after_token (b ∷ bytes) =
    if b == 39 || b == 34 then behind (text_in b bytes)
    else (if b == 96 then behind (quoted 96 bytes)
    else (if b == 47 && begins 42 bytes then None
    else (if is_name_byte b then Some (drop (prefix_len is_name_byte bytes) bytes)
    else Some bytes)))

abbrev pub token_or_unended : ℕ → Option (List ℕ) → Part
token_or_unended total None = Unended
token_or_unended total (Some rest) = Token (total - length rest)

abbrev pub blank_or : ℕ → Option (List ℕ) → Part → Part
blank_or total None other = other
blank_or total (Some rest) other = Blank (total - length rest)

-- a blank, a `;` or a token, and where among so many bytes it ends
abbrev pub part_of : ℕ → List ℕ → Part
part_of total rest = blank_or total (after_blank rest) (if begins 59 rest then Semicolon else token_or_unended total (after_token rest))

-- a line that begins with `@` is a directive, unless it lies inside a statement
abbrev pub part_at : List ℕ → ℕ → Bool → Part
part_at bytes at inside =
    if not inside && begins 64 (drop at bytes) && begins_line bytes at then Directive
    else part_of (length bytes) (drop at bytes)

-- a blank and a token go on, and end within the bytes
abbrev pub IsWithin : ℕ → ℕ → Part → Type 0
IsWithin at total (Blank end) = (at < end) × (end ≤ total)
IsWithin at total (Token end) = (at < end) × (end ≤ total)
IsWithin at total other = Unit {0}
