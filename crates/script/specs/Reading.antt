-- How a script is read: what each of its parts says, one after another.
use Rattle.std.specs.Prelude.{◌≡◌, ℕ, ◌+◌, ◌-◌, ◌≤◌, List, [], ◌∷◌, ◌++◌, ◌==◌, ◌&&◌, if◌then◌else◌, length, drop, slice_range, bytes_eq, codes, Option, None, Some, is_some, IfSome, Result, Ok, Err, nat_le, nat_lt}
use Rattle.std.specs.List.{position_or_len}
use Rattle.inno_types.specs.declared.reply.Item.{Item}
use Rattle.inno_types.specs.declared.reply.Item.TheVariants as items
use Rattle.script.specs.declared.part.Part.{Part}
use Rattle.script.specs.declared.part.Part.TheVariants.{Directive as DirectiveHere, Blank, Semicolon, Token, Unended}
use Rattle.script.specs.declared.directive.Directive.{Directive}
use Rattle.script.specs.declared.directive.Directive.TheVariants.{Session, Signal, Await, Tick}
use Rattle.script.specs.Lines.{line_at}
use Rattle.script.specs.Parts.{part_at}
use Rattle.script.specs.Directives.{directive_at}
use Rattle.script.specs.declared.script.Script.{Script}
use Rattle.script.specs.declared.script.Directives.{Directives}
use Rattle.script.specs.declared.script.ScriptBad.{ScriptBad}
use Rattle.script.specs.declared.script.Limited.{Limited}
use Rattle.script.specs.declared.script.Limited.TheVariants as limited
use Rattle.script.specs.declared.script.ScriptBad.TheVariants.{Line, Limit, NoMemory}
use Rattle.script.specs.declared.reading.Span.{Span}
use Rattle.script.specs.declared.reading.Reading.{Reading}

-- ---- why bytes are no script

abbrev pub bad_line : List ℕ → ℕ → ScriptBad
bad_line bytes at = Line (line_at bytes at)

-- one more than the limit of this number allows
-- the number that a fault has for what is limited
abbrev pub number_of_limit : Limited → ℕ
number_of_limit limited.Sessions = 1
number_of_limit limited.Items = 2
number_of_limit limited.Statement = 3
number_of_limit limited.Script = 4
number_of_limit limited.Rows = 5

abbrev pub over : Limited → ℕ → ScriptBad
over what most = Limit (number_of_limit what) (most + 1) most

abbrev pub most_sessions : ℕ
most_sessions = 64

abbrev pub most_items : ℕ
most_items = 100000

abbrev pub most_statement_bytes : ℕ
most_statement_bytes = 4096

abbrev pub most_bytes : ℕ
most_bytes = 67108864

-- ---- what is read so far

-- nothing but the name of the setup part
abbrev pub begun : Reading
begun = record { script = record { names = codes "setup" ∷ []; items = []; ticks = [] }; s = 0; at = 0; statement = None }

-- an item more of the session that was named last
abbrev pub with_item : Reading → Item → Reading
with_item reading item = record reading { script = record reading.script { items = reading.script.items ++ record { s = reading.s; item = item } ∷ [] } }

-- a name's place, or how many names there are
abbrev pub number_of : List ℕ → List (List ℕ) → ℕ
number_of name names = position_or_len (λ other. bytes_eq other name) names

-- a name behind the others, unless it is there
abbrev pub with_name : List (List ℕ) → List ℕ → List (List ℕ)
with_name names name = if number_of name names == length names then names ++ name ∷ [] else names

-- ---- statements

abbrev pub closed_at : List ℕ → Reading → Option Span → Reading
closed_at bytes reading None = reading
closed_at bytes reading (Some span) = record (with_item reading (items.Sql (slice_range bytes span.from span.to))) { statement = None }

-- the statement under way, if there is one, is an item: its bytes from the first token to the last
abbrev pub closed : List ℕ → Reading → Reading
closed bytes reading = closed_at bytes reading reading.statement

-- the statement goes on to the end of a token
abbrev pub grown : Reading → ℕ → ℕ → Result Reading ScriptBad
grown reading from end =
    if nat_lt most_statement_bytes (end - from) then Err (over limited.Statement most_statement_bytes)
    else Ok (record reading { statement = Some (record { from = from; to = end }); at = end })

abbrev pub extended_at : Reading → ℕ → Option Span → Result Reading ScriptBad
extended_at reading end (Some span) = grown reading span.from end
extended_at reading end None = if nat_le most_items (length reading.script.items) then Err (over limited.Items most_items) else grown reading reading.at end

-- a token of the statement under way, or the first one of a statement
abbrev pub extended : Reading → ℕ → Result Reading ScriptBad
extended reading end = extended_at reading end reading.statement

-- ---- directives

-- The session has its number by its first line. The setup part has no line of its own.
abbrev pub named : List ℕ → Reading → List ℕ → Result Reading ScriptBad
named bytes reading name =
    if bytes_eq name (codes "setup") then Err (bad_line bytes reading.at)
    else (if nat_lt most_sessions (number_of name reading.script.names) then Err (over limited.Sessions most_sessions)
    else Ok (record reading { script = record reading.script { names = with_name reading.script.names name }; s = number_of name reading.script.names }))

-- an item of a session, and not of the setup part
abbrev pub signalled : Directives → List ℕ → Reading → Item → Result Reading ScriptBad
signalled allowed bytes reading item =
    if allowed.signals && nat_lt 0 reading.s then
    (if nat_le most_items (length reading.script.items) then Err (over limited.Items most_items) else Ok (with_item reading item))
    else Err (bad_line bytes reading.at)

abbrev pub heard : Directives → List ℕ → Reading → Directive → Result Reading ScriptBad
heard allowed bytes reading (Session name) = named bytes reading name
heard allowed bytes reading (Signal name) = signalled allowed bytes reading (items.Signal name)
heard allowed bytes reading (Await name) = signalled allowed bytes reading (items.Await name)
heard allowed bytes reading (Tick seconds) =
    if allowed.ticks then
    Ok (record reading { script = record reading.script { ticks = reading.script.ticks ++ record { items = length reading.script.items; seconds = seconds } ∷ [] } })
    else Err (bad_line bytes reading.at)

abbrev pub moved : ℕ → Result Reading ScriptBad → Result Reading ScriptBad
moved at (Ok reading) = Ok (record reading { at = at })
moved at (Err bad) = Err bad

abbrev pub obeyed_at : Directives → List ℕ → Reading → Option (Directive × List ℕ) → Result Reading ScriptBad
obeyed_at allowed bytes reading None = Err (bad_line bytes reading.at)
obeyed_at allowed bytes reading (Some found) = moved (length bytes - length found.1) (heard allowed bytes reading found.0)

-- what the directive says whose line begins here
abbrev pub obeyed : Directives → List ℕ → Reading → Result Reading ScriptBad
obeyed allowed bytes reading = obeyed_at allowed bytes reading (directive_at (drop reading.at bytes))

-- ---- parts

abbrev pub taken : Directives → List ℕ → Reading → Part → Result Reading ScriptBad
taken allowed bytes reading DirectiveHere = obeyed allowed bytes reading
taken allowed bytes reading (Blank end) = Ok (record reading { at = end })
taken allowed bytes reading Semicolon = Ok (record (closed bytes reading) { at = reading.at + 1 })
taken allowed bytes reading (Token end) = extended reading end
taken allowed bytes reading Unended = Err (bad_line bytes reading.at)

-- what the next part says, unless the bytes of a script end before it
abbrev pub step : Directives → List ℕ → Reading → Result Reading ScriptBad
step allowed bytes reading =
    if nat_lt most_bytes (length bytes) && nat_le most_bytes reading.at then Err (over limited.Script most_bytes)
    else taken allowed bytes reading (part_at bytes reading.at (is_some reading.statement))

-- the script, all of whose parts are read
abbrev pub finished : List ℕ → Reading → Result Script ScriptBad
finished bytes reading = if nat_lt most_bytes (length bytes) then Err (over limited.Script most_bytes) else Ok (closed bytes reading).script

-- ---- what contracts say

-- Of want of memory nothing is said.
abbrev pub IsTold : {T : Type 0} → ScriptBad → Result T ScriptBad → Type 0
IsTold NoMemory told = Unit {0}
IsTold bad told = told ≡ Err bad

-- a reading is as told, or else the bytes are no script for the reason told
abbrev pub Tells : Result Reading ScriptBad → Result (Unit {0}) ScriptBad → Reading → Type 0
Tells told (Ok done) new = told ≡ Ok new
Tells told (Err bad) new = IsTold bad told

-- the statement under way lies before the place, and the place in the bytes
pub record IsPlaced (total : ℕ) (reading : Reading) : Type 0 where
  pub within : reading.at ≤ total
  pub ordered : IfSome reading.statement (λ span. span.from ≤ span.to)
  pub before : IfSome reading.statement (λ span. span.to ≤ reading.at)
