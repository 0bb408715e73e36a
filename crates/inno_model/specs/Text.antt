-- The text of a history: for each session its name, and the replies to its items.
use Rattle.std.specs.Prelude.{ℕ, ◌+◌, List, [], ◌∷◌, ◌++◌, ◌==◌, if◌then◌else◌, codes, length}
use Rattle.std.specs.List.{flat_map}
use Rattle.std.specs.Fmt.{decimal, signed_decimal}
use Rattle.inno_types.specs.Codes.{code_of, state_of}
use Rattle.inno_types.specs.declared.value.Value.{Value}
use Rattle.inno_types.specs.declared.value.Value.TheVariants.{Null, Int, Text}
use Rattle.inno_types.specs.declared.reply.Item.{Item}
use Rattle.inno_types.specs.declared.reply.Reply.{Reply}
use Rattle.inno_types.specs.declared.reply.Reply.TheVariants.{Done, Count, Rows, Fail, RunLimit, NotSignalled, Stopped, NoMemory}
use Rattle.inno_model.specs.declared.event.Event.{Event}
use Rattle.inno_model.specs.declared.event.Event.TheVariants.{Started, Ended}
use Rattle.inno_model.specs.Recorded.{Recorded}

-- a byte of a text: 0, TAB, LF and the backslash are written by two bytes
abbrev pub byte_text : ℕ → List ℕ
byte_text b =
    if b == 0 then codes "\\0" else if b == 9 then codes "\\t" else if b == 10 then codes "\\n" else if b == 92 then codes "\\\\" else b ∷ []

abbrev pub value_text : Value → List ℕ
value_text Null = codes "NULL"
value_text (Int n) = signed_decimal n
value_text (Text bytes) = flat_map byte_text bytes

-- a value behind another
abbrev pub next_text : Value → List ℕ
next_text value = 9 ∷ value_text value

-- the values, with TAB between them
abbrev pub row_text : List Value → List ℕ
row_text [] = 10 ∷ []
row_text (value ∷ values) = value_text value ++ (flat_map next_text values ++ 10 ∷ [])

abbrev pub reply_text : Reply → List ℕ
reply_text Done = codes "OK\n"
reply_text (Count n) = codes "OK " ++ (decimal n ++ 10 ∷ [])
reply_text (Rows rows) = codes "ROWS " ++ (decimal (length rows) ++ (10 ∷ flat_map row_text rows))
reply_text (Fail error) = codes "ERROR " ++ (decimal (code_of error) ++ (codes " (" ++ (state_of error ++ codes ")\n")))
reply_text (RunLimit rows) = codes "RUN LIMIT\n"
reply_text (NotSignalled waited) = codes "NOT SIGNALLED\n"
reply_text Stopped = codes "STOPPED\n"
reply_text NoMemory = codes "NO MEMORY\n"

-- an item's number within its session, and its reply
abbrev pub answer_text : ℕ × Reply → List ℕ
answer_text a = decimal a.0 ++ (codes "> " ++ reply_text a.1)

-- the items that the session started, in order
abbrev pub items : ℕ → List Event → List Item
items s [] = []
items s (Started t j item ∷ past) = if t == s then items s past ++ item ∷ [] else items s past
items s (other ∷ past) = items s past

-- the numbers and replies of the items that the session ended, in order
abbrev pub answers : ℕ → List Event → List (ℕ × Reply)
answers s [] = []
answers s (Ended t j reply ∷ past) = if t == s then answers s past ++ (j, reply) ∷ [] else answers s past
answers s (other ∷ past) = answers s past

abbrev pub headed : List ℕ → List Item → List ℕ → List ℕ
headed name [] body = []
headed name (item ∷ items) body = codes "@session " ++ (name ++ (10 ∷ body))

-- what stands for a session: nothing if it has no item
abbrev pub section : ℕ → List ℕ → List Event → List ℕ
section s name past = headed name (items s past) (flat_map answer_text (answers s past))

-- the sections of these sessions, the first of which has the number s
abbrev pub sections : ℕ → List (List ℕ) → List Event → List ℕ
sections s [] past = []
sections s (name ∷ names) past = section s name past ++ sections (s + 1) names past

abbrev pub text : Recorded → List ℕ
text history = sections 0 history.names history.past
