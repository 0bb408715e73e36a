-- How a script is written: a line for each directive, and each statement with a `;` and the end of its line.
use Rattle.std.specs.Prelude.{ℕ, ◌+◌, ◌-◌, List, [], ◌∷◌, ◌++◌, ◌==◌, if◌then◌else◌, codes, take, drop, nat_le}
use Rattle.std.specs.List.{flat_map, prefix_len}
use Rattle.std.specs.Fmt.{decimal}
use Rattle.inno_types.specs.declared.reply.Item.{Item}
use Rattle.inno_types.specs.declared.reply.Item.TheVariants.{Sql, Signal, Await}
use Rattle.sql_grammar.specs.Tokens.{begins}
use Rattle.script.specs.declared.script.Script.{Script}
use Rattle.script.specs.declared.script.ScriptItem.{ScriptItem}
use Rattle.script.specs.declared.script.Tick.{Tick}

-- A statement that begins with `@` stands behind a space: at the front of a line it would be a directive.
abbrev pub statement_text : List ℕ → List ℕ
statement_text text = (if begins 64 text then codes " " else []) ++ (text ++ codes ";\n")

abbrev pub item_text : Item → List ℕ
item_text (Sql text) = statement_text text
item_text (Signal name) = codes "@signal " ++ (name ++ codes "\n")
item_text (Await name) = codes "@await " ++ (name ++ codes "\n")

abbrev pub session_text : List ℕ → List ℕ
session_text name = codes "@session " ++ (name ++ codes "\n")

abbrev pub tick_text : Tick → List ℕ
tick_text tick = codes "@tick " ++ (decimal tick.seconds ++ codes "\n")

-- how many of the ticks come before the next item, behind so many
abbrev pub due : ℕ → List Tick → ℕ
due items ticks = prefix_len (λ tick. nat_le tick.items items) ticks

-- how many names have a line once the session's items follow
abbrev pub named_then : ℕ → ℕ → ℕ
named_then named s = if nat_le named s then s + 1 else named

-- The lines after which the session's items follow, behind those of `last`. The first `named` names had their first line
-- before; those up to the session's own get it now, so that each session keeps its number.
abbrev pub changed_names : List (List ℕ) → ℕ → ℕ → ℕ → List (List ℕ)
changed_names names named last s =
    if nat_le named s then take (s + 1 - named) (drop named names)
    else (if s == last then [] else take 1 (drop s names))

-- What is written from the next item on, behind so many. The sessions without an item are named in the end.
abbrev pub text_from : List (List ℕ) → ℕ → ℕ → ℕ → List Tick → List ScriptItem → List ℕ
text_from names named last count ticks [] = flat_map tick_text ticks ++ flat_map session_text (drop named names)
text_from names named last count ticks (x ∷ items) =
    flat_map tick_text (take (due count ticks) ticks)
    ++ (flat_map session_text (changed_names names named last x.s)
    ++ (item_text x.item
    ++ text_from names (named_then named x.s) x.s (count + 1) (drop (due count ticks) ticks) items))

abbrev pub script_text : Script → List ℕ
script_text script = text_from script.names 1 0 0 script.ticks script.items
