-- Where a reply says that a text goes wrong: at its first bad byte, wherever it is no statement.
use Rattle.std.specs.Prelude.{List, [], ◌∷◌, Option, Some}
use Rattle.inno_types.specs.declared.reply.Item.{Item}
use Rattle.inno_types.specs.declared.reply.Item.TheVariants.{Sql}
use Rattle.inno_types.specs.declared.reply.Reply.{Reply}
use Rattle.inno_types.specs.declared.reply.Reply.TheVariants.{Fail}
use Rattle.inno_types.specs.declared.reply.SqlError.TheVariants.{Syntax}
use Rattle.inno_model.specs.declared.event.Event.{Event}
use Rattle.inno_model.specs.declared.event.Event.TheVariants.{Ended}
use Rattle.inno_model.specs.Past.{under_way}
use Rattle.sql_prefix.specs.Refused.{IsFirstBad}
use Rattle.statement.specs.Running.{IsNone}

-- a syntax error of a text that spells no statement names the first bad byte of the text
abbrev pub IsExact : Option Item → Reply → Type 0
IsExact (Some (Sql text)) (Fail (Syntax at)) = IsNone text → IsFirstBad text at
IsExact item reply = Unit {0}

-- so does each that the items of the past were answered
abbrev pub HasExactPlaces : List Event → Type 0
HasExactPlaces [] = Unit {0}
HasExactPlaces (Ended s j reply ∷ past) = IsExact (under_way s past) reply × HasExactPlaces past
HasExactPlaces (other ∷ past) = HasExactPlaces past
