-- A history in which two sessions take turns: one puts a row, and the other is answered it.
use Rattle.std.specs.Prelude.{ℕ, List, [], ◌∷◌, true, pos, codes}
use Rattle.std.specs.FinMap.{from_entries}
use Rattle.inno_types.specs.declared.lock.Level.TheVariants.{RepeatableRead}
use Rattle.inno_types.specs.declared.reply.Item.TheVariants.{Sql}
use Rattle.inno_types.specs.declared.reply.Reply.TheVariants.{Count, Rows}
use Rattle.inno_types.specs.declared.value.Kind.TheVariants.{BigInt}
use Rattle.inno_types.specs.declared.value.Schema.{Schema}
use Rattle.inno_types.specs.declared.value.Value.{Value}
use Rattle.inno_types.specs.declared.value.Value.TheVariants.{Int}
use Rattle.inno_db.specs.declared.change.Change.TheVariants.{Put}
use Rattle.inno_db.specs.Database.{Database}
use Rattle.inno_model.specs.declared.event.Event.{Event}
use Rattle.inno_model.specs.declared.event.Event.TheVariants.{Opened, Begin, Started, View, Changed, Ended, Committed, Acked}

-- t(k BIGINT NOT NULL PRIMARY KEY)
abbrev pub one_column : Schema
one_column = record { name = codes "t"; columns = record { name = codes "k"; kind = BigInt; not_null = true } ∷ []; primary = 0; keys = [] }

abbrev pub empty_table : Database
empty_table = record { schemas = one_column ∷ []; rows = from_entries [] }

abbrev pub a_row : List Value
a_row = Int (pos 1) ∷ []

abbrev pub putting : List ℕ
putting = codes "INSERT t VALUES(1)"

abbrev pub reading : List ℕ
reading = codes "SELECT*FROM t"

-- the newest entry first
abbrev pub put : List Event
put =
    Ended 1 1 (Count 1)
    ∷ Acked 1 0
    ∷ Committed 1
    ∷ Changed 1 (Put 0 a_row)
    ∷ Begin 1 1 RepeatableRead
    ∷ Started 1 1 (Sql putting)
    ∷ Opened empty_table
    ∷ []

abbrev pub put_and_read : List Event
put_and_read =
    Ended 2 1 (Rows (a_row ∷ []))
    ∷ Acked 2 0
    ∷ Committed 2
    ∷ View 2
    ∷ Begin 2 2 RepeatableRead
    ∷ Started 2 1 (Sql reading)
    ∷ put
