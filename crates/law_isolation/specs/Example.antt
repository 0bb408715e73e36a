-- A history in which the statements of two transactions come at once: while one is open, and even amid its last statement,
-- the other puts a row and commits it.
use Rattle.std.specs.Prelude.{ℕ, List, [], ◌∷◌, pos, codes}
use Rattle.inno_types.specs.declared.lock.Level.TheVariants.{RepeatableRead, Serializable}
use Rattle.inno_types.specs.declared.reply.Item.TheVariants.{Sql}
use Rattle.inno_types.specs.declared.reply.Reply.TheVariants.{Count, Rows, Done}
use Rattle.inno_types.specs.declared.value.Value.{Value}
use Rattle.inno_types.specs.declared.value.Value.TheVariants.{Int}
use Rattle.inno_db.specs.declared.change.Change.TheVariants.{Put}
use Rattle.inno_model.specs.declared.event.Event.{Event}
use Rattle.inno_model.specs.declared.event.Event.TheVariants.{Opened, Begin, Started, View, Changed, Ended, Committed, Acked}
use Rattle.law_isolation.specs.SerialExample.{empty_table, a_row, putting, reading}

abbrev pub leveling : List ℕ
leveling = codes "SET SESSION TRANSACTION ISOLATION LEVEL SERIALIZABLE"

abbrev pub beginning : List ℕ
beginning = codes "BEGIN"

abbrev pub deleting : List ℕ
deleting = codes "DELETE FROM t WHERE k=2"

abbrev pub putting_another : List ℕ
putting_another = codes "INSERT t VALUES(2)"

abbrev pub committing : List ℕ
committing = codes "COMMIT"

abbrev pub another_row : List Value
another_row = Int (pos 2) ∷ []

-- Both sessions choose SERIALIZABLE. Session 1 begins, and searches for a row of key 2. The newest entry stands first.
abbrev pub searched : List Event
searched =
    Ended 1 3 (Count 0)
    ∷ Started 1 3 (Sql deleting)
    ∷ Ended 2 1 Done
    ∷ Started 2 1 (Sql leveling)
    ∷ Ended 1 2 Done
    ∷ Begin 1 1 Serializable
    ∷ Started 1 2 (Sql beginning)
    ∷ Ended 1 1 Done
    ∷ Started 1 1 (Sql leveling)
    ∷ Opened empty_table
    ∷ []

-- Session 2 puts a row of key 1, which session 1's search doesn't meet; meanwhile session 1 puts one of key 2, and commits.
abbrev pub interleaved : List Event
interleaved =
    Ended 1 5 Done
    ∷ Acked 1 0
    ∷ Committed 1
    ∷ Started 1 5 (Sql committing)
    ∷ Ended 1 4 (Count 1)
    ∷ Ended 2 2 (Count 1)
    ∷ Acked 2 0
    ∷ Changed 1 (Put 0 another_row)
    ∷ Committed 2
    ∷ Changed 2 (Put 0 a_row)
    ∷ Started 1 4 (Sql putting_another)
    ∷ Begin 2 2 Serializable
    ∷ Started 2 2 (Sql putting)
    ∷ searched

-- Session 0 has searched at REPEATABLE READ, and its COMMIT is under way while session 1 puts a row and commits first.
abbrev pub unended : List Event
unended =
    Committed 0
    ∷ Committed 1
    ∷ Changed 1 (Put 0 a_row)
    ∷ Begin 1 2 Serializable
    ∷ Started 1 2 (Sql putting)
    ∷ Ended 1 1 Done
    ∷ Started 1 1 (Sql leveling)
    ∷ Started 0 3 (Sql committing)
    ∷ Ended 0 2 (Rows [])
    ∷ View 0
    ∷ Started 0 2 (Sql reading)
    ∷ Ended 0 1 Done
    ∷ Begin 0 1 RepeatableRead
    ∷ Started 0 1 (Sql beginning)
    ∷ Opened empty_table
    ∷ []
