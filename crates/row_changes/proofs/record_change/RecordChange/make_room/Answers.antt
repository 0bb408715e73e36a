use Rattle.std.proofs.Common.{arith}
use Rattle.std.proofs.lemmas.Grind.{elements}
use Rattle.std.proofs.Common.{inl, inr}
use Rattle.row_changes.proofs.Changing.{room_made, hindered, no_room_stays}
use Rattle.row_changes.proofs.record_change.RecordChange.make_room.Goals as goal

abbrev pub returns-in-Done-clause-changes : goal.returns-in-Done-clause-changes
returns-in-Done-clause-changes g c =
    let p = c.requires.changing in
    rw c.then.ensures
    (room_made _ _ _ _ p c.requires.stage (rw c.in-Done.is at c.undo_room.ensures))

abbrev pub returns-in_default-clause-changes : goal.returns-in_default-clause-changes
returns-in_default-clause-changes g c =
    hindered _ _ _ _ c.requires.changing _ (no_room_stays _ _ _ _ _ c.undo_room.ensures c.in_default.not-Done)
    (inr (inl (c.in_default.not-Done, c.undo_room.ensures)))

pub undo_room-requires-clause-joined : goal.undo_room-requires-clause-joined
undo_room-requires-clause-joined g c = grind (arith, elements) steps 2000000
