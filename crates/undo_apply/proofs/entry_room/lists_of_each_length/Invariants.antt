use Rattle.undo_apply.specs.Lengths.{AreOfEachLength}
use Rattle.undo_apply.proofs.entry_room.lists_of_each_length.Given as goal

abbrev pub invariant-loop-len : goal.invariant-loop-len
invariant-loop-len l = AreOfEachLength l.len l.lists.items
