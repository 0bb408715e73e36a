use Rattle.std.proofs.Common.{refl, None}
use Rattle.row_locking.proofs.Visiting.{reads_record, reads_none, fetch_off, hindered_before}
use Rattle.row_locking.proofs.search.LockingSearch.row.Goals as goal

pub returns-in_default : goal.returns-in_default
returns-in_default g c = rw c.no_memory.ensures (hindered_before _ _ _ _ (record { same_is = refl; rows_are = refl }))

pub returns-in_default-with_room : goal.returns-in_default-with_room
returns-in_default-with_room g c = rw c.no_memory-in_default-with_room.ensures (hindered_before _ _ _ _ (record { same_is = refl; rows_are = refl }))

pub returns-in-Done : goal.returns-in-Done
returns-in-Done g c =
    c.read.ensures _
    (rw c.from_vec.ensures
    (reads_record c.args.self.now c.args.entry c.requires c.in-Ok.key c.fetch-answer.new.into.items
    (rw (c.primary_of-primary.ensures, c.as_slice.ensures) at c.in-Ok.ensures)
    (rw (c.index_number-clustered.ensures, c.in-Done.is) at c.fetch-answer.ensures.answer)))

pub returns-in-End : goal.returns-in-End
returns-in-End g c =
    c.lock_row.ensures _ None
    (reads_none c.args.self.now c.args.entry c.requires c.in-Ok.key c.fetch-answer.new.into.items
    (rw (c.primary_of-primary.ensures, c.as_slice.ensures) at c.in-Ok.ensures)
    (rw (c.index_number-clustered.ensures, c.in-End.is) at c.fetch-answer.ensures.answer)) refl

pub returns-in_default-answer : goal.returns-in_default-answer
returns-in_default-answer g c =
    fetch_off c.args.self.now c.args.entry c.in-Ok.key c.fetch-answer.new.into.items _ c.fetch-answer.result
    (rw c.index_number-clustered.ensures at c.fetch-answer.ensures.answer) c.in_default-answer.not-Done c.in_default-answer.not-End
