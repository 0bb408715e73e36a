use Rattle.std.proofs.Common.{◌∙◌}
use Rattle.row_changes.proofs.Changing.{put_index, put_inserted, put_there, put_insert_hindered, put_lacks_then}
use Rattle.row_changes.proofs.entry_put.EntryPut.insert.Goals as goal

pub insert-requires-clause-index : goal.insert-requires-clause-index
insert-requires-clause-index g c = put_index c.requires.looked.1

pub returns-in-Done-clause-puts : goal.returns-in-Done-clause-puts
returns-in-Done-clause-puts g c = λ start looked. put_inserted looked _ _ (c.from_vec.ensures ∙ c.in-Ok.ensures.items) (rw c.in-Done.is at c.insert-2.ensures)

pub returns-in-At-clause-puts : goal.returns-in-At-clause-puts
returns-in-At-clause-puts g c = λ start looked. rw (c.then.ensures.went, c.then.ensures.then) (put_there looked _ _ _ _ (rw c.in-At.is at c.insert-2.ensures))

pub returns-clause-puts : goal.returns-clause-puts
returns-clause-puts g c = λ start looked.
    put_insert_hindered looked _ _ _ c.insert-2.ensures c.in_default-insert.not-Done c.in_default-insert.not-At

pub returns-in_default-clause-puts : goal.returns-in_default-clause-puts
returns-in_default-clause-puts g c = λ start looked. put_lacks_then looked
