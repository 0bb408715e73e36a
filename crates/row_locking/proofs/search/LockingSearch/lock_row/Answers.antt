use Rattle.row_locking.proofs.Visiting.{hindered_at, may_ask_record, waits_there, refused_there}
use Rattle.row_locking.proofs.search.LockingSearch.lock_row.Goals as goal

pub returns-then-is_err : goal.returns-then-is_err
returns-then-is_err g c start read reads kept =
    rw c.no_memory-then-is_err.ensures (hindered_at c.args.self.now c.args.entry read reads c.reserve.new.self c.reserve.ensures.items)

pub ask-requires : goal.ask-requires
ask-requires g c =
    rw (c.lock-lock.ensures, c.index_number-clustered.ensures, c.in-Ok.ensures, c.primary_of.ensures, c.as_slice.ensures)
    (may_ask_record c.args.self.now c.args.entry c.requires.1 c.requires.2)

pub returns-in-Waits : goal.returns-in-Waits
returns-in-Waits g c start read reads kept =
    waits_there c.args.self.now c.args.entry read reads c.reserve.new.self c.reserve.ensures.items
    (rw (c.in-Waits.is, c.lock-lock.ensures, c.index_number-clustered.ensures, c.in-Ok.ensures, c.primary_of.ensures, c.as_slice.ensures) at c.ask.ensures)

pub returns-in-NoMemory : goal.returns-in-NoMemory
returns-in-NoMemory g c start read reads kept =
    rw c.no_memory-in-NoMemory.ensures
    (refused_there c.args.self.now c.args.entry read reads c.reserve.new.self c.reserve.ensures.items
    (rw (c.in-NoMemory.is, c.lock-lock.ensures, c.index_number-clustered.ensures, c.in-Ok.ensures, c.primary_of.ensures, c.as_slice.ensures) at c.ask.ensures))
