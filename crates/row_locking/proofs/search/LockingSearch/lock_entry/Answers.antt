use Rattle.std.proofs.Common.{false}
use Rattle.row_locking.proofs.Walking.{may_ask_within, many}
use Rattle.row_locking.proofs.search.LockingSearch.lock_entry.Goals as goal

pub ask-requires : goal.ask-requires
ask-requires g c =
    rw (c.lock-lock.ensures, c.index.ensures, c.in-Ok.ensures, c.as_slice-3.ensures)
    (may_ask_within c.args.self.now c.args.key c.args.value c.requires.met.1 c.requires.short c.requires.within false false
    (many c.args.self.now c.requires.which))
