use Rattle.row_locking.proofs.Walking.{met_past}
use Rattle.row_locking.proofs.search.LockingSearch.meet.Goals as goal

pub lock_past-requires : goal.lock_past-requires
lock_past-requires g c = (
  c.requires.0,
  met_past c.args.key c.args.value c.requires.1 (rw (c.as_slice.ensures, c.in-Behind.is) at c.side_of.ensures)
      (rw c.len.ensures at c.if-len-gt-MOST_BYTES_OF_KEY.false),
)

pub returns-in-Behind : goal.returns-in-Behind
returns-in-Behind g c start meets =
    c.lock_past.ensures start (met_past c.args.key c.args.value meets (rw (c.as_slice.ensures, c.in-Behind.is) at c.side_of.ensures)
    (rw c.len.ensures at c.if-len-gt-MOST_BYTES_OF_KEY.false))
