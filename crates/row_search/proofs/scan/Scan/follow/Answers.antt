use Rattle.row_search.proofs.Walking.{follow_at, follow_end}
use Rattle.row_search.proofs.scan.Scan.follow.Goals as goal

pub returns-in-At : goal.returns-in-At
returns-in-At g c =
    rw c.given.ensures.same
    (follow_at c.requires.searching c.requires.table c.in-At.key c.in-At.value (rw (c.index_number.ensures, c.in-At.is) at c.following.ensures)
    c.given.result c.given.ensures.next)

pub returns-in-End : goal.returns-in-End
returns-in-End g c = follow_end c.requires.searching (rw (c.index_number.ensures, c.in-End.is) at c.following.ensures)
