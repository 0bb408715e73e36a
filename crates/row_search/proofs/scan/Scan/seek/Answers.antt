use Rattle.row_search.proofs.Walking.{seek_at, seek_end, seek_waits}
use Rattle.row_search.proofs.scan.Scan.seek.Goals as goal

pub returns-in-At : goal.returns-in-At
returns-in-At g c =
    rw c.given.ensures.same
    (seek_at c.requires.searching c.requires.table c.in-At.key c.in-At.value
    (rw (c.first_bytes.ensures, c.index_number.ensures, c.in-At.is) at c.seek-found.ensures) c.given.result c.given.ensures.next)

pub returns-in-End : goal.returns-in-End
returns-in-End g c = seek_end c.requires.searching (rw (c.first_bytes.ensures, c.index_number.ensures, c.in-End.is) at c.seek-found.ensures)

pub returns : goal.returns
returns g c =
    seek_waits c.requires.searching c.seek-found.result (rw (c.first_bytes.ensures, c.index_number.ensures) at c.seek-found.ensures)
    c.in_default.not-At c.in_default.not-End
