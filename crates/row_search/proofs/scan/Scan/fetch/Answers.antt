use Rattle.row_search.proofs.AtPair.{fetch_done, fetch_end, fetch_waits}
use Rattle.row_search.proofs.scan.Scan.fetch.Goals as goal

pub returns-in-Done : goal.returns-in-Done
returns-in-Done g c =
    rw c.from_vec-bytes.ensures
    (fetch_done c.requires.searching c.requires.table c.fetch-found.new.into.items
    (rw (c.in-Ok.ensures, c.primary_of.ensures, c.as_slice.ensures, c.index_number.ensures, c.in-Done.is) at c.fetch-found.ensures.answer))

pub returns-in-End : goal.returns-in-End
returns-in-End g c =
    fetch_end c.requires.searching c.fetch-found.new.into.items
    (rw (c.in-Ok.ensures, c.primary_of.ensures, c.as_slice.ensures, c.index_number.ensures, c.in-End.is) at c.fetch-found.ensures.answer)

pub returns-in_default-found : goal.returns-in_default-found
returns-in_default-found g c =
    fetch_waits c.requires.searching c.fetch-found.new.into.items c.fetch-found.result
    (rw (c.in-Ok.ensures, c.primary_of.ensures, c.as_slice.ensures, c.index_number.ensures) at c.fetch-found.ensures.answer)
    c.in_default-found.not-Done c.in_default-found.not-End
