use Rattle.row_search.proofs.AtPair.{look_goes}
use Rattle.row_search.proofs.scan.Scan.look.Goals as goal

pub returns-in-Ok : goal.returns-in-Ok
returns-in-Ok g c =
    rw (c.after.ensures.same, c.after.ensures.next)
    (look_goes c.requires c.in-Ok.glance (rw (c.primary_of-key.ensures, c.as_slice.ensures, c.as_slice-2.ensures) at c.in-Ok.ensures))
