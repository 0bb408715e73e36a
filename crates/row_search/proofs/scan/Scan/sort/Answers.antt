use Rattle.row_search.proofs.AtPair.{keyed_is_sorted}
use Rattle.row_search.proofs.scan.Scan.sort.Goals as goal

pub returns-in-Ok : goal.returns-in-Ok
returns-in-Ok g c = keyed_is_sorted c.requires c.if-self-eq0.false c.sort_by_key.new.rows c.in-Ok.ensures.same c.in-Ok.ensures.ok
