use Rattle.std.proofs.Common.{subst, sym}
use Rattle.law_stored_rows.specs.Storable.{AreStorable}
use Rattle.law_found_rows.proofs.FittingChanges.{tables_storable}
use Rattle.read_statement.proofs.planning.plan_search.Goals as goal

pub plan_among-requires-clause-storable : goal.plan_among-requires-clause-storable
plan_among-requires-clause-storable g c =
    subst AreStorable (sym c.schemas.ensures.are) (tables_storable c.args.lists.now.past c.schemas.ensures.fits)
