use Rattle.law_locked_rows.proofs.Begins.{begun_all}
use Rattle.law_locked_rows.proofs.changes.a_change_begins.Goals as goal

pub returns : goal.returns
returns c t store granted session work table schema edit key held told idle has table_is fits =
    begun_all t held told idle has table schema table_is edit key fits
