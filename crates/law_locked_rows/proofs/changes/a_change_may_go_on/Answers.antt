use Rattle.law_other_places.proofs.Asked.{may_advance}
use Rattle.law_locked_rows.proofs.changes.a_change_may_go_on.Goals as goal

pub returns : goal.returns
returns c t store granted held change doing = may_advance held.rows t change doing
