use Rattle.law_locked_rows.proofs.TakingBack.{begun_held}
use Rattle.law_locked_rows.proofs.changes.a_taking_back_begins.Goals as goal

pub returns : goal.returns
returns c t store new granted now desk logged place read there held at_desk last was told apart keeps reads ready room =
    begun_held t store granted held desk at_desk logged place last new was told now apart keeps read there reads ready room
