use Rattle.law_locked_rows.proofs.TakingBack.{going_back, went_on}
use Rattle.law_locked_rows.proofs.changes.a_taking_back_goes_on.Goals as goal

pub returns-clause-known : goal.returns-clause-known
returns-clause-known c t store granted desk held at_desk doing = going_back t store granted held desk at_desk doing

pub returns-clause-kept : goal.returns-clause-kept
returns-clause-kept c t store new granted now desk next held going was told apart keeps at_desk doing leaves its places holds =
    went_on t store new granted now held was told apart keeps desk at_desk doing next leaves its places going holds
