use Rattle.law_locked_work.proofs.Unmet.{kept_row_stays}
use Rattle.law_locked_work.proofs.owned_changes.a_locked_row_stays.Goals as goal

pub returns : goal.returns
returns c = λ h s t chains schema table granted records key ordered stands in_order differ other_open is_open apart owned kept.
    kept_row_stays h ordered stands in_order s t differ other_open is_open chains schema table granted records apart key owned kept
