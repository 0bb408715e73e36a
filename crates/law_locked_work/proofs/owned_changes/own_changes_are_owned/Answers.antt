use Rattle.law_locked_work.proofs.Unmet.{own_changes_are_owned}
use Rattle.law_locked_work.proofs.owned_changes.own_changes_are_owned.Goals as goal

pub returns : goal.returns
returns c = λ h s t chains schema table plan records granted made log ordered stands in_order differ other_open is_open rows apart owned keyed keeps.
    own_changes_are_owned h ordered stands in_order s t differ other_open is_open chains rows schema table plan records granted made log apart owned keyed keeps
