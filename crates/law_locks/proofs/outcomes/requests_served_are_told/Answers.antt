use Rattle.law_locks.proofs.Members.{in_from_contains}
use Rattle.law_locks.proofs.Ended.{told_served}
use Rattle.law_locks.proofs.outcomes.requests_served_are_told.Goals as goal

pub returns : goal.returns
returns c table held queue lock there ended none = told_served table held queue lock (in_from_contains queue lock there) ended none
