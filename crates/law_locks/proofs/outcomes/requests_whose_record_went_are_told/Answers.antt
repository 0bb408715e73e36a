use Rattle.law_locks.proofs.Members.{in_from_contains}
use Rattle.law_locks.proofs.Ended.{told_gone}
use Rattle.law_locks.proofs.outcomes.requests_whose_record_went_are_told.Goals as goal

pub returns : goal.returns
returns c by gone next table lock apart single there at none =
    told_gone by gone next apart table lock single (in_from_contains table.waiting lock there) at none
