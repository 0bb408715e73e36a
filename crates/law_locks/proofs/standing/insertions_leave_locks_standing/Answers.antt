use Rattle.law_locks.proofs.Places as lemmas
use Rattle.law_locks.proofs.standing.insertions_leave_locks_standing.Goals as goal

pub returns : goal.returns
returns c txn records new_key new next granted waiting insertion all = lemmas.inserted_stand records new_key new next insertion txn granted waiting all
