use Rattle.law_locks.proofs.Granting as lemmas
use Rattle.law_locks.proofs.searching.gap_locks_guard_their_gaps.Goals as goal

pub returns : goal.returns
returns c txn index records locks spot key stands has gap = lemmas.gap_guards txn index records locks spot key stands has gap
