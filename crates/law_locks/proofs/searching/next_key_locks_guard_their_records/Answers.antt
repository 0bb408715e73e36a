use Rattle.law_locks.proofs.Granting as lemmas
use Rattle.law_locks.proofs.searching.next_key_locks_guard_their_records.Goals as goal

pub returns : goal.returns
returns c txn index records locks key stands gap own = lemmas.next_key_guards txn index records locks key stands gap own
