use Rattle.law_locks.proofs.Pinning as lemmas
use Rattle.law_locks.proofs.pins.removals_of_others_keep_what_is_guarded.Goals as goal

pub returns : goal.returns
returns c txn other records gone_key key gone next granted waiting made log differ apart alone removes fit was =
    lemmas.removed_by_other txn other records gone_key key gone next granted waiting removes fit made log differ apart alone was
