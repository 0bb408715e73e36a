use Rattle.law_locks.proofs.Pinning as lemmas
use Rattle.law_locks.proofs.pins.own_removals_keep_what_is_guarded.Goals as goal

pub returns : goal.returns
returns c txn records gone_key key gone next granted waiting made undo log removes fit creation within was =
    lemmas.taken_back_guarded txn txn records gone_key key gone next granted waiting removes fit made undo log creation within was
