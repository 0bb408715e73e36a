use Rattle.law_locks.proofs.Guarding as lemmas
use Rattle.law_locks.proofs.guards.removals_keep_guards.Goals as goal

pub returns : goal.returns
returns c txn by records gone_key key gone next granted waiting removes fit was =
    lemmas.removed_guards txn by records gone_key key gone next granted waiting removes fit was
