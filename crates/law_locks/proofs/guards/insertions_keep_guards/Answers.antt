use Rattle.law_locks.proofs.Guarding as lemmas
use Rattle.law_locks.proofs.guards.insertions_keep_guards.Goals as goal

pub returns : goal.returns
returns c txn inserter records new_key key new next old locks inserts was =
    lemmas.inserted_guards txn inserter records new_key key new next old locks inserts was
