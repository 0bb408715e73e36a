use Rattle.law_locks.proofs.InsertionSpots.{same_over, guarded_again}
use Rattle.law_locks.proofs.index.values_that_are_replaced_keep_guards.Goals as goal

pub returns : goal.returns
returns c other index pairs key value guarded locks made log stands was =
    guarded_again (same_over key value pairs stands.there) other index locks guarded made log was
