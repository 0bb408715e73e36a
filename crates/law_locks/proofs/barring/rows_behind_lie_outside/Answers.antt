use Rattle.std.proofs.Common.{◌≡◌, true}
use Rattle.law_locks.proofs.Outside as lemmas
use Rattle.law_locks.proofs.barring.rows_behind_lie_outside.Goals as goal

pub returns : goal.returns
returns c txn other clustered index records granted range may made log row entry differ apart owns keeps range_is meets there inside =
    lemmas.none_behind txn other clustered index records granted range row entry differ apart owns keeps inside (λ key. may key ≡ true) made log range_is
    meets there
