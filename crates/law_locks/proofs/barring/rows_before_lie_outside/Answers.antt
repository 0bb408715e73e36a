use Rattle.law_locks.proofs.Outside as lemmas
use Rattle.law_locks.proofs.barring.rows_before_lie_outside.Goals as goal

pub returns : goal.returns
returns c txn other clustered index records granted range row entry differ apart owns keeps is inside =
    lemmas.none_before txn other clustered index records granted range row entry differ apart owns keeps inside is
