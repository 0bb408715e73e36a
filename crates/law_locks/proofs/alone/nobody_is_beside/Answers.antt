use Rattle.law_locks.proofs.Clashes as lemmas
use Rattle.law_locks.proofs.alone.nobody_is_beside.Goals as goal

pub returns : goal.returns
returns c txn other index key granted differ apart alone has = lemmas.nobody_beside txn other index key differ granted apart alone has
