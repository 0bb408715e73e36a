use Rattle.std.proofs.Common.{refl}
use Rattle.row_locking.proofs.Visiting.{hindered_before}
use Rattle.row_locking.proofs.search.LockingSearch.sort.Goals as goal

pub returns-in-Err : goal.returns-in-Err
returns-in-Err g c = rw c.no_memory.ensures (hindered_before _ _ _ _ (record { same_is = refl; rows_are = c.in-Err.ensures.err }))
