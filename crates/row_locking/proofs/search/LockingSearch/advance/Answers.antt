use Rattle.row_locking.proofs.search.LockingSearch.advance.Goals as goal

pub returns : goal.returns
returns g c = rw c.replace-phase.ensures.value at c.step-next.ensures
