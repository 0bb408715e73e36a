use Rattle.std.proofs.Common.{refl}
use Rattle.row_locking.proofs.Visiting.{hindered_before}
use Rattle.row_locking.proofs.Walking.{met_at, met_end, met_supremum, put_off}
use Rattle.row_locking.proofs.search.LockingSearch.next.Goals as goal

pub meet-requires : goal.meet-requires
meet-requires g c =
    (_, met_at _ c.requires c.in-Ok.from c.in-Ok.ensures c.in-At.key c.in-At.value (rw (c.index-index.ensures, c.in-At.is) at c.seek-found.ensures))

pub returns-in-At : goal.returns-in-At
returns-in-At g c =
    c.meet.ensures _
    (met_at _ c.requires c.in-Ok.from c.in-Ok.ensures c.in-At.key c.in-At.value (rw (c.index-index.ensures, c.in-At.is) at c.seek-found.ensures))

pub lock_past-requires : goal.lock_past-requires
lock_past-requires g c = (_, met_supremum (met_end _ c.requires c.in-Ok.from c.in-Ok.ensures (rw (c.index-index.ensures, c.in-End.is) at c.seek-found.ensures)))

pub returns-in-End : goal.returns-in-End
returns-in-End g c =
    c.lock_past.ensures _ (met_supremum (met_end _ c.requires c.in-Ok.from c.in-Ok.ensures (rw (c.index-index.ensures, c.in-End.is) at c.seek-found.ensures)))

pub returns-in_default-found : goal.returns-in_default-found
returns-in_default-found g c =
    put_off _ c.requires c.in-Ok.from c.in-Ok.ensures _ c.seek-found.result (rw c.index-index.ensures at c.seek-found.ensures)
    c.in_default-found.not-At c.in_default-found.not-End

pub returns-in_default : goal.returns-in_default
returns-in_default g c = rw c.no_memory.ensures (hindered_before _ _ _ _ (record { same_is = refl; rows_are = refl }))
