use Rattle.std.proofs.Common.{◌∙◌}
use Rattle.deadlock.proofs.Edges.{next_edge_granted, next_edge_asked, next_edge_none, edge_shown}
use Rattle.deadlock.proofs.search.next_lock.Goals as goal

pub returns-in_err-place : goal.returns-in_err-place
returns-in_err-place c = rw c.from_residual.ensures (next_edge_none c.args.start c.args.unvisited.now c.args.waiter c.args.locks.now.granted c.args.locks.now.waiting (rw c.requests-requests.ensures at (c.in_err-place.ensures).place))

pub returns-in-Some : goal.returns-in-Some
returns-in-Some c =
    next_edge_granted _ _ _ _ _ _ _ _ (rw c.requests-requests.ensures at (c.in_ok-place.ensures).place) (rw c.requests-requests.ensures at c.index-requests-place.is) (rw c.granted_locks.ensures at (c.in-Some.ensures))

pub returns-in-None : goal.returns-in-None
returns-in-None c =
    edge_shown _ _
    ∙ next_edge_asked _ _ _ _ _ _ _ _ (rw c.requests-requests.ensures at (c.in_ok-place.ensures).place) (rw c.requests-requests.ensures at c.index-requests-place.is) (rw c.granted_locks.ensures at (c.in-None.ensures)) (rw c.requests-requests.ensures at c.first_wanted-in-None.ensures)
