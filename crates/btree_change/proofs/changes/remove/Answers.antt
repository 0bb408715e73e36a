use Rattle.entries.proofs.Edits.{on_err}
use Rattle.btree_change.proofs.Steps.{given_up_whole, whole_kept, whole_committed, put_off}
use Rattle.btree_change.proofs.changes.remove.Goals as goal

pub returns-in_err-settle-in-Ok-true-clause-tree : goal.returns-in_err-settle-in-Ok-true-clause-tree
returns-in_err-settle-in-Ok-true-clause-tree g c =
    let given =
    given_up_whole c.in_ok-leaf.leaf _ _ _ _ c.in_ok-leaf.ensures.reads c.in-Ok-true.ensures.touches c.in_err-settle-in-Ok-true.ensures.given_up in
    whole_kept c.args.tree _ _ given c.requires.tree

pub returns-in_err-settle-in-Ok-true-clause-kept : goal.returns-in_err-settle-in-Ok-true-clause-kept
returns-in_err-settle-in-Ok-true-clause-kept g c =
    on_err c.from_residual-in_err-settle-in-Ok-true.result
    (given_up_whole c.in_ok-leaf.leaf _ _ _ _ c.in_ok-leaf.ensures.reads c.in-Ok-true.ensures.touches c.in_err-settle-in-Ok-true.ensures.given_up)

pub returns-in_ok-settle-in-Ok-true-clause-tree : goal.returns-in_ok-settle-in-Ok-true-clause-tree
returns-in_ok-settle-in-Ok-true-clause-tree g c =
    let does = rw c.in-Ok-true.field-0-test at c.in-Ok-true.ensures.done in
    whole_committed c.args.tree _ _ c.in_ok-settle-in-Ok-true.ensures.committed (λ told. (does told).1.whole)

pub returns-in-Ok-false-clause-tree : goal.returns-in-Ok-false-clause-tree
returns-in-Ok-false-clause-tree g c =
    let given = given_up_whole c.in_ok-leaf.leaf _ _ _ _ c.in_ok-leaf.ensures.reads c.in-Ok-false.ensures.touches c.give_up.ensures in
    whole_kept c.args.tree _ _ given c.requires.tree

pub returns-in-Err-Visit-Again-clause-tree : goal.returns-in-Err-Visit-Again-clause-tree
returns-in-Err-Visit-Again-clause-tree g c =
    let reason = rw (c.in-Err-Visit-Again.field-0-is, c.in-Err-Visit-Again.field-0-0-is) at c.in-Err-Visit-Again.ensures.reason in
    whole_kept c.args.tree _ _ (put_off c.in_ok-leaf.leaf _ _ _ c.in_ok-leaf.ensures.reads reason).0 c.requires.tree

pub returns-in-Err-clause-tree : goal.returns-in-Err-clause-tree
returns-in-Err-clause-tree g c =
    let given = given_up_whole c.in_ok-leaf.leaf _ _ _ _ c.in_ok-leaf.ensures.reads c.in-Err.ensures.touches c.give_up-in-Err.ensures in
    whole_kept c.args.tree _ _ given c.requires.tree
