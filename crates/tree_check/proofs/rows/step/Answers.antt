use Rattle.std.proofs.Common.{refl, inl, inr}
use Rattle.tree_check.proofs.Nodes.{not_header}
use Rattle.tree_check.proofs.rows.step.Goals as goal

pub returns-then-not-begins_there-clause-fault : goal.returns-then-not-begins_there-clause-fault
returns-then-not-begins_there-clause-fault c = (not_header c.requires.upper.beyond, refl, inl c.if-not-begins_there.ensures)

pub returns-then-not-follows-clause-fault : goal.returns-then-not-follows-clause-fault
returns-then-not-follows-clause-fault c = (not_header c.requires.upper.beyond, refl, inr c.if-not-follows.ensures)
