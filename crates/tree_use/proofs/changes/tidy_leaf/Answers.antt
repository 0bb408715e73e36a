use Rattle.std.proofs.Common.{ap, ℕ, List}
use Rattle.btree.specs.Sound.{tree_pairs}
use Rattle.tree_use.proofs.Resting.{AreResident, told_on, still}
use Rattle.tree_use.proofs.Growing.{tidied_rest, tidied_pairs, merge_not_full, merge_not_visit}
use Rattle.tree_use.proofs.changes.tidy_leaf.Given
use Rattle.tree_use.proofs.changes.tidy_leaf.Goals as goal

resident : (g : Given.Over) → AreResident (g.M.Mtr.state)
resident g = record { no_fault = g.met.M.Resident.no_fault; at_hand = g.met.M.Resident.at_hand; tested = g.met.M.Resident.tested }

pub unreachable-requires : goal.unreachable-requires
unreachable-requires g c =
    merge_not_full (g.M.Mtr.state) (resident g) c.args.tree c.args.m.now c.tidy.new.m c.requires.rest c.in-Err-Full.ensures.ends.goes c.in-Err-Full.field-0
    c.in-Err-Full.field-0-is c.in-Err-Full.ensures.reason

pub unreachable-requires-in-Err-Visit : goal.unreachable-requires-in-Err-Visit
unreachable-requires-in-Err-Visit g c =
    merge_not_visit (g.M.Mtr.state) (resident g) c.args.tree c.args.m.now c.tidy.new.m c.requires.rest c.in-Err-Visit.ensures.ends.goes c.in-Err-Visit.field-0
    c.in-Err-Visit.field-0-0 c.in-Err-Visit.field-0-is c.in-Err-Visit.ensures.reason

pub returns-in-Ok-clause-same : goal.returns-in-Ok-clause-same
returns-in-Ok-clause-same g c =
    tidied_pairs (g.M.Mtr.state) (resident g) c.args.tree c.args.m.now c.tidy.new.m c.requires.rest c.in-Ok.ensures.ends c.args.key.now c.in-Ok.field-0
    (c.in-Ok.ensures.done (told_on (g.M.Mtr.state) (resident g) c.args.m.now c.tidy.new.m c.in-Ok.ensures.ends.goes c.requires.rest.told))

pub returns-in-Ok-clause-rest : goal.returns-in-Ok-clause-rest
returns-in-Ok-clause-rest g c =
    tidied_rest (g.M.Mtr.state) (resident g) c.args.tree c.args.m.now c.tidy.new.m c.requires.rest c.in-Ok.ensures.ends c.args.key.now c.in-Ok.field-0
    (c.in-Ok.ensures.done (told_on (g.M.Mtr.state) (resident g) c.args.m.now c.tidy.new.m c.in-Ok.ensures.ends.goes c.requires.rest.told))

pub returns-in-Err-NoMemory-clause-same : goal.returns-in-Err-NoMemory-clause-same
returns-in-Err-NoMemory-clause-same g c =
    ap (λ (p : ℕ → List ℕ). tree_pairs c.args.tree p)
    (still (g.M.Mtr.state) (resident g) c.args.tree c.args.m.now c.tidy.new.m c.requires.rest c.in-Err-NoMemory.ensures.kept).same

pub returns-in-Err-NoMemory-clause-rest : goal.returns-in-Err-NoMemory-clause-rest
returns-in-Err-NoMemory-clause-rest g c =
    (still (g.M.Mtr.state) (resident g) c.args.tree c.args.m.now c.tidy.new.m c.requires.rest c.in-Err-NoMemory.ensures.kept).rest
