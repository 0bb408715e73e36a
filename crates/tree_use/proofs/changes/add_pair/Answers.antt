use Rattle.tree_use.proofs.Resting.{AreResident, told_on, still}
use Rattle.tree_use.proofs.Growing.{added_rest, not_full, not_visit}
use Rattle.tree_use.proofs.changes.add_pair.Given
use Rattle.tree_use.proofs.changes.add_pair.Goals as goal

resident : (g : Given.Over) → AreResident (g.M.Mtr.state)
resident g = record { no_fault = g.met.M.Resident.no_fault; at_hand = g.met.M.Resident.at_hand; tested = g.met.M.Resident.tested }

pub unreachable-requires : goal.unreachable-requires
unreachable-requires g c =
    not_full (g.M.Mtr.state) (resident g) c.args.tree c.args.m.now c.insert.new.m c.requires.rest c.in-Err-Full.ensures.ends.goes c.in-Err-Full.field-0
    c.in-Err-Full.field-0-is c.in-Err-Full.ensures.reason

pub unreachable-requires-in-Err-Visit : goal.unreachable-requires-in-Err-Visit
unreachable-requires-in-Err-Visit g c =
    not_visit (g.M.Mtr.state) (resident g) c.args.tree c.args.m.now c.insert.new.m c.requires.rest c.in-Err-Visit.ensures.ends.goes c.in-Err-Visit.field-0
    c.in-Err-Visit.field-0-0 c.in-Err-Visit.field-0-is c.in-Err-Visit.ensures.reason

pub returns-in-Ok-clause-done : goal.returns-in-Ok-clause-done
returns-in-Ok-clause-done g c =
    c.in-Ok.ensures.done (told_on (g.M.Mtr.state) (resident g) c.args.m.now c.insert.new.m c.in-Ok.ensures.ends.goes c.requires.rest.told)

pub returns-in-Ok-clause-rest : goal.returns-in-Ok-clause-rest
returns-in-Ok-clause-rest g c =
    added_rest (g.M.Mtr.state) (resident g) c.args.tree c.args.m.now c.insert.new.m c.requires.rest c.in-Ok.ensures.ends c.args.key.now
    c.args.value.now c.in-Ok.done
    (c.in-Ok.ensures.done (told_on (g.M.Mtr.state) (resident g) c.args.m.now c.insert.new.m c.in-Ok.ensures.ends.goes c.requires.rest.told))

pub returns-in-Err-NoMemory-clause-same : goal.returns-in-Err-NoMemory-clause-same
returns-in-Err-NoMemory-clause-same g c =
    (still (g.M.Mtr.state) (resident g) c.args.tree c.args.m.now c.insert.new.m c.requires.rest c.in-Err-NoMemory.ensures.kept).same

pub returns-in-Err-NoMemory-clause-rest : goal.returns-in-Err-NoMemory-clause-rest
returns-in-Err-NoMemory-clause-rest g c =
    (still (g.M.Mtr.state) (resident g) c.args.tree c.args.m.now c.insert.new.m c.requires.rest c.in-Err-NoMemory.ensures.kept).rest
