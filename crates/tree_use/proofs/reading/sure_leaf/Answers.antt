use Rattle.tree_use.proofs.Resting.{AreResident, ok_gives, told_on, still, read_ok}
use Rattle.tree_use.proofs.reading.sure_leaf.Given
use Rattle.tree_use.proofs.reading.sure_leaf.Goals as goal

resident : (g : Given.Over) → AreResident (g.M.Mtr.state)
resident g = record { no_fault = g.met.M.Resident.no_fault; at_hand = g.met.M.Resident.at_hand; tested = g.met.M.Resident.tested }

pub sure-requires : goal.sure-requires
sure-requires g c =
    read_ok (g.M.Mtr.state) (resident g) c.args.m.now c.leaf_of.new.m c.leaf_of.result
    (told_on (g.M.Mtr.state) (resident g) c.args.m.now c.leaf_of.new.m c.leaf_of.ensures.reads.goes c.requires.rest.told) c.leaf_of.ensures.reason

pub returns-clause-holds : goal.returns-clause-holds
returns-clause-holds g c =
    ok_gives _ c.leaf_of.result c.sure.result c.sure.ensures c.leaf_of.ensures.holds
    (told_on (g.M.Mtr.state) (resident g) c.args.m.now c.leaf_of.new.m c.leaf_of.ensures.reads.goes c.requires.rest.told)

pub returns-clause-still : goal.returns-clause-still
returns-clause-still g c = still (g.M.Mtr.state) (resident g) c.args.tree c.args.m.now c.leaf_of.new.m c.requires.rest c.leaf_of.ensures.reads
