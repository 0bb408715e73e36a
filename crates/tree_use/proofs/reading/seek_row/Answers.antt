use Rattle.tree_use.proofs.Resting.{AreResident, ok_gives, told_on, still, read_ok}
use Rattle.tree_use.proofs.reading.seek_row.Given
use Rattle.tree_use.proofs.reading.seek_row.Goals as goal

resident : (g : Given.Over) → AreResident (g.M.Mtr.state)
resident g = record { no_fault = g.met.M.Resident.no_fault; at_hand = g.met.M.Resident.at_hand; tested = g.met.M.Resident.tested }

pub sure-requires : goal.sure-requires
sure-requires g c =
    read_ok (g.M.Mtr.state) (resident g) c.args.m.now c.seek.new.m c.seek.result
    (told_on (g.M.Mtr.state) (resident g) c.args.m.now c.seek.new.m c.seek.ensures.reads.goes c.requires.rest.told) c.seek.ensures.reason

pub returns-clause-row : goal.returns-clause-row
returns-clause-row g c =
    ok_gives _ c.seek.result c.sure.result c.sure.ensures c.seek.ensures.row
    (told_on (g.M.Mtr.state) (resident g) c.args.m.now c.seek.new.m c.seek.ensures.reads.goes c.requires.rest.told)

pub returns-clause-still : goal.returns-clause-still
returns-clause-still g c = still (g.M.Mtr.state) (resident g) c.args.tree c.args.m.now c.seek.new.m c.requires.rest c.seek.ensures.reads
