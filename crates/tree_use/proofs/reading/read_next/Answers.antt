use Rattle.tree_use.proofs.Resting.{AreResident, ok_gives, told_on, still, read_ok}
use Rattle.tree_use.proofs.reading.read_next.Given
use Rattle.tree_use.proofs.reading.read_next.Goals as goal

resident : (g : Given.Over) → AreResident (g.M.Mtr.state)
resident g = record { no_fault = g.met.M.Resident.no_fault; at_hand = g.met.M.Resident.at_hand; tested = g.met.M.Resident.tested }

pub sure-requires : goal.sure-requires
sure-requires g c =
    read_ok (g.M.Mtr.state) (resident g) c.args.m.now c.next_key.new.m c.next_key.result
    (told_on (g.M.Mtr.state) (resident g) c.args.m.now c.next_key.new.m c.next_key.ensures.reads.goes c.requires.rest.told) c.next_key.ensures.reason

pub returns-clause-next : goal.returns-clause-next
returns-clause-next g c =
    ok_gives _ c.next_key.result c.sure.result c.sure.ensures c.next_key.ensures.next
    (told_on (g.M.Mtr.state) (resident g) c.args.m.now c.next_key.new.m c.next_key.ensures.reads.goes c.requires.rest.told)

pub returns-clause-still : goal.returns-clause-still
returns-clause-still g c = still (g.M.Mtr.state) (resident g) c.args.tree c.args.m.now c.next_key.new.m c.requires.rest c.next_key.ensures.reads
