use Rattle.page_recovery.proofs.Read.{stands_there, stands_not, taken, not_taken}
use Rattle.page_recovery.proofs.reading.read_page.Goals as goal

pub returns-in_ok-set-clause-taken : goal.returns-in_ok-set-clause-taken
returns-in_ok-set-clause-taken g c = λ s ticks is.
    let past = g.D.Disk.past in
    let place = c.read_place.new.place in
    let there =
    stands_there c.args.page place c.in_ok-read_place.field-0 (past c.read_place.new.disk) c.if-branch.true c.in_ok-read_place.ensures.good s ticks is in
    taken s.pages.seen c.args.page place c.args.pages.now c.set.new.self c.requires there c.in_ok-set.ensures.ok

pub returns-else-branch-clause-taken : goal.returns-else-branch-clause-taken
returns-else-branch-clause-taken g c = λ s ticks is.
    let past = g.D.Disk.past in
    let place = c.read_place.new.place in
    not_taken s.pages.seen c.args.page c.args.pages.now
    (stands_not c.args.page place c.in_ok-read_place.field-0 (past c.read_place.new.disk) c.if-branch.false c.in_ok-read_place.ensures.good s ticks is)
