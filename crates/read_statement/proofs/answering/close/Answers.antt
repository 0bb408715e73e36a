use Rattle.std.proofs.Common.{◌≡◌, true, false, subst}
use Rattle.giving_up.specs.Ends.{is_rows}
use Rattle.read_statement.specs.Running.{IsEarly}
use Rattle.read_statement.proofs.Ending.{ends_open, acks_none, may_commit, committed, may_roll_back, rolled}
use Rattle.read_statement.proofs.answering.close.Goals as goal

pub end-leaving-requires-clause-may : goal.end-leaving-requires-clause-may
end-leaving-requires-clause-may g c =
    let a = c.requires.answered in
    ends_open c.args.session c.args.lists.now.past a.stmt (subst (IsEarly c.args.lists.now.past c.args.session a.stmt) c.if-not-alone.true a.early) a.is_open
    c.args.settled.kept c.args.settled.given a.same a.settled

pub end-leaving-requires-clause-acked : goal.end-leaving-requires-clause-acked
end-leaving-requires-clause-acked g c =
    let a = c.requires.answered in
    acks_none c.args.session c.args.lists.now.past a.stmt (subst (IsEarly c.args.lists.now.past c.args.session a.stmt) c.if-not-alone.true a.early) a.is_open

pub commit-leaving-requires-clause-may : goal.commit-leaving-requires-clause-may
commit-leaving-requires-clause-may g c =
    let a = c.requires.answered in
    let rows : is_rows c.args.settled.kept ≡ true = cc in
    may_commit c.args.session c.args.lists.now.past a.stmt (subst (IsEarly c.args.lists.now.past c.args.session a.stmt) c.if-not-alone.false a.early) a.is_open
    c.args.settled.kept rows a.settled

pub commit-leaving-requires-clause-closing : goal.commit-leaving-requires-clause-closing
commit-leaving-requires-clause-closing g c =
    let a = c.requires.answered in
    let rows : is_rows c.args.settled.kept ≡ true = cc in
    committed c.args.session c.args.lists.now.past a.stmt (subst (IsEarly c.args.lists.now.past c.args.session a.stmt) c.if-not-alone.false a.early) a.is_open
    c.args.settled.kept c.args.settled.given rows a.same a.settled

pub roll_back-leaving-requires-clause-may : goal.roll_back-leaving-requires-clause-may
roll_back-leaving-requires-clause-may g c =
    let a = c.requires.answered in
    may_roll_back c.args.session c.args.lists.now.past a.stmt
    (subst (IsEarly c.args.lists.now.past c.args.session a.stmt) c.if-not-alone.false a.early) a.is_open

pub roll_back-leaving-requires-clause-closing : goal.roll_back-leaving-requires-clause-closing
roll_back-leaving-requires-clause-closing g c =
    let a = c.requires.answered in
    let none : is_rows c.args.settled.kept ≡ false = cc in
    rolled c.args.session c.args.lists.now.past a.stmt (subst (IsEarly c.args.lists.now.past c.args.session a.stmt) c.if-not-alone.false a.early) a.is_open
    c.args.settled.kept c.args.settled.given none a.same a.settled
