use Rattle.turn_engine.proofs.Gathering.{is_last, gathers, first_idle, others_quiet}
use Rattle.turn_engine.proofs.hall.Hall.gather.Goals as goal

pub close-requires-clause-last : goal.close-requires-clause-last
close-requires-clause-last g c =
    let p = c.into_pass-pass.ensures in
    is_last _ _ c.args.first _ p.rests.at_rest.live p.rests.at_rest.idle p.rests.alone p.claim c.requires.first c.absorb.ensures.seat c.requires.all

pub returns-clause-receipts : goal.returns-clause-receipts
returns-clause-receipts g c =
    let p = c.into_pass-pass.ensures in
    (gathers _ _ c.args.first c.args.receipts.items _ p.rests.alone p.claim c.requires.first c.absorb.ensures.seat c.close.ensures.held).1

pub returns-clause-idle : goal.returns-clause-idle
returns-clause-idle g c =
    let p = c.into_pass-pass.ensures in
    first_idle (g.E.Recorded.board c.close.result) c.args.first
    (gathers _ _ c.args.first c.args.receipts.items _ p.rests.alone p.claim c.requires.first c.absorb.ensures.seat c.close.ensures.held).0
    c.requires.first p.idle

pub returns-clause-others : goal.returns-clause-others
returns-clause-others g c =
    let p = c.into_pass-pass.ensures in
    others_quiet (g.E.Recorded.board c.close.result) c.args.first
    (gathers _ _ c.args.first c.args.receipts.items _ p.rests.alone p.claim c.requires.first c.absorb.ensures.seat c.close.ensures.held).2
    c.close.ensures.unseated
