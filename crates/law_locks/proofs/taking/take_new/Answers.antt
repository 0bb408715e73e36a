use Rattle.law_locks.proofs.AtOnce.{new_is_taken}
use Rattle.law_locks.proofs.Places.{new_needs_no_wait}
use Rattle.law_locks.proofs.taking.take_new.Goals as goal

pub grant_new-requires-clause-free : goal.grant_new-requires-clause-free
grant_new-requires-clause-free c =
    let stands = c.requires.stands in
    new_needs_no_wait stands.0 stands.1 c.args.new.now c.args.next.now stands.2 c.args.locks.now c.args.own.now stands.3 c.requires.own_is.spot

pub returns : goal.returns
returns c key =
    let stands = c.requires.stands in
    new_is_taken c.args.own.now.txn stands.0 stands.1 key c.args.new.now c.args.next.now c.args.locks.now c.grant_new.new.self c.args.own.now stands.2 stands.3 c.requires.own_is c.grant_new.ensures
