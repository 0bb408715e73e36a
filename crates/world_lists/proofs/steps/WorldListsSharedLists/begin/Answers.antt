use Rattle.world_lists.proofs.Made.{on_err, of_ok, stays_same, is_closed, few_begun, roomed_kept, roomed_shown, may_tell, surely, opened_kept, opened_shown}
use Rattle.world_lists.proofs.steps.WorldListsSharedLists.begin.Goals as goal

pub returns-in_err-event_room-clause-err : goal.returns-in_err-event_room-clause-err
returns-in_err-event_room-clause-err g c = on_err _ (stays_same c.args.session c.self.invariant c.self.view_is c.in_err-event_room.ensures.err)

pub begin-requires-clause-closed : goal.begin-requires-clause-closed
begin-requires-clause-closed g c = is_closed c.args.session c.self.invariant c.self.view_is c.requires.joined c.in_ok-event_room.ensures.ok c.requires.may.1

pub begin-requires-clause-few : goal.begin-requires-clause-few
begin-requires-clause-few g c = few_begun c.args.session c.self.invariant c.self.view_is c.requires.joined c.in_ok-event_room.ensures.ok

pub invariant_of-self-in_err-txn : goal.invariant_of-self-in_err-txn
invariant_of-self-in_err-txn g c =
    roomed_kept c.args.session c.self.invariant c.self.view_is c.requires.joined c.in_ok-event_room.ensures.ok c.in_err-txn.ensures.err c.requires.idle
    (g.met.W.EngineWorld.never_delays c.self.inside.world).told

pub returns-in_err-txn-clause-err : goal.returns-in_err-txn-clause-err
returns-in_err-txn-clause-err g c =
    on_err _ (roomed_shown c.args.session c.self.invariant c.self.view_is c.requires.joined c.in_ok-event_room.ensures.ok c.in_err-txn.ensures.err).state

pub returns-in_err-txn-clause-unset : goal.returns-in_err-txn-clause-unset
returns-in_err-txn-clause-unset g c =
    on_err _ (roomed_shown c.args.session c.self.invariant c.self.view_is c.requires.joined c.in_ok-event_room.ensures.ok c.in_err-txn.ensures.err).settings

pub returns-in_err-txn-clause-rows : goal.returns-in_err-txn-clause-rows
returns-in_err-txn-clause-rows g c =
    (roomed_shown c.args.session c.self.invariant c.self.view_is c.requires.joined c.in_ok-event_room.ensures.ok c.in_err-txn.ensures.err).rows

pub add_begin-requires : goal.add_begin-requires
add_begin-requires g c =
    may_tell c.args.session c.self.invariant c.self.view_is c.requires.joined c.in_ok-event_room.ensures.ok c.args.level c.in_ok-txn.ensures.number
    c.in_ok-txn.ensures.ok

pub unwrap-requires : goal.unwrap-requires
unwrap-requires g c =
    surely c.args.session c.self.invariant c.self.view_is c.requires.joined c.in_ok-event_room.ensures.ok c.args.level c.in_ok-txn.ensures.number
    c.in_ok-txn.ensures.ok c.add_begin.ensures.sure

pub invariant_of-self-2 : goal.invariant_of-self-2
invariant_of-self-2 g c =
    opened_kept c.args.session c.self.invariant c.self.view_is c.requires.joined c.in_ok-event_room.ensures.ok c.args.level c.in_ok-txn.ensures.number
    c.in_ok-txn.ensures.ok (of_ok c.add_begin.result c.unwrap.result c.unwrap.ensures c.add_begin.ensures.ok) c.requires.idle
    (g.met.W.EngineWorld.never_delays c.self.inside.world).told (g.met.W.EngineWorld.never_delays c.event_room.new.self).told c.requires.may.1
    c.is_short.ensures.few

pub returns : goal.returns
returns g c =
    let shows =
    opened_shown c.args.session c.self.invariant c.self.view_is c.requires.joined c.in_ok-event_room.ensures.ok c.args.level c.in_ok-txn.ensures.number
    c.in_ok-txn.ensures.ok (of_ok c.add_begin.result c.unwrap.result c.unwrap.ensures c.add_begin.ensures.ok) in
    record { ok = shows.state; settings = shows.settings; err = record {}; unset = record {}; rows = shows.rows }
