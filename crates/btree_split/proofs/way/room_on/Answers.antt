use Rattle.btree.proofs.Steps.{asked_one, shown_bytes}
use Rattle.btree_split.proofs.Followed.{room_told}
use Rattle.btree_split.proofs.way.room_on.Goals as goal

pub returns-clause-room : goal.returns-clause-room
returns-clause-room g c = λ told.
    let looked = asked_one c.args.page _ _ _ c.bytes.follows.holds-at-none in
    room_told c.has_room-room.result c.in_ok-bytes.bytes.now ((g.M.Mtr.state c.args.m.now).standing c.args.page)
    (shown_bytes c.args.page c.in_ok-bytes.bytes.now _ _ _ c.requires looked c.give_up.ensures c.in_ok-bytes.ensures.shown told) c.has_room-room.ensures
