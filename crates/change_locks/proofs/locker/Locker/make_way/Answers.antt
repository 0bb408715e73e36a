use Rattle.std.proofs.Common.{ap, sym, subst}
use Rattle.lock_table.specs.Keys.{IsShort}
use Rattle.inno_types.specs.declared.lock.Spot.{Spot}
use Rattle.world.specs.State.{WorldState}
use Rattle.change_locks.proofs.Fitting.{may_ask_way, may_still, way_made}
use Rattle.change_locks.proofs.locker.Locker.make_way.Goals as goal

pub ask-requires : goal.ask-requires
ask-requires g c =
    let old = g.W.World.state c.args.world.now in
    let mid = g.W.World.state c.lock_room.new.self in
    rw c.lock.ensures
    (may_ask_way c.args.self.now c.in-Ok.spot mid
    (may_still c.args.self.now old mid (ap (λ (w : WorldState). w.sessions) c.lock_room.ensures.same)
    (ap (λ (w : WorldState). w.locks.waiting) c.lock_room.ensures.same) c.requires.may)
    (subst (λ (spot : Spot). IsShort spot.key) (sym c.in-Ok.ensures) c.requires.short))

pub returns : goal.returns
returns g c =
    let old = g.W.World.state c.args.world.now in
    let mid = g.W.World.state c.lock_room.new.self in
    let may = c.requires.may in
    way_made c.args.self.now c.args.next.now old mid (g.W.World.state c.ask.new.self) c.ask.result c.lock_room.ensures.same
    (rw may.mine (c.in-Ok-lock_room.ensures.room may.session may.work may.has_work))
    (rw⁻¹ c.in-Ok.ensures (rw⁻¹ c.lock.ensures c.ask.ensures))
