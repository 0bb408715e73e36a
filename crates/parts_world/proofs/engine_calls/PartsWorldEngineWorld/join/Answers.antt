use Rattle.std.proofs.Common.{length, refl, ap, arith}
use Rattle.parts_world.specs.Parts.{Parts, queue_of}
use Rattle.world.specs.EngineCalls.{fresh_session}
use Rattle.parts_world.proofs.Sound.{sound_joined}
use Rattle.parts_world.proofs.engine_calls.PartsWorldEngineWorld.join.Goals as goal

pub invariant_of-self-2 : goal.invariant_of-self-2
invariant_of-self-2 g c =
    let l = c.self.inside in
    rw (c.push.ensures.items, c.unwrap.ensures, c.in_ok-reserve.ensures.items, c.new.ensures, c.in_ok-add_name.ensures.ok)
    (sound_joined l.history.room l.rows ((g.I.IndexStore.store l.store).rooms) l.txns.begun (queue_of l.locks.waiting l.fallen) l.sessions.items fresh_session c.self.invariant
    (omega (arith, c.requires, ap (λ (p : Parts _). length p.sessions) c.self.view_is)) refl refl refl refl)
