use Rattle.parts_world.proofs.Lifting.{freed, rooms_freed}
use Rattle.parts_world.proofs.Sound.{sound_rooms}
use Rattle.parts_world.proofs.world_calls.PartsWorldWorld.free_log.Goals as goal

pub invariant_of-self : goal.invariant_of-self
invariant_of-self g c = sound_rooms _ _ _ _ _ _ _ c.self.invariant (rooms_freed c.args.s _ _ c.free_log.result c.free_log.ensures)

pub returns : goal.returns
returns g c =
    let l = c.self.inside in
    rw (← c.self.view_is) (freed (record { names = l.history.names; past = l.history.past; rows = l.rows; store = l.store; txns = l.txns; sessions = l.sessions.items; locks = l.locks; fallen = l.fallen.items }) c.free_log.new.self c.args.s _ _ c.free_log.result c.free_log.ensures)
