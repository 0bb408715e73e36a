use Rattle.parts_world.proofs.Lifting.{unchanged}
use Rattle.parts_world.proofs.Sound.{sound_rooms}
use Rattle.parts_world.proofs.world_calls.PartsWorldWorld.version.Goals as goal

pub invariant_of-self : goal.invariant_of-self
invariant_of-self g c = sound_rooms _ _ _ _ _ _ _ c.self.invariant c.version.ensures.rest.beside.rooms

pub returns-clause-rest : goal.returns-clause-rest
returns-clause-rest g c =
    let l = c.self.inside in
    rw (← c.self.view_is) (unchanged (record { names = l.history.names; past = l.history.past; rows = l.rows; store = l.store; txns = l.txns; sessions = l.sessions.items; locks = l.locks; fallen = l.fallen.items }) c.version.new.self _ _ c.version.ensures.rest)
