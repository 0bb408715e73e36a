use Rattle.parts_world.proofs.Lifting.{called}
use Rattle.parts_world.proofs.Sound.{sound_rooms}
use Rattle.parts_world.proofs.world_calls.PartsWorldWorld.following.Goals as goal

pub invariant_of-self : goal.invariant_of-self
invariant_of-self g c = sound_rooms _ _ _ _ _ _ _ c.self.invariant c.following.ensures.beside.rooms

pub returns : goal.returns
returns g c =
    let l = c.self.inside in
    rw (← c.self.view_is) (called (record { names = l.history.names; past = l.history.past; rows = l.rows; store = l.store; txns = l.txns; sessions = l.sessions.items; locks = l.locks; fallen = l.fallen.items }) c.following.new.self c.args.index _ _ _ c.following.ensures)
