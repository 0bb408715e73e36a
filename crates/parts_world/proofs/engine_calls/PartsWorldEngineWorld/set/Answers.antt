use Rattle.std.proofs.Common.{◌≡◌, false, length, Some, refl, ap, arith}
use Rattle.std.specs.Prelude.{slice_get}
use Rattle.std.proofs.lemmas.Option.{slice_get_read}
use Rattle.world.specs.State.{Session}
use Rattle.parts_world.specs.Parts.{Parts, queue_of}
use Rattle.parts_world.proofs.Sound.{read_of, sound_quiet, rooms_same}
use Rattle.sql_history.specs.Settings.{set_by}
use Rattle.parts_world.proofs.engine_calls.PartsWorldEngineWorld.set.Goals as goal

pub invariant_of-self : goal.invariant_of-self
invariant_of-self g c =
    let l = c.self.inside in
    let session = c.index_mut.result.now in
    let there : slice_get l.sessions.items c.args.s ≡ Some session =
    slice_get_read l.sessions.items (length l.sessions.items) c.args.s session refl
    (omega (arith, c.requires, ap (λ (p : Parts _). length p.sessions) c.self.view_is)) c.index_mut.ensures.value in
    let new : Session = record session { setting = set_by c.args.stmt.now 0 false session.setting } in
    rw c.set.ensures (sound_quiet l.history.room l.rows ((g.I.IndexStore.store l.store).rooms) l.txns.begun (queue_of l.locks.waiting l.fallen) l.sessions.items c.args.s session
    new ((g.I.IndexStore.store l.store).rooms) c.self.invariant there (λ txn is. is)
    (rooms_same ((g.I.IndexStore.store l.store).rooms) l.sessions.items c.args.s session new c.self.invariant.roomy there refl refl) (omega arith) refl)

pub returns : goal.returns
returns g c session is =
    let here : c.index_mut.result.now ≡ session = read_of c.args.s session c.index_mut.result.now c.self.view_is is c.index_mut.ensures.value in
    rw (← c.self.view_is, c.set.ensures, here) refl
