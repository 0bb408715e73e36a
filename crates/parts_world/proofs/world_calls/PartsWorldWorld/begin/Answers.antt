use Rattle.std.proofs.Common.{◌≡◌, ◌+◌, Some, refl, arith}
use Rattle.std.specs.Prelude.{slice_get}
use Rattle.world.specs.State.{Session}
use Rattle.parts_world.specs.Parts.{queue_of}
use Rattle.parts_world.proofs.Sound.{there_of, read_of, sound_begun, rooms_same}
use Rattle.sql_history.specs.Settings.{at_begin}
use Rattle.world.specs.Sessions.{fresh_work}
use Rattle.parts_world.proofs.world_calls.PartsWorldWorld.begin.Goals as goal

pub invariant_of-self-2 : goal.invariant_of-self-2
invariant_of-self-2 g c =
    let l = c.self.inside in
    let session = c.requires.closed.0 in
    let there : slice_get l.sessions.items c.args.s ≡ Some session = there_of c.args.s session c.self.view_is c.requires.closed.1 in
    let here : c.index_mut.result.now ≡ session =
    read_of c.args.s session c.index_mut.result.now c.self.view_is c.requires.closed.1 c.index_mut.ensures.value in
    rw (c.begin-2.ensures, here, c.in_ok-txn.ensures.ok, c.in_ok-txn.ensures.number)
    (let new : Session = record session { setting = at_begin session.setting; work = Some (fresh_work (l.txns.begun + 1) c.args.level) } in
    sound_begun l.history.room l.rows ((g.I.IndexStore.store l.store).rooms) l.txns.begun (queue_of l.locks.waiting l.fallen) l.sessions.items c.args.s session new c.self.invariant
    there refl
    (rooms_same ((g.I.IndexStore.store l.store).rooms) l.sessions.items c.args.s session new c.self.invariant.roomy there refl refl) (omega (arith)) refl)

pub returns-clause-ok : goal.returns-clause-ok
returns-clause-ok g c session is =
    let here : c.index_mut.result.now ≡ session = read_of c.args.s session c.index_mut.result.now c.self.view_is is c.index_mut.ensures.value in
    rw (← c.self.view_is, c.begin-2.ensures, here, c.in_ok-txn.ensures.ok, c.in_ok-txn.ensures.number) refl
