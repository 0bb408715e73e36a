use Rattle.std.proofs.lemmas.Grind.{common_steps}
use Rattle.std.proofs.Common.{◌≡◌, true, refl, arith}
use Rattle.world.specs.State.{Session}
use Rattle.parts_world.specs.Parts.{queue_of}
use Rattle.parts_world.proofs.Sound.{sound_quiet, rooms_same}
use Rattle.sql_history.specs.Settings.{saved}
use Rattle.world_parts.specs.Holding.{Holds, NoneHolds}
use Rattle.index_store.proofs.Places.{element, set_same}
use Rattle.parts_world.proofs.Results.{ok_then, either_way}
use Rattle.world_parts.proofs.Held.{held, unheld}
use Rattle.parts_world.proofs.world_calls.PartsWorldWorld.savepoint.Goals as goal

pub invariant_of-self-in-Some : goal.invariant_of-self-in-Some
invariant_of-self-in-Some g c =
    let l = c.self.inside in
    let holds : Holds c.args.txn c.in-Some.s l.sessions.items = rw c.deref.ensures.value at c.in-Some.ensures in
    let session = holds.session in
    let here : c.index_mut.result.now ≡ session = element l.sessions.items c.in-Some.s session c.index_mut.result.now holds.there c.index_mut.ensures.value in
    let new : Session = record session { setting = record session.setting { saves = saved c.args.name.now c.args.own true session.setting.saves } } in
    either_way c.save.result c.save.ensures.ok c.save.ensures.err
    (λ ok. rw (ok, here, c.in_ok-copied-in-Some.ensures)
    (sound_quiet l.history.room l.rows ((g.I.IndexStore.store l.store).rooms) l.txns.begun (queue_of l.locks.waiting l.fallen) l.sessions.items c.in-Some.s session new ((g.I.IndexStore.store l.store).rooms)
    c.self.invariant holds.there (λ txn is. is)
    (rooms_same ((g.I.IndexStore.store l.store).rooms) l.sessions.items c.in-Some.s session new c.self.invariant.roomy holds.there refl refl) (omega arith) refl))
    (λ err. rw (err, set_same l.sessions.items c.in-Some.s c.index_mut.result.now c.index_mut.ensures.value) c.self.invariant)

pub returns-in_ok-copied-in-Some-clause-ok : goal.returns-in_ok-copied-in-Some-clause-ok
returns-in_ok-copied-in-Some-clause-ok g c =
    let l = c.self.inside in
    let holds : Holds c.args.txn c.in-Some.s l.sessions.items = rw c.deref.ensures.value at c.in-Some.ensures in
    let session = holds.session in
    let here : c.index_mut.result.now ≡ session = element l.sessions.items c.in-Some.s session c.index_mut.result.now holds.there c.index_mut.ensures.value in
    let new : Session = record session { setting = record session.setting { saves = saved c.args.name.now c.args.own true session.setting.saves } } in
    let one =
    held c.args.txn c.in-Some.s (λ session. record session
    { setting = record session.setting { saves = saved c.args.name.now c.args.own true session.setting.saves } }) session l.sessions.items
    c.self.invariant.apart holds.there holds.is in
    ok_then c.save.result c.save.ensures.ok (λ ok. rw (← c.self.view_is, one, ok, here, c.in_ok-copied-in-Some.ensures) refl)

pub returns-in-None-clause-ok : goal.returns-in-None-clause-ok
returns-in-None-clause-ok g c =
    let l = c.self.inside in
    let none : NoneHolds c.args.txn l.sessions.items = rw c.deref.ensures.value at c.in-None.ensures in
    rw (
      ← c.self.view_is,
      unheld c.args.txn (λ session. record session
          { setting = record session.setting { saves = saved c.args.name.now c.args.own true session.setting.saves } }) l.sessions.items none,
    ) refl

pub invariant_of-self : goal.invariant_of-self
invariant_of-self g c = grind (arith, common_steps) steps 2000000

pub returns-in_err-copied-in-Some-clause-err : goal.returns-in_err-copied-in-Some-clause-err
returns-in_err-copied-in-Some-clause-err g c = grind (arith, common_steps) steps 2000000

pub returns-in_ok-copied-in-Some-clause-err : goal.returns-in_ok-copied-in-Some-clause-err
returns-in_ok-copied-in-Some-clause-err g c = grind (arith, common_steps) steps 2000000
