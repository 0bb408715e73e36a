use Rattle.std.proofs.Common.{◌≡◌, refl, sym, ◌∙◌, arith}
use Rattle.world.specs.State.{Session}
use Rattle.parts_world.specs.Parts.{queue_of}
use Rattle.parts_world.proofs.Sound.{sound_quiet, rooms_same}
use Rattle.world_parts.proofs.Owing.{same_owed_id, same_txn_id}
use Rattle.world.specs.Sessions.{work_with_id}
use Rattle.world_parts.specs.Holding.{Holds, NoneHolds}
use Rattle.index_store.proofs.Places.{element}
use Rattle.world_parts.proofs.Held.{held, unheld}
use Rattle.parts_world.proofs.world_calls.PartsWorldWorld.give_id.Goals as goal

pub invariant_of-self : goal.invariant_of-self
invariant_of-self g c =
    let l = c.self.inside in
    let holds : Holds c.args.txn c.in-Some.s l.sessions.items = rw c.deref.ensures.value at c.in-Some.ensures in
    let session = holds.session in
    let here : c.index_mut.result.now ≡ session = element l.sessions.items c.in-Some.s session c.index_mut.result.now holds.there c.index_mut.ensures.value in
    let new : Session = record session { work = work_with_id l.txns.next session.work } in
    rw (c.set_id.ensures, here, c.give_id-id.ensures.id, c.give_id-id.ensures.given)
    (sound_quiet l.history.room l.rows ((g.I.IndexStore.store l.store).rooms) l.txns.begun (queue_of l.locks.waiting l.fallen) l.sessions.items c.in-Some.s session new ((g.I.IndexStore.store l.store).rooms)
    c.self.invariant holds.there (λ txn is. sym (same_txn_id session.work l.txns.next) ∙ is)
    (rooms_same ((g.I.IndexStore.store l.store).rooms) l.sessions.items c.in-Some.s session new c.self.invariant.roomy holds.there refl refl)
    (omega (arith, same_owed_id session.work l.txns.next)) refl)

pub returns-in-Some-clause-given : goal.returns-in-Some-clause-given
returns-in-Some-clause-given g c =
    let l = c.self.inside in
    let holds : Holds c.args.txn c.in-Some.s l.sessions.items = rw c.deref.ensures.value at c.in-Some.ensures in
    let session = holds.session in
    let here : c.index_mut.result.now ≡ session = element l.sessions.items c.in-Some.s session c.index_mut.result.now holds.there c.index_mut.ensures.value in
    let one =
    held c.args.txn c.in-Some.s (λ session. record session { work = work_with_id c.self.inside.txns.next session.work }) session l.sessions.items
    c.self.invariant.apart holds.there holds.is in
    rw (← c.self.view_is, one, c.set_id.ensures, here, c.give_id-id.ensures.id, c.give_id-id.ensures.given) refl

pub returns-in-None-clause-given : goal.returns-in-None-clause-given
returns-in-None-clause-given g c =
    let l = c.self.inside in
    let none : NoneHolds c.args.txn l.sessions.items = rw c.deref.ensures.value at c.in-None.ensures in
    rw (
      ← c.self.view_is,
      unheld c.args.txn (λ session. record session { work = work_with_id c.self.inside.txns.next session.work }) l.sessions.items none,
      c.give_id-id.ensures.given,
    ) refl
