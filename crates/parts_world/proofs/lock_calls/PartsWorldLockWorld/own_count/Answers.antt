use Rattle.std.proofs.Common.{◌≡◌, true, false, sym, ap, ◌∙◌}
use Rattle.store_api.specs.declared.answers.Standing.{Standing}
use Rattle.world.specs.State.{Session, own_of}
use Rattle.world_parts.specs.Holding.{Holds, NoneHolds}
use Rattle.index_store.proofs.Places.{element}
use Rattle.world_parts.proofs.Held.{is_txn, same_holder}
use Rattle.parts_world.proofs.Sound.{there_of}
use Rattle.parts_world.proofs.lock_calls.PartsWorldLockWorld.own_count.Goals as goal

pub returns-in-Some : goal.returns-in-Some
returns-in-Some g c s session work has is =
    let l = c.self.inside in
    let holds : Holds c.args.txn c.in-Some.s l.sessions.items = rw c.deref.ensures.value at c.in-Some.ensures in
    let same : session ≡ holds.session =
    same_holder c.args.txn c.in-Some.s s holds.session session l.sessions.items c.self.invariant.apart holds.there
    (there_of s session c.self.view_is has.session_is) holds.is (is_txn c.args.txn session.work work has.work_is is) in
    let read : c.index.result.now ≡ session = element l.sessions.items c.in-Some.s holds.session c.index.result.now holds.there c.index.ensures ∙ sym same in
    ap (λ (x : Standing). x.own) c.standing.ensures ∙ ap (λ (x : Session). own_of x.work) read ∙ ap own_of has.work_is

pub returns-in-None : goal.returns-in-None
returns-in-None g c s session work has is =
    let l = c.self.inside in
    let none : NoneHolds c.args.txn l.sessions.items = rw c.deref.ensures.value at c.in-None.ensures in
    let not = none s session (there_of s session c.self.view_is has.session_is) in
    let it = is_txn c.args.txn session.work work has.work_is is in
    absurd (let both : true ≡ false = sym it ∙ not in cc)
