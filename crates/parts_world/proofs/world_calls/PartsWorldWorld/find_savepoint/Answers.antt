use Rattle.std.proofs.Common.{◌≡◌, true, false, refl, ap, sym, ◌∙◌, arith}
use Rattle.world.specs.State.{Session}
use Rattle.parts_world.specs.Parts.{queue_of}
use Rattle.parts_world.proofs.Sound.{there_of, sound_quiet, rooms_same}
use Rattle.sql_history.specs.Settings.{back_to, made_at}
use Rattle.world_parts.specs.Holding.{Holds, NoneHolds}
use Rattle.index_store.proofs.Places.{element}
use Rattle.world_parts.proofs.Held.{held, is_txn, same_holder}
use Rattle.std.proofs.lemmas.Option.{slice_get_within}
use Rattle.parts_world.proofs.world_calls.PartsWorldWorld.find_savepoint.Goals as goal

pub returns-in_err-s-clause-found : goal.returns-in_err-s-clause-found
returns-in_err-s-clause-found g c s session work has is =
    let l = c.self.inside in
    let none : NoneHolds c.args.txn l.sessions.items = rw c.deref.ensures.value at c.in_err-s.ensures in
    let not = none s session (there_of s session c.self.view_is has.session_is) in
    let it = is_txn c.args.txn session.work work has.work_is is in
    absurd (let both : true ≡ false = sym it ∙ not in cc)

pub index-requires : goal.index-requires
index-requires g c =
    let l = c.self.inside in
    let holds : Holds c.args.txn c.in_ok-s.s l.sessions.items = rw c.deref.ensures.value at c.in_ok-s.ensures in
    omega (arith, slice_get_within l.sessions.items c.in_ok-s.s holds.session holds.there)

pub returns-in_err-made-clause-found : goal.returns-in_err-made-clause-found
returns-in_err-made-clause-found g c s session work has is =
    let l = c.self.inside in
    let holds : Holds c.args.txn c.in_ok-s.s l.sessions.items = rw c.deref.ensures.value at c.in_ok-s.ensures in
    let same : session ≡ holds.session =
    same_holder c.args.txn c.in_ok-s.s s holds.session session l.sessions.items c.self.invariant.apart holds.there
    (there_of s session c.self.view_is has.session_is) holds.is (is_txn c.args.txn session.work work has.work_is is) in
    let read : c.index.result.now ≡ session = element l.sessions.items c.in_ok-s.s holds.session c.index.result.now holds.there c.index.ensures ∙ sym same in
    c.from_residual-in_err-made.ensures ∙ c.in_err-made.ensures ∙ ap (λ (x : Session). made_at c.args.name.now x.setting.saves) read

pub index_mut-requires : goal.index_mut-requires
index_mut-requires g c =
    let l = c.self.inside in
    let holds : Holds c.args.txn c.in_ok-s.s l.sessions.items = rw c.deref.ensures.value at c.in_ok-s.ensures in
    omega (arith, slice_get_within l.sessions.items c.in_ok-s.s holds.session holds.there)

pub invariant_of-self : goal.invariant_of-self
invariant_of-self g c =
    let l = c.self.inside in
    let holds : Holds c.args.txn c.in_ok-s.s l.sessions.items = rw c.deref.ensures.value at c.in_ok-s.ensures in
    let session = holds.session in
    let here : c.index_mut.result.now ≡ session = element l.sessions.items c.in_ok-s.s session c.index_mut.result.now holds.there c.index_mut.ensures.value in
    let new : Session = record session { setting = record session.setting { saves = back_to c.args.name.now session.setting.saves } } in
    rw (c.back_to.ensures, here) (sound_quiet l.history.room l.rows ((g.I.IndexStore.store l.store).rooms) l.txns.begun (queue_of l.locks.waiting l.fallen) l.sessions.items
    c.in_ok-s.s session new ((g.I.IndexStore.store l.store).rooms) c.self.invariant holds.there (λ txn is. is)
    (rooms_same ((g.I.IndexStore.store l.store).rooms) l.sessions.items c.in_ok-s.s session new c.self.invariant.roomy holds.there refl refl) (omega arith) refl)

pub returns-clause-found : goal.returns-clause-found
returns-clause-found g c s session work has is =
    let l = c.self.inside in
    let holds : Holds c.args.txn c.in_ok-s.s l.sessions.items = rw c.deref.ensures.value at c.in_ok-s.ensures in
    let same : session ≡ holds.session =
    same_holder c.args.txn c.in_ok-s.s s holds.session session l.sessions.items c.self.invariant.apart holds.there
    (there_of s session c.self.view_is has.session_is) holds.is (is_txn c.args.txn session.work work has.work_is is) in
    let read : c.index.result.now ≡ session = element l.sessions.items c.in_ok-s.s holds.session c.index.result.now holds.there c.index.ensures ∙ sym same in
    c.in_ok-made.ensures ∙ ap (λ (x : Session). made_at c.args.name.now x.setting.saves) read

pub returns-clause-some : goal.returns-clause-some
returns-clause-some g c =
    let l = c.self.inside in
    let holds : Holds c.args.txn c.in_ok-s.s l.sessions.items = rw c.deref.ensures.value at c.in_ok-s.ensures in
    let session = holds.session in
    let here : c.index_mut.result.now ≡ session = element l.sessions.items c.in_ok-s.s session c.index_mut.result.now holds.there c.index_mut.ensures.value in
    let one =
    held c.args.txn c.in_ok-s.s (λ session. record session
    { setting = record session.setting { saves = back_to c.args.name.now session.setting.saves } }) session l.sessions.items c.self.invariant.apart
    holds.there holds.is in
    rw (← c.self.view_is, one, c.back_to.ensures, here) refl
