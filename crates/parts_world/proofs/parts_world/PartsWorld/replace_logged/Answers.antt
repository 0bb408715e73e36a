use Rattle.std.proofs.Common.{◌≡◌, ◌<◌, ◌∷◌, Some, refl, sym, ◌∙◌, arith}
use Rattle.std.specs.Prelude.{slice_get}
use Rattle.world.specs.State.{Session, Work, HasWork}
use Rattle.world_parts.specs.Rooms.{working}
use Rattle.world_parts.proofs.Owing.{same_txn, same_owed}
use Rattle.parts_world.specs.Parts.{world_of, queue_of}
use Rattle.parts_world.proofs.Lifting.{may_log, unlogged, logged, rooms_unlogged}
use Rattle.parts_world.proofs.Sound.{there_of, read_of, sound_quiet, sound_rooms, rooms_spent}
use Rattle.parts_world.proofs.parts_world.PartsWorld.replace_logged.Goals as goal

pub replace-answer-requires-clause-undo : goal.replace-answer-requires-clause-undo
replace-answer-requires-clause-undo g c =
    let l = c.self.inside in
    may_log (record { names = l.history.names; past = l.history.past; rows = l.rows; store = l.store; txns = l.txns; sessions = l.sessions.items; locks = l.locks; fallen = l.fallen.items })
    (g.I.IndexStore.store l.store) c.args.actor c.args.undo.now c.self.invariant.roomy (rw (← c.self.view_is) at c.requires.undo)

pub log-requires-clause-room : goal.log-requires-clause-room
log-requires-clause-room g c =
    let l = c.self.inside in
    let may = c.requires.undo in
    let session : Session = may.session in
    let work : Work = may.work in
    let has : HasWork c.args.actor session work (world_of (g.I.IndexStore.store c.args.self.now.store) c.args.self.now) = may.has_work in
    let there : slice_get l.sessions.items c.args.actor ≡ Some session = there_of c.args.actor session c.self.view_is has.session_is in
    let here : c.index_mut.result.now ≡ session = read_of c.args.actor session c.index_mut.result.now c.self.view_is has.session_is c.index_mut.ensures.value in
    rw here (omega (arith, may.room))

pub invariant_of-self-in-Done : goal.invariant_of-self-in-Done
invariant_of-self-in-Done g c =
    let l = c.self.inside in
    let may = c.requires.undo in
    let session : Session = may.session in
    let work : Work = may.work in
    let has : HasWork c.args.actor session work (world_of (g.I.IndexStore.store c.args.self.now.store) c.args.self.now) = may.has_work in
    let there : slice_get l.sessions.items c.args.actor ≡ Some session = there_of c.args.actor session c.self.view_is has.session_is in
    let here : c.index_mut.result.now ≡ session = read_of c.args.actor session c.index_mut.result.now c.self.view_is has.session_is c.index_mut.ensures.value in
    let add : Work → Work = λ w. record w { log = record { pointer = session.next_pointer; undo = c.in-Ok.copy } ∷ w.log } in
    let new : Session = working add (record session { undo_room = 0 }) in
    rw (c.log.ensures, here) (sound_quiet l.history.room l.rows ((g.I.IndexStore.store l.store).rooms) l.txns.begun
    (queue_of l.locks.waiting l.fallen) l.sessions.items c.args.actor session new ((g.I.IndexStore.store c.replace-answer.new.self).rooms) c.self.invariant there
    (λ txn is. sym (same_txn session add (λ w. refl)) ∙ is)
    (rooms_spent ((g.I.IndexStore.store l.store).rooms) ((g.I.IndexStore.store c.replace-answer.new.self).rooms) l.sessions.items c.args.actor session new
    c.self.invariant.roomy there refl c.in-Done.ensures.beside.others)
    (omega (arith, same_owed session.work add (λ w. (refl, refl)))) refl)

pub returns-in-Done : goal.returns-in-Done
returns-in-Done g c =
    let l = c.self.inside in
    let may = c.requires.undo in
    let session : Session = may.session in
    let work : Work = may.work in
    let has : HasWork c.args.actor session work (world_of (g.I.IndexStore.store c.args.self.now.store) c.args.self.now) = may.has_work in
    let there : slice_get l.sessions.items c.args.actor ≡ Some session = there_of c.args.actor session c.self.view_is has.session_is in
    let here : c.index_mut.result.now ≡ session = read_of c.args.actor session c.index_mut.result.now c.self.view_is has.session_is c.index_mut.ensures.value in
    let roomy : 0 < session.undo_room = omega (arith, may.room) in
    let mine : HasWork c.args.actor session work (world_of (g.I.IndexStore.store l.store) (record { names = l.history.names; past = l.history.past; rows = l.rows; store = l.store; txns = l.txns; sessions = l.sessions.items; locks = l.locks; fallen = l.fallen.items })) =
    record { session_is = there; work_is = has.work_is } in
    rw (c.in-Done.is, ← c.self.view_is, c.log.ensures, here, has.work_is, c.in-Ok.ensures) (logged (record { names = l.history.names; past = l.history.past; rows = l.rows; store = l.store; txns = l.txns; sessions = l.sessions.items; locks = l.locks; fallen = l.fallen.items })
    c.replace-answer.new.self c.args.index c.args.actor c.args.undo.now _ _ _ session work mine
    (c.self.invariant.roomy c.args.actor session there roomy).1 c.in-Done.ensures)

pub invariant_of-self-in_default-answer : goal.invariant_of-self-in_default-answer
invariant_of-self-in_default-answer g c =
    sound_rooms _ _ _ _ _ _ _ c.self.invariant
    (rooms_unlogged c.args.actor c.args.undo.now _ _ c.replace-answer.result c.in_default-answer.not-Done c.replace-answer.ensures.beside)

pub returns-in_default-answer : goal.returns-in_default-answer
returns-in_default-answer g c =
    let l = c.self.inside in
    rw (← c.self.view_is) (unlogged (record { names = l.history.names; past = l.history.past; rows = l.rows; store = l.store; txns = l.txns; sessions = l.sessions.items; locks = l.locks; fallen = l.fallen.items })
    c.replace-answer.new.self c.args.index c.args.actor c.args.undo.now _ _ _ c.replace-answer.result c.in_default-answer.not-Done c.replace-answer.ensures)
