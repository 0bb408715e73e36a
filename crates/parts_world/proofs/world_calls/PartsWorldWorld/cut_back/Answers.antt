use Rattle.std.proofs.Common.{◌≡◌, Some, refl, ap, sym, ◌∙◌, arith}
use Rattle.std.specs.Prelude.{slice_get}
use Rattle.world.specs.State.{Session, Work, Logged, HasWork}
use Rattle.world.specs.Undoing.{older}
use Rattle.world_parts.specs.Rooms.{working}
use Rattle.world_parts.proofs.Owing.{same_txn, same_owed}
use Rattle.parts_world.specs.Parts.{world_of, queue_of}
use Rattle.parts_world.proofs.Lifting.{uncut, rooms_uncut, same_newest}
use Rattle.parts_world.proofs.Logs.{cons_of}
use Rattle.parts_world.proofs.Sound.{there_of, read_of, sound_quiet, sound_rooms, rooms_spent}
use Rattle.parts_world.proofs.world_calls.PartsWorldWorld.cut_back.Goals as goal

pub invariant_of-self : goal.invariant_of-self
invariant_of-self g c =
    let l = c.self.inside in
    let session : Session = c.requires.0 in
    let work : Work = c.requires.1 in
    let has : HasWork c.args.slot session work (world_of (g.I.IndexStore.store c.args.self.now.store) c.args.self.now) = c.requires.2 in
    let there : slice_get l.sessions.items c.args.slot ≡ Some session = there_of c.args.slot session c.self.view_is has.session_is in
    let here : c.index_mut.result.now ≡ session = read_of c.args.slot session c.index_mut.result.now c.self.view_is has.session_is c.index_mut.ensures.value in
    let cut : Work → Work = λ w. record w { log = older w.log } in
    let new : Session = working cut (record session { undo_room = 0 }) in
    rw (c.cut_back.ensures, here) (sound_quiet l.history.room l.rows ((g.I.IndexStore.store l.store).rooms) l.txns.begun
    (queue_of l.locks.waiting l.fallen) l.sessions.items c.args.slot session new ((g.I.IndexStore.store c.cut_back-answer.new.self).rooms) c.self.invariant there
    (λ txn is. sym (same_txn session cut (λ w. refl)) ∙ is)
    (rooms_spent ((g.I.IndexStore.store l.store).rooms) ((g.I.IndexStore.store c.cut_back-answer.new.self).rooms) l.sessions.items c.args.slot session new
    c.self.invariant.roomy there refl (λ other another. c.in-Done.ensures.others other (λ same. another (same ∙ c.from.ensures))))
    (omega (arith, same_owed session.work cut (λ w. (refl, refl)))) refl)

pub invariant_of-self-in_default-answer : goal.invariant_of-self-in_default-answer
invariant_of-self-in_default-answer g c =
    sound_rooms _ _ _ _ _ _ _ c.self.invariant
    (rooms_uncut c.args.actor c.from.result c.in-Some.pointer c.in-Some.kind _ _ c.cut_back-answer.result c.in_default-answer.not-Done c.cut_back-answer.ensures)

pub returns-in-Done : goal.returns-in-Done
returns-in-Done g c =
    let l = c.self.inside in
    let session : Session = c.requires.0 in
    let work : Work = c.requires.1 in
    let has : HasWork c.args.slot session work (world_of (g.I.IndexStore.store c.args.self.now.store) c.args.self.now) = c.requires.2 in
    let there : slice_get l.sessions.items c.args.slot ≡ Some session = there_of c.args.slot session c.self.view_is has.session_is in
    let here : c.index_mut.result.now ≡ session = read_of c.args.slot session c.index_mut.result.now c.self.view_is has.session_is c.index_mut.ensures.value in
    let log = cons_of work.log c.requires.3 in
    let gone : Logged = log.0 in
    let cut : older work.log ≡ log.1 = ap older log.2 in
    let read : c.index.result.now ≡ session = read_of c.args.slot session c.index.result.now c.self.view_is has.session_is c.index.ensures in
    let found = c.newest_pointer.ensures in
    let newest = same_newest session work gone log.1 c.in-Some.pointer c.in-Some.kind has.work_is log.2
    (sym c.in-Some.is ∙ rw read at found) in
    let is = c.in-Done.ensures in
    rw (c.in-Done.is) (record {
      session = session;
      work = work;
      has_work = has;
      gone = gone;
      log = log.1;
      log_is = log.2;
      told = rw (← c.self.view_is) is.told;
      kept = rw (← c.self.view_is) (λ pointer other told. is.kept pointer (λ same. other (same ∙ newest.0)) told);
      behind_new = rw (← c.self.view_is) (λ kind told. rw newest.0 at (is.behind_new (newest.1 ∙ kind) told));
      next = session.next_pointer;
      rest = rw (← c.self.view_is, c.cut_back.ensures, here, has.work_is, cut, is.schemas, is.indexes) refl;
      later = rw (← c.self.view_is) is.later;
    })

pub returns-in_default-answer : goal.returns-in_default-answer
returns-in_default-answer g c =
    let l = c.self.inside in
    rw (← c.self.view_is) (uncut (record { names = l.history.names; past = l.history.past; rows = l.rows; store = l.store; txns = l.txns; sessions = l.sessions.items; locks = l.locks; fallen = l.fallen.items })
    c.cut_back-answer.new.self c.args.actor c.args.slot c.from.result c.in-Some.pointer c.in-Some.kind _ _ c.cut_back-answer.result c.in_default-answer.not-Done c.cut_back-answer.ensures)
