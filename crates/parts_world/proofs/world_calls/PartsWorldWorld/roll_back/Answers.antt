use Rattle.std.proofs.Common.{◌≡◌, length, Some, None, refl, arith, ℕ, ◌≤◌}
use Rattle.std.specs.Prelude.{◌==◌, not, slice_get, slice_set}
use Rattle.sql_history.specs.Settings.{at_end}
use Rattle.world.specs.State.{Session, Work, HasWork}
use Rattle.world_parts.specs.Owed.{owed_of}
use Rattle.world_parts.proofs.Owing.{owes_rolled_back, owes_end}
use Rattle.parts_world.specs.Parts.{world_of, queue_of}
use Rattle.parts_world.proofs.Requests.{part_short, ended_short}
use Rattle.parts_world.proofs.Sound.{there_of, read_of, part_le, sound_set, sound_fewer, sound_rooms, rooms_same}
use Rattle.parts_world.proofs.Results.{is_there, is_number}
use Rattle.parts_world.proofs.world_calls.PartsWorldWorld.roll_back.Goals as goal

pub add-requires : goal.add-requires
add-requires g c =
    let l = c.self.inside in
    let session : Session = c.requires.0 in
    let work : Work = c.requires.1 in
    let has : HasWork c.args.s session work (world_of (g.I.IndexStore.store c.args.self.now.store) c.args.self.now) = c.requires.2 in
    let there : slice_get l.sessions.items c.args.s ≡ Some session = there_of c.args.s session c.self.view_is has.session_is in
    omega (arith, part_le owed_of l.sessions.items c.args.s session there, owes_end session work has.work_is c.requires.3, c.self.invariant.enough)

pub invariant_of-self : goal.invariant_of-self
invariant_of-self g c =
    let l = c.self.inside in
    let session : Session = c.requires.0 in
    let work : Work = c.requires.1 in
    let has : HasWork c.args.s session work (world_of (g.I.IndexStore.store c.args.self.now.store) c.args.self.now) = c.requires.2 in
    let there : slice_get l.sessions.items c.args.s ≡ Some session = there_of c.args.s session c.self.view_is has.session_is in
    let here : c.index_mut.result.now ≡ session = read_of c.args.s session c.index_mut.result.now c.self.view_is has.session_is c.index_mut.ensures.value in
    let new : Session = record session { setting = at_end session.setting; work = None } in
    let whole =
    sound_set l.history.room l.rows ((g.I.IndexStore.store l.store).rooms) l.txns.begun (queue_of l.locks.waiting l.fallen)
    l.sessions.items c.args.s session new c.add.new.self.room l.rows ((g.I.IndexStore.store l.store).rooms) c.self.invariant there (λ txn is. absurd (cc))
    (rooms_same ((g.I.IndexStore.store l.store).rooms) l.sessions.items c.args.s session new c.self.invariant.roomy there refl refl)
    (omega (arith, owes_rolled_back session work has.work_is c.requires.3, c.add.ensures.room, c.self.invariant.enough))
    (omega (arith, owes_rolled_back session work has.work_is c.requires.3, c.self.invariant.small)) (omega (arith, c.self.invariant.counted)) in
    let requests : length c.give_back.new.locks.waiting ≤ length l.locks.waiting =
    rw c.give_back.ensures.locks (ended_short c.in-Some.txn l.locks.granted l.locks.waiting) in
    let fallen : length c.give_back.new.fallen.items ≤ length l.fallen.items =
    rw c.give_back.ensures.items (part_short (λ (other : ℕ). not (other == c.in-Some.txn)) l.fallen.items) in
    rw (c.end.ensures.ended, here, c.end-in-Done.ensures) (sound_rooms _ _ _ ((g.I.IndexStore.store c.roll_back-answer.new.self).rooms) _ _ _
    (sound_fewer c.add.new.self.room l.rows ((g.I.IndexStore.store l.store).rooms) l.txns.begun
    (queue_of l.locks.waiting l.fallen) (slice_set l.sessions.items c.args.s new) (queue_of c.give_back.new.locks.waiting c.give_back.new.fallen) whole
    requests fallen (omega (arith, c.give_back.ensures.room))) c.in-Done.ensures.rooms)

pub returns-in-Some : goal.returns-in-Some
returns-in-Some g c =
    let session : Session = c.requires.0 in
    let work : Work = c.requires.1 in
    let has : HasWork c.args.s session work (world_of (g.I.IndexStore.store c.args.self.now.store) c.args.self.now) = c.requires.2 in
    let here : c.index_mut.result.now ≡ session = read_of c.args.s session c.index_mut.result.now c.self.view_is has.session_is c.index_mut.ensures.value in
    let there = is_there work c.index_mut.result.now session c.end.result here has.work_is c.end.ensures.number in
    let txn : c.in-Some.txn ≡ work.txn = is_number work c.end.result c.in-Some.txn there c.in-Some.is in
    rw c.in-Done.is (record {
      session = session;
      work = work;
      has_work = has;
      rest = rw (
        ← c.self.view_is,
        c.in-Done.ensures.schemas,
        c.in-Done.ensures.indexes,
        c.in-Done.ensures.versions,
        c.end.ensures.ended,
        here,
        c.end-in-Done.ensures,
        c.give_back.ensures.locks,
        c.give_back.ensures.items,
        txn,
        c.add.ensures.past,
        c.add.ensures.names,
      ) refl;
      later = rw (← c.self.view_is) c.in-Done.ensures.later;
    })
