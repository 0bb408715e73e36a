-- The memory for cycles, one room at a time; and who has a request.
use Rattle.std.specs.Prelude.{◌≡◌, ℕ, ◌+◌, ◌-◌, ◌<◌, ◌≤◌, ◌==◌, true, false, Some, None, List, [], ◌∷◌, ◌++◌, length, map}
use Rattle.std.specs.List.{AllByRecursion, position_from}
use Rattle.std.proofs.Common.{arith, ap, refl, inl, inr, length-append}
use Rattle.std.proofs.lemmas.Bool.{cases_Bool, both_ways}
use Rattle.std.proofs.lemmas.List.{length-map}
use Rattle.std.proofs.lemmas.List.Elements.{All-pop, All-push, All-from_recursion, recursion_from_All}
use Rattle.inno_types.specs.declared.lock.Lock.{Lock}
use Rattle.lock_table.specs.declared.room.CycleRoom.{CycleRoom}
use Rattle.lock_table.specs.Queue.{IsEdge}
use Rattle.lock_table.specs.Room.{HasRoom, HasRooms}
use Rattle.lock_table.proofs.Rooms.{less_room}
use Rattle.deadlock.specs.Cycles.{HasNoCycle}
use Rattle.deadlock.specs.Steps.{is_among, without, WaitsFor}
use Rattle.deadlock.proofs.Lists.{length-without}
use Rattle.deadlock.proofs.Circles.{no_circle}
use Rattle.deadlock.proofs.Waits.{waits_among, waits_by_edge}

pub record IsTaken (n : ℕ) (rest : List CycleRoom) (room : CycleRoom) : Type 0 where
  pub room_has : HasRoom n room
  pub rest_has : AllByRecursion (HasRoom n) rest
  pub enough : n ≤ length rest + 1

-- one room of those
pub room_taken : (n : ℕ) (rooms rest : List CycleRoom) (room : CycleRoom) → HasRooms n rooms → rooms ≡ rest ++ room ∷ [] → IsTaken n rest room
room_taken n rooms rest room has e =
    let parts = All-pop (HasRoom n) rooms rest (Some room) e (All-from_recursion (HasRoom n) rooms has.each) in
    record {
      room_has = parts.1;
      rest_has = recursion_from_All (HasRoom n) rest parts.0;
      enough = omega (arith, has.enough, ap length e, length-append rest (room ∷ []));
    }

each_fewer : (m n : ℕ) (rooms : List CycleRoom) → m ≤ n → AllByRecursion (HasRoom n) rooms → AllByRecursion (HasRoom m) rooms
each_fewer m n [] fewer has = tt
each_fewer m n (room ∷ rooms) fewer has = (less_room m n room fewer has.0, each_fewer m n rooms fewer has.1)

-- room for cycles of many is room for cycles of fewer: so the search may go on once the victim's request is gone
pub rooms_fewer : (m n : ℕ) (rooms : List CycleRoom) → m ≤ n → HasRooms n rooms → HasRooms m rooms
rooms_fewer m n rooms fewer has = record { enough = omega (arith, has.enough, fewer); each = each_fewer m n rooms fewer has.each }

-- the room was used up: there is room for one cycle less
pub rooms_left : (n : ℕ) (rest : List CycleRoom) (room : CycleRoom) → IsTaken n rest room → HasRooms (n - 1) rest
rooms_left n rest room taken = record { enough = omega (arith, taken.enough); each = each_fewer (n - 1) n rest (omega arith) taken.rest_has }

-- a room was given back
pub rooms_back : (n : ℕ) (rest : List CycleRoom) (room back : CycleRoom) → IsTaken n rest room → HasRoom n back → HasRooms n (rest ++ back ∷ [])
rooms_back n rest room back taken has = record {
  enough = omega (arith, taken.enough, length-append rest (back ∷ []));
  each = recursion_from_All (HasRoom n) (rest ++ back ∷ []) (All-push (HasRoom n) rest back (All-from_recursion (HasRoom n) rest taken.rest_has) has);
}

-- who has a request is among those with requests, and nobody else is
pub among_placed : (txn : ℕ) (queue : List Lock) (first place : ℕ) → Some place ≡ position_from (λ asked. asked.txn == txn) first queue → is_among txn (map (λ asked. asked.txn) queue) ≡ true
among_placed txn [] first place e = absurd (cc)
among_placed txn (asked ∷ queue) first place e =
    elim (cases_Bool (asked.txn == txn)) [ inl here ↦ rw here refl | inr other ↦ rw other (among_placed txn queue (first + 1) place (rw other at e)) ]

absent_unplaced : (txn : ℕ) (queue : List Lock) (first : ℕ) → None ≡ position_from (λ asked. asked.txn == txn) first queue → is_among txn (map (λ asked. asked.txn) queue) ≡ false
absent_unplaced txn [] first e = refl
absent_unplaced txn (asked ∷ queue) first e =
    elim (cases_Bool (asked.txn == txn)) [
      | inl here ↦ let bad : None ≡ Some first = rw here at e in absurd (cc)
      | inr other ↦ rw other (absent_unplaced txn queue (first + 1) (rw other at e))
    ]

-- one that has no request is on no cycle
pub no_cycle_unplaced : (txn : ℕ) (granted waiting : List Lock) → None ≡ position_from (λ asked. asked.txn == txn) 0 waiting → HasNoCycle txn granted waiting
no_cycle_unplaced txn granted waiting none cycle there =
    no_circle (WaitsFor granted waiting) (IsEdge granted waiting) (waits_by_edge granted waiting) txn (map (λ (asked : Lock). asked.txn) waiting)
    (λ v h absent waits. absurd (both_ways (is_among v (map (λ (asked : Lock). asked.txn) waiting)) absent (waits_among v h granted [] waiting waits)))
    (absent_unplaced txn waiting 0 none) cycle there.circle.stand there.circle.closes there.through

-- the others are fewer than the requests
pub others_fewer : (txn : ℕ) (waiting : List Lock) (place : ℕ) (others : List ℕ) → Some place ≡ position_from (λ asked. asked.txn == txn) 0 waiting → others ≡ without txn (map (λ asked. asked.txn) waiting) → length others < length waiting
others_fewer txn waiting place others at e =
    omega (arith, ap length e, length-without txn (map (λ (asked : Lock). asked.txn) waiting) (among_placed txn waiting 0 place at), length-map waiting (λ (asked : Lock). asked.txn))
