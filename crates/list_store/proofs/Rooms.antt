-- Rooms for undo records, each with a slot of its own.
use Rattle.std.proofs.Common.{◌≡◌, ◌≢◌, ℕ, zero, suc, ◌+◌, ◌<◌, List, [], ◌∷◌, ◌++◌, length, length-append, Option, None, Some, refl, ap, sym, ◌∙◌, subst, arith, inl, inr}
use Rattle.std.specs.Prelude.{slice_get, slice_set}
use Rattle.std.proofs.lemmas.Bool.{cases_eq}
use Rattle.std.proofs.Math.Path.{fun_ext}
use Rattle.std.proofs.lemmas.List.{length-set}
use Rattle.row_versions.specs.declared.kept.Kept.{Kept}
use Rattle.index_store.specs.declared.room.Room.{Room}
use Rattle.index_store.proofs.Places.{get_set_here, get_set_elsewhere}
use Rattle.list_store.specs.Slots.{filled_if}
use Rattle.list_store.specs.Parts.{room_of, room_in, HasSlot, ArePromised}
use Rattle.list_store.proofs.Filled.{kept_taken, kept_past, kept_elsewhere}

abbrev pub no_room : Room
no_room = record { bytes = 0; pointer = 0 }

grown_at : (rooms : List Room) (s : ℕ) → room_in (rooms ++ no_room ∷ []) s ≡ room_in rooms s
grown_at [] zero = refl
grown_at [] (suc s) = refl
grown_at (room ∷ rooms) zero = refl
grown_at (room ∷ rooms) (suc s) = grown_at rooms s

-- a place for a room that was not made is no room
pub grown : (rooms : List Room) → room_in (rooms ++ no_room ∷ []) ≡ room_in rooms
grown rooms = fun_ext (grown_at rooms)

pub room_here : (rooms : List Room) (s : ℕ) (room : Room) → slice_get rooms s ≡ Some room → room_in rooms s ≡ room
room_here rooms s room there = ap room_of there

-- a session that has room is among those that have asked
pub asked : (rooms : List Room) (s : ℕ) → 0 < (room_in rooms s).bytes → s < length rooms
asked [] s roomy = absurd (omega (arith, roomy))
asked (room ∷ rooms) zero roomy = omega arith
asked (room ∷ rooms) (suc s) roomy = omega (arith, asked rooms s roomy)

-- one more slot was taken
pub promised_more : (slots : List (Option Kept)) (rooms : ℕ → Room) → ArePromised slots rooms → ArePromised (slots ++ None ∷ []) rooms
promised_more slots rooms promised = record {
  slot =
      λ s roomy. let had = promised.slot s roomy in
      (had.0, omega (arith, had.1, length-append slots (None ∷ [])), ap (λ (f : ℕ → Option Kept). f (rooms s).pointer) (kept_taken slots) ∙ had.2);
  apart = promised.apart;
}

-- another slot was taken, and its pointer is promised to the session
pub promised_taken : (slots : List (Option Kept)) (rooms rooms' : ℕ → Room) (s : ℕ) → ArePromised slots rooms
    → (rooms' s).pointer ≡ length slots + 1 → ((other : ℕ) → other ≢ s → rooms' other ≡ rooms other) → ArePromised (slots ++ None ∷ []) rooms'
promised_taken slots rooms rooms' s promised pointer others = record {
  slot = λ t. elim (cases_eq t s) [
    | inl same ↦ subst (λ (n : ℕ). HasSlot (slots ++ None ∷ []) (rooms' n)) (sym same)
        (λ roomy. (omega (arith, pointer), omega (arith, pointer, length-append slots (None ∷ [])), rw pointer (kept_past slots)))
    | inr other ↦ rw (others t other) ((promised_more slots rooms promised).slot t)
  ];
  apart = λ a b room-a room-b same. elim (cases_eq a s) [
    | inl a-is ↦ elim (cases_eq b s) [
      | inl b-is ↦ a-is ∙ sym b-is
      | inr b-other ↦ absurd (omega (arith, (promised.slot b (rw (others b b-other) at room-b)).1, rw (others b b-other) at same, subst (λ (n : ℕ). (rooms' n).pointer ≡ length slots + 1) (sym a-is) pointer))
    ]
    | inr a-other ↦ elim (cases_eq b s) [
      | inl b-is ↦ absurd (omega (arith, (promised.slot a (rw (others a a-other) at room-a)).1, rw (others a a-other) at same, subst (λ (n : ℕ). (rooms' n).pointer ≡ length slots + 1) (sym b-is) pointer))
      | inr b-other ↦ promised.apart a b (rw (others a a-other) at room-a) (rw (others b b-other) at room-b) (rw (others a a-other, others b b-other) at same)
    ]
  ];
}

others_unfilled : (slots : List (Option Kept)) (rooms : ℕ → Room) (s t : ℕ) (kept : Option Kept) → ArePromised slots rooms
    → 0 < (rooms s).bytes → t ≢ s → HasSlot (filled_if (rooms s).pointer kept slots) (rooms t)
others_unfilled slots rooms s t None promised room other = promised.slot t
others_unfilled slots rooms s t (Some kept) promised room other = λ roomy.
    let had = promised.slot t roomy in
    let another : (rooms t).pointer ≢ (rooms s).pointer = λ same. other (promised.apart t s roomy room same) in
    (had.0, rw length-set had.1, kept_elsewhere slots (rooms s).pointer (rooms t).pointer kept (promised.slot s room).0 another ∙ had.2)

-- the session's slot was filled, or not, and it has no room now
pub promised_filled : (slots : List (Option Kept)) (rooms rooms' : ℕ → Room) (s : ℕ) (kept : Option Kept) → ArePromised slots rooms
    → 0 < (rooms s).bytes → (rooms' s).bytes ≡ 0 → ((other : ℕ) → other ≢ s → rooms' other ≡ rooms other)
    → ArePromised (filled_if (rooms s).pointer kept slots) rooms'
promised_filled slots rooms rooms' s kept promised room spent others = record {
  slot = λ t. elim (cases_eq t s) [
    | inl same ↦ subst (λ (n : ℕ). HasSlot (filled_if (rooms s).pointer kept slots) (rooms' n)) (sym same) (λ roomy. absurd (omega (arith, spent, roomy)))
    | inr other ↦ rw (others t other) (others_unfilled slots rooms s t kept promised room other)
  ];
  apart = λ a b room-a room-b same. elim (cases_eq a s) [
    | inl a-is ↦ absurd (omega (arith, subst (λ (n : ℕ). (rooms' n).bytes ≡ 0) (sym a-is) spent, room-a))
    | inr a-other ↦ elim (cases_eq b s) [
      | inl b-is ↦ absurd (omega (arith, subst (λ (n : ℕ). (rooms' n).bytes ≡ 0) (sym b-is) spent, room-b))
      | inr b-other ↦ promised.apart a b (rw (others a a-other) at room-a) (rw (others b b-other) at room-b) (rw (others a a-other, others b b-other) at same)
    ]
  ];
}

-- the room of one session is another now
pub set_here : (rooms : List Room) (s : ℕ) (room : Room) → s < length rooms → room_in (slice_set rooms s room) s ≡ room
set_here rooms s room within = ap room_of (get_set_here rooms s room within)

pub set_elsewhere : (rooms : List Room) (s : ℕ) (room : Room) (other : ℕ) → other ≢ s → room_in (slice_set rooms s room) other ≡ room_in rooms other
set_elsewhere rooms s room other another = ap room_of (get_set_elsewhere rooms s other room another)
