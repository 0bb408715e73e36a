-- What holds of a world at all times is kept where one session changes.
use Rattle.std.proofs.Common.{◌≡◌, ◌≢◌, ℕ, zero, suc, ◌+◌, ◌<◌, ◌≤◌, ◌^◌, ◌⊎◌, List, [], ◌∷◌, ◌++◌, length, length-append, Option, None, Some, refl, ap, sym, ◌∙◌, subst, arith, inl, inr}
use Rattle.std.specs.Prelude.{slice_get, slice_set}
use Rattle.std.specs.List.{sum_by}
use Rattle.std.proofs.Math.ListN.{get_or}
use Rattle.std.proofs.lemmas.Bool.{cases_eq}
use Rattle.std.proofs.lemmas.List.{length-set}
use Rattle.std.proofs.lemmas.List.Sums.{sum_by-set, sum_by-cons, sum_by_push}
use Rattle.std.proofs.lemmas.Option.{slice_get_within, get_or_from_slice_get}
use Rattle.world.specs.State.{Session, txn_of}
use Rattle.world_parts.specs.Owed.{owed_of, owed_by_all, puts_of, puts_of_all}
use Rattle.world_parts.specs.Holding.{AreApart, HaveBegun, txn_in, txn_at}
use Rattle.index_store.specs.declared.room.Room.{Room}
use Rattle.parts_world.specs.Parts.{Parts, Queue, HasRoom, HaveRooms, IsSound}
use Rattle.index_store.proofs.Places.{get_set_here, get_set_elsewhere, element}

-- a session of a world, as it stands in its parts
pub there_of : {S : Type 0} {p q : Parts S} (s : ℕ) (session : Session) → p ≡ q → slice_get q.sessions s ≡ Some session → slice_get p.sessions s ≡ Some session
there_of {S} s session same there = subst (λ (r : Parts S). slice_get r.sessions s ≡ Some session) (sym same) there

-- what was read of it
pub read_of : {S : Type 0} {p q : Parts S} (s : ℕ) (session read : Session) → p ≡ q → slice_get q.sessions s ≡ Some session → read ≡ get_or p.sessions s read → read ≡ session
read_of {p = p} s session read same there is = element p.sessions s session read (there_of s session same there) is

-- a sum over sessions of which one is another now
pub sum_set : (f : Session → ℕ) (sessions : List Session) (s : ℕ) (old new : Session) → slice_get sessions s ≡ Some old
    → sum_by f (slice_set sessions s new) + f old ≡ sum_by f sessions + f new
sum_set f sessions s old new there =
    let at = sum_by-set f sessions s new old (slice_get_within sessions s old there) in
    rw (get_or_from_slice_get sessions s old old there) at at

-- a session's part of a sum
pub part_le : (f : Session → ℕ) (sessions : List Session) (s : ℕ) (session : Session) → slice_get sessions s ≡ Some session → f session ≤ sum_by f sessions
part_le f [] s session there = absurd (cc)
part_le f (first ∷ sessions) zero session there = let e : first ≡ session = cc in omega (arith, sum_by-cons f first sessions, ap f e)
part_le f (first ∷ sessions) (suc s) session there = omega (arith, sum_by-cons f first sessions, part_le f sessions s session there)

-- no transaction is new
abbrev pub OpensNone : Session → Session → Type 0
OpensNone old new = (txn : ℕ) → txn_of new.work ≡ Some txn → txn_of old.work ≡ Some txn

opens_none_at : (sessions : List Session) (s t txn : ℕ) (old new : Session) → slice_get sessions s ≡ Some old → OpensNone old new
    → txn_at (slice_set sessions s new) t ≡ Some txn → txn_at sessions t ≡ Some txn
opens_none_at sessions s t txn old new there opens at = elim (cases_eq t s) [
  | inl is ↦ rw (is, there) (opens txn (rw (is, get_set_here sessions s new (slice_get_within sessions s old there)) at at))
  | inr other ↦ sym (ap txn_in (get_set_elsewhere sessions s t new other)) ∙ at
]

-- a place that was set twice
pub set_twice : {X : Type 0} (xs : List X) (i : ℕ) (x y : X) → slice_set (slice_set xs i x) i y ≡ slice_set xs i y
set_twice [] i x y = refl
set_twice (first ∷ xs) zero x y = refl
set_twice (first ∷ xs) (suc i) x y = ap (λ (rest : List _). first ∷ rest) (set_twice xs i x y)

-- ---- rooms for undo records

-- a session of which one is another now: it is that one, or was there before
set_cases : (sessions : List Session) (s t : ℕ) (old new session : Session) → slice_get sessions s ≡ Some old
    → slice_get (slice_set sessions s new) t ≡ Some session
    → ((t ≡ s) × (new ≡ session)) ⊎ ((t ≢ s) × (slice_get sessions t ≡ Some session))
set_cases sessions s t old new session there is = elim (cases_eq t s) [
  | inl same ↦ let here : Some new ≡ Some session =
      sym (get_set_here sessions s new (slice_get_within sessions s old there)) ∙ subst (λ (n : ℕ). slice_get (slice_set sessions s new) n ≡ Some session)
      same is in
      let eq : new ≡ session = cc in inl (same, eq)
  | inr other ↦ inr (other, sym (get_set_elsewhere sessions s t new other) ∙ is)
]

-- the store has room for one session otherwise, as that session knows, and for the others as before
pub rooms_set : (rooms rooms' : ℕ → Room) (sessions : List Session) (s : ℕ) (old new : Session) → HaveRooms rooms sessions → slice_get sessions s ≡ Some old
    → HasRoom (rooms' s) new → ((other : ℕ) → other ≢ s → rooms' other ≡ rooms other) → HaveRooms rooms' (slice_set sessions s new)
rooms_set rooms rooms' sessions s old new have there mine others t session is = elim (set_cases sessions s t old new session there is) [
  | inl here ↦ rw here.0 (subst (HasRoom (rooms' s)) here.1 mine)
  | inr was ↦ rw (others t was.0) (have t session was.1)
]

-- the session knows of its room what it knew
pub rooms_same : (rooms : ℕ → Room) (sessions : List Session) (s : ℕ) (old new : Session) → HaveRooms rooms sessions → slice_get sessions s ≡ Some old
    → new.undo_room ≡ old.undo_room → new.next_pointer ≡ old.next_pointer → HaveRooms rooms (slice_set sessions s new)
rooms_same rooms sessions s old new have there room pointer =
    rooms_set rooms rooms sessions s old new have there (rw (room, pointer) (have s old there)) (λ other another. refl)

-- the session has used its room
pub rooms_spent : (rooms rooms' : ℕ → Room) (sessions : List Session) (s : ℕ) (old new : Session) → HaveRooms rooms sessions → slice_get sessions s ≡ Some old
    → new.undo_room ≡ 0 → ((other : ℕ) → other ≢ s → rooms' other ≡ rooms other) → HaveRooms rooms' (slice_set sessions s new)
rooms_spent rooms rooms' sessions s old new have there spent others =
    rooms_set rooms rooms' sessions s old new have there (λ roomy. absurd (omega (arith, spent, roomy))) others

-- ---- the whole

-- One session is another now, which has opened nothing, and what is owed to it has changed by so much.
pub sound_set : (room rows : ℕ) (rooms : ℕ → Room) (begun : ℕ) (queue : Queue) (sessions : List Session) (s : ℕ) (old new : Session)
    (room' rows' : ℕ) (rooms' : ℕ → Room)
    → IsSound room rows rooms begun queue sessions → slice_get sessions s ≡ Some old
    → OpensNone old new → HaveRooms rooms' (slice_set sessions s new)
    → owed_by_all sessions + queue.requests + owed_of new ≤ room' + owed_of old → owed_by_all sessions + queue.requests + owed_of new < 2 ^ 64 + owed_of old
    → rows' + (puts_of_all sessions + puts_of new) < 2 ^ 64 + puts_of old
    → IsSound room' rows' rooms' begun queue (slice_set sessions s new)
sound_set room rows rooms begun queue sessions s old new room' rows' rooms' sound there opens roomy enough small counted = record {
  few = rw length-set sound.few;
  enough = omega (arith, sum_set owed_of sessions s old new there, enough);
  small = omega (arith, sum_set owed_of sessions s old new there, small);
  victims = sound.victims;
  counted = omega (arith, sum_set puts_of sessions s old new there, counted);
  apart =
      λ a b txn at-a at-b. sound.apart a b txn (opens_none_at sessions s a txn old new there opens at-a)
      (opens_none_at sessions s b txn old new there opens at-b);
  are_begun = λ a txn at-a. sound.are_begun a txn (opens_none_at sessions s a txn old new there opens at-a);
  roomy = roomy;
}

-- One session is another now, to which no more is owed, and all else but slots is as it was.
pub sound_quiet : (room rows : ℕ) (rooms : ℕ → Room) (begun : ℕ) (queue : Queue) (sessions : List Session) (s : ℕ) (old new : Session)
    (rooms' : ℕ → Room)
    → IsSound room rows rooms begun queue sessions → slice_get sessions s ≡ Some old
    → OpensNone old new → HaveRooms rooms' (slice_set sessions s new) → owed_of new ≤ owed_of old → puts_of new ≡ puts_of old
    → IsSound room rows rooms' begun queue (slice_set sessions s new)
sound_quiet room rows rooms begun queue sessions s old new rooms' sound there opens roomy owes puts =
    sound_set room rows rooms begun queue sessions s old new room rows rooms' sound there opens roomy
    (omega (arith, sound.enough, owes)) (omega (arith, sound.small, owes)) (omega (arith, sound.counted, puts))

-- the store has the same rooms
pub sound_rooms : (room rows : ℕ) (rooms rooms' : ℕ → Room) (begun : ℕ) (queue : Queue) (sessions : List Session)
    → IsSound room rows rooms begun queue sessions → rooms' ≡ rooms → IsSound room rows rooms' begun queue sessions
sound_rooms room rows rooms rooms' begun queue sessions sound same = rw same sound

-- There are no more requests than before, or the history has room for each that has come.
pub sound_queue : (room rows : ℕ) (rooms : ℕ → Room) (begun : ℕ) (queue : Queue) (sessions : List Session) (room' : ℕ) (queue' : Queue)
    → IsSound room rows rooms begun queue sessions
    → owed_by_all sessions + queue'.requests ≤ room' → owed_by_all sessions + queue'.requests < 2 ^ 64 → queue'.fallen + queue'.requests ≤ queue'.places
    → IsSound room' rows rooms begun queue' sessions
sound_queue room rows rooms begun queue sessions room' queue' sound enough small victims = record {
  few = sound.few;
  enough = enough;
  small = small;
  victims = victims;
  counted = sound.counted;
  apart = sound.apart;
  are_begun = sound.are_begun;
  roomy = sound.roomy;
}

-- there are no more requests than before
pub sound_fewer : (room rows : ℕ) (rooms : ℕ → Room) (begun : ℕ) (queue : Queue) (sessions : List Session) (queue' : Queue)
    → IsSound room rows rooms begun queue sessions
    → queue'.requests ≤ queue.requests → queue'.fallen ≤ queue.fallen → queue.places ≤ queue'.places
    → IsSound room rows rooms begun queue' sessions
sound_fewer room rows rooms begun queue sessions queue' sound requests fallen places =
    sound_queue room rows rooms begun queue sessions room queue' sound (omega (arith, sound.enough, requests))
    (omega (arith, sound.small, requests)) (omega (arith, sound.victims, requests, fallen, places))

-- ---- a transaction that begins

begun_at : (sessions : List Session) (s t txn next : ℕ) (old new : Session) → slice_get sessions s ≡ Some old → txn_of new.work ≡ Some next
    → txn_at (slice_set sessions s new) t ≡ Some txn → ((t ≡ s) × (txn ≡ next)) ⊎ (txn_at sessions t ≡ Some txn)
begun_at sessions s t txn next old new there opened at = elim (cases_eq t s) [
  | inl is ↦ inl (is, (let e : txn_of new.work ≡ Some txn = rw (is, get_set_here sessions s new (slice_get_within sessions s old there)) at at in cc))
  | inr other ↦ inr (sym (ap txn_in (get_set_elsewhere sessions s t new other)) ∙ at)
]

begun_apart : (sessions : List Session) (s begun : ℕ) (old new : Session) → slice_get sessions s ≡ Some old → txn_of new.work ≡ Some (begun + 1)
    → AreApart sessions → HaveBegun sessions begun → AreApart (slice_set sessions s new)
begun_apart sessions s begun old new there opened apart all a b txn at-a at-b =
    elim (begun_at sessions s a txn (begun + 1) old new there opened at-a) [
      | inl here ↦ elim (begun_at sessions s b txn (begun + 1) old new there opened at-b) [
        | inl also ↦ here.0 ∙ sym also.0
        | inr was ↦ absurd (omega (arith, all b txn was, here.1))
      ]
      | inr was ↦ elim (begun_at sessions s b txn (begun + 1) old new there opened at-b) [
        | inl here ↦ absurd (omega (arith, all a txn was, here.1))
        | inr also ↦ apart a b txn was also
      ]
    ]

begun_all : (sessions : List Session) (s begun : ℕ) (old new : Session) → slice_get sessions s ≡ Some old → txn_of new.work ≡ Some (begun + 1)
    → HaveBegun sessions begun → HaveBegun (slice_set sessions s new) (begun + 1)
begun_all sessions s begun old new there opened all a txn at-a =
    elim (begun_at sessions s a txn (begun + 1) old new there opened at-a) [
      | inl here ↦ omega (arith, here.1)
      | inr was ↦ omega (arith, all a txn was)
    ]

pub sound_begun : (room rows : ℕ) (rooms : ℕ → Room) (begun : ℕ) (queue : Queue) (sessions : List Session) (s : ℕ) (old new : Session)
    → IsSound room rows rooms begun queue sessions → slice_get sessions s ≡ Some old
    → txn_of new.work ≡ Some (begun + 1) → HaveRooms rooms (slice_set sessions s new) → owed_of new ≤ owed_of old → puts_of new ≡ puts_of old
    → IsSound room rows rooms (begun + 1) queue (slice_set sessions s new)
sound_begun room rows rooms begun queue sessions s old new sound there opened roomy owes puts = record {
  few = rw length-set sound.few;
  enough = omega (arith, sum_set owed_of sessions s old new there, sound.enough, owes);
  small = omega (arith, sum_set owed_of sessions s old new there, sound.small, owes);
  victims = sound.victims;
  counted = omega (arith, sum_set puts_of sessions s old new there, sound.counted, puts);
  apart = begun_apart sessions s begun old new there opened sound.apart sound.are_begun;
  are_begun = begun_all sessions s begun old new there opened sound.are_begun;
  roomy = roomy;
}

-- ---- the calls of the engine

-- a session of those to which one was added
joined_at : (sessions : List Session) (new session : Session) (t : ℕ) → slice_get (sessions ++ new ∷ []) t ≡ Some session
    → (new ≡ session) ⊎ (slice_get sessions t ≡ Some session)
joined_at [] new session zero is = inl (cc)
joined_at [] new session (suc t) is = absurd (cc)
joined_at (first ∷ sessions) new session zero is = inr is
joined_at (first ∷ sessions) new session (suc t) is = joined_at sessions new session t is

txn_found : (found : Option Session) (txn : ℕ) → txn_in found ≡ Some txn → (session : Session) × (found ≡ Some session) × (txn_of session.work ≡ Some txn)
txn_found None txn is = absurd (cc)
txn_found (Some session) txn is = (session, refl, is)

joined_txn : (sessions : List Session) (new : Session) (t txn : ℕ) → new.work ≡ None → txn_at (sessions ++ new ∷ []) t ≡ Some txn → txn_at sessions t ≡ Some txn
joined_txn sessions new t txn idle at =
    let found = txn_found (slice_get (sessions ++ new ∷ []) t) txn at in
    elim (joined_at sessions new found.0 t found.1) [
      | inl same ↦ absurd (let none : txn_of new.work ≡ Some txn = rw same found.2 in let both = rw idle at none in cc)
      | inr was ↦ ap txn_in was ∙ found.2
    ]

pub sound_joined : (room rows : ℕ) (rooms : ℕ → Room) (begun : ℕ) (queue : Queue) (sessions : List Session) (new : Session)
    → IsSound room rows rooms begun queue sessions
    → length sessions < 68 → new.work ≡ None → new.undo_room ≡ 0 → owed_of new ≡ 0 → puts_of new ≡ 0
    → IsSound room rows rooms begun queue (sessions ++ new ∷ [])
sound_joined room rows rooms begun queue sessions new sound few idle spent owes puts = record {
  few = omega (arith, length-append sessions (new ∷ []), few);
  enough = omega (arith, sum_by_push owed_of sessions new, owes, sound.enough);
  small = omega (arith, sum_by_push owed_of sessions new, owes, sound.small);
  victims = sound.victims;
  counted = omega (arith, sum_by_push puts_of sessions new, puts, sound.counted);
  apart = λ a b txn at-a at-b. sound.apart a b txn (joined_txn sessions new a txn idle at-a) (joined_txn sessions new b txn idle at-b);
  are_begun = λ a txn at-a. sound.are_begun a txn (joined_txn sessions new a txn idle at-a);
  roomy = λ t session at. elim (joined_at sessions new session t at) [
    | inl same ↦ λ roomy. absurd (omega (arith, ap (λ (x : Session). x.undo_room) same, spent, roomy))
    | inr was ↦ sound.roomy t session was
  ];
}
