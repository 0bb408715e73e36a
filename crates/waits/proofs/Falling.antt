-- A world as transactions fall in it: sessions stay, and requests become fewer.
use Rattle.std.specs.Prelude.{◌≡◌, ℕ, ◌==◌, not, List, [], ◌∷◌, ◌++◌, map}
use Rattle.std.specs.List.{AllByRecursion}
use Rattle.std.proofs.Common.{refl, subst}
use Rattle.inno_types.specs.declared.lock.Lock.{Lock}
use Rattle.lock_table.specs.Queue.{serve, without}
use Rattle.lock_table.specs.declared.room.CycleRoom.{CycleRoom}
use Rattle.law_locks.specs.Settling.{after_rounds}
use Rattle.law_locks.proofs.Members.{IsIn, all_in, in_all, in_filter}
use Rattle.law_locks.proofs.Parts.{served_part}
use Rattle.world.specs.State.{WorldState}
use Rattle.world.specs.Locks.{fell}
use Rattle.waits.specs.Falls.{IsOpenAt, IsOwned, lists_of, after_falls, round_of, with_rooms}
use Rattle.waits.specs.declared.settling.Fallen.{Fallen}

abbrev AreOwned : WorldState → List Lock → Type 0
AreOwned state locks = AllByRecursion (λ (asked : Lock). IsOwned state asked.txn) locks

-- ---- sessions stay

pub open_again : (old new : WorldState) (s txn : ℕ) → new.sessions ≡ old.sessions → IsOpenAt old s txn → IsOpenAt new s txn
open_again old new s txn same is = record {
  session = is.session;
  work = is.work;
  has_work = record { session_is = rw same is.has_work.session_is; work_is = is.has_work.work_is };
  mine = is.mine;
}

pub owned_again : (old new : WorldState) (txn : ℕ) → new.sessions ≡ old.sessions → IsOwned old txn → IsOwned new txn
owned_again old new txn same is = record { session = is.session; open_at = open_again old new is.session txn same is.open_at }

-- the requests that are left are some of those that were there
pub left_owned : (old new : WorldState) (victim : ℕ) → new.sessions ≡ old.sessions
    → new.locks.waiting ≡ (serve old.locks.granted [] (without victim old.locks.waiting)).waiting → AreOwned old old.locks.waiting
    → AreOwned new new.locks.waiting
left_owned old new victim same left owned =
    in_all (λ (asked : Lock). IsOwned new asked.txn) new.locks.waiting (λ asked there.
    let part = served_part old.locks.granted [] (without victim old.locks.waiting) in
    let before = part.there asked (subst (λ (locks : List Lock). IsIn locks asked) left there) in
    let was = in_filter (λ (lock : Lock). not (lock.txn == victim)) old.locks.waiting asked before in
    owned_again old new asked.txn same (all_in (λ (asked : Lock). IsOwned old asked.txn) old.locks.waiting asked owned was.0))

-- ---- one after the other

pub sessions_after : (state : WorldState) (falls : List Fallen) → (after_falls state falls).sessions ≡ state.sessions
sessions_after state [] = refl
sessions_after state (fall ∷ falls) = sessions_after (fell fall.session fall.txn fall.told state) falls

pub lists_after : (state : WorldState) (falls : List Fallen) → lists_of (after_falls state falls) ≡ after_rounds (lists_of state) (map round_of falls)
lists_after state [] = refl
lists_after state (fall ∷ falls) = lists_after (fell fall.session fall.txn fall.told state) falls

pub one_more : (state : WorldState) (falls : List Fallen) (fall : Fallen)
    → after_falls state (falls ++ fall ∷ []) ≡ fell fall.session fall.txn fall.told (after_falls state falls)
one_more state [] fall = refl
one_more state (first ∷ falls) fall = one_more (fell first.session first.txn first.told state) falls fall

pub falls_then : (state : WorldState) (falls more : List Fallen) → after_falls state (falls ++ more) ≡ after_falls (after_falls state falls) more
falls_then state [] more = refl
falls_then state (first ∷ falls) more = falls_then (fell first.session first.txn first.told state) falls more

-- the rooms for cycles are all that a search changes
pub beside_rooms : (rooms : List CycleRoom) (state : WorldState) (falls : List Fallen)
    → after_falls (with_rooms rooms state) falls ≡ with_rooms rooms (after_falls state falls)
beside_rooms rooms state [] = refl
beside_rooms rooms state (fall ∷ falls) = beside_rooms rooms (fell fall.session fall.txn fall.told state) falls
