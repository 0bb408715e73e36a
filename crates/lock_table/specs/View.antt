-- What contracts see of a lock table, and what a request makes of it.
use Rattle.std.specs.Prelude.{◌≡◌, ◌≢◌, ◌+◌, ◌≤◌, ℕ, Bool, true, false, ◌&&◌, ◌||◌, ◌==◌, not, if◌then◌else◌, List, [], ◌∷◌, ◌++◌, length, map, filter}
use Rattle.std.specs.List.{list_any}
use Rattle.inno_types.specs.declared.lock.Lock.{Lock}
use Rattle.inno_types.specs.declared.lock.Edge.{Edge}
use Rattle.store_api.specs.declared.answers.Asked.{Asked}
use Rattle.store_api.specs.declared.answers.Asked.TheVariants.{Granted, Waits, NoMemory}
use Rattle.lock_rules.specs.declared.rule.Rule.TheVariants.{RecordWent, CopiedOnInsert}
use Rattle.lock_rules.specs.Kinds.{is_intent}
use Rattle.lock_rules.specs.Conflicts.{same_lock}
use Rattle.lock_rules.specs.Rules.{number_of}
use Rattle.inno_types.specs.declared.lock.Spot.{Spot}
use Rattle.lock_table.specs.declared.room.CycleRoom.{CycleRoom}
use Rattle.lock_table.specs.declared.wait.Wait.{Wait}
use Rattle.lock_table.specs.declared.wait.Wait.TheVariants.{Lasts, Served, RecordGone, Withdrawn}
use Rattle.lock_table.specs.Queue.{Lists, blockers, is_blocked, is_among, is_covered, is_waiting, edge_to, serve, without}
use Rattle.lock_table.specs.Records.{copies, after_end}
use Rattle.lock_table.specs.Room.{HasRooms, KeepsRooms}

pub record Table : Type 0 where
  -- the granted locks in order of grant
  pub granted : List Lock
  -- the requests that wait, in order
  pub waiting : List Lock
  -- the transactions whose last request that waited was taken back
  pub withdrawn : List ℕ
  -- the memory for cycles
  pub rooms : List CycleRoom
  -- the memory for locks: for so many that are granted or asked for
  pub capacity : ℕ

-- the table with these lists
abbrev pub with_lists : Table → Lists → Table
with_lists t lists = record { granted = lists.granted; waiting = lists.waiting; withdrawn = t.withdrawn; rooms = t.rooms; capacity = t.capacity }

-- the other transactions
abbrev pub others : ℕ → List ℕ → List ℕ
others txn txns = filter (λ other. not (other == txn)) txns

-- the transaction's request is taken back, and requests are granted in order
abbrev pub without_request : ℕ → Table → Table
without_request txn t = record (with_lists t (serve t.granted [] (without txn t.waiting))) {
  withdrawn = if is_waiting txn t.waiting then t.withdrawn ++ txn ∷ [] else t.withdrawn;
}

-- the transaction has ended: its locks and its request go, and requests are granted in order
abbrev pub without_transaction : ℕ → Table → Table
without_transaction txn t = record (with_lists t (after_end txn t.granted t.waiting)) { withdrawn = others txn t.withdrawn }

-- how it stands with a request that had to wait
abbrev pub wait_of : Table → Lock → Wait
wait_of t lock =
    if is_waiting lock.txn t.waiting then Lasts else if is_among lock.txn t.withdrawn then Withdrawn
    else if list_any (λ held. same_lock held lock) t.granted then Served else RecordGone

-- there is memory to grant so many locks more
abbrev pub HasPlaces : ℕ → Table → Type 0
HasPlaces locks t = length t.granted + length t.waiting + locks ≤ t.capacity

-- locks by two rules are never asked for: what becomes of a lock when its record goes, and copies
abbrev pub IsAskedFor : ℕ → Type 0
IsAskedFor rule = (rule ≢ number_of RecordWent) × (rule ≢ number_of CopiedOnInsert)

-- no granted lock covers the request, and something blocks it
abbrev pub must_wait : Table → Lock → Bool
must_wait t lock = not (is_covered t.granted lock) && is_blocked t.granted t.waiting lock

-- A lock that is covered adds nothing, nor does an insert intention: it blocks nobody and covers nothing. One that had to wait is kept once it is served.
abbrev pub granted_with : List Lock → Lock → List Lock
granted_with granted lock = if is_covered granted lock || is_intent lock.kind then granted else granted ++ lock ∷ []

-- the record of the lock's spot was inserted before the next one, by the lock's transaction: its own locks of the gap are copied, and it gets the lock
abbrev pub after_insertion : Spot → Lock → List Lock → List Lock
after_insertion next lock granted = granted_with (granted ++ copies lock.txn lock.spot next granted) lock

-- the lock is granted at once
pub record IsGranted (old new : Table) (lock : Lock) : Type 0 where
  pub free : must_wait old lock ≡ false
  pub lists : new ≡ record old { granted = granted_with old.granted lock; capacity = new.capacity }
  pub stays : old.capacity ≤ new.capacity

-- the lock is queued behind all requests; the answer has all its edges
pub record IsQueued (old new : Table) (lock : Lock) (edges : List Edge) : Type 0 where
  pub waits : must_wait old lock ≡ true
  pub edges_are : edges ≡ map (edge_to lock.txn) (blockers old.granted old.waiting lock)
  pub granted : new.granted ≡ old.granted
  pub waiting : new.waiting ≡ old.waiting ++ lock ∷ []
  pub withdrawn : new.withdrawn ≡ others lock.txn old.withdrawn
  pub rooms : HasRooms (length new.waiting) new.rooms
  pub stays : old.capacity ≤ new.capacity

-- want of memory changes nothing; there is as much memory as before
pub record IsRefused (old new : Table) (lock : Lock) : Type 0 where
  pub granted : new.granted ≡ old.granted
  pub waiting : new.waiting ≡ old.waiting
  pub withdrawn : new.withdrawn ≡ old.withdrawn
  pub rooms : KeepsRooms old.rooms new.rooms
  pub stays : old.capacity ≤ new.capacity
  -- a lock that need not wait is refused only where there was none for it
  pub full : must_wait old lock ≡ false → ¬ HasPlaces 1 old
  -- and an intention that need not wait never is
  pub kept : must_wait old lock ≡ false → is_intent lock.kind ≡ false

-- what a request is answered
abbrev pub IsAnswered : Table → Table → Lock → Asked → Type 0
IsAnswered old new lock Granted = IsGranted old new lock
IsAnswered old new lock (Waits edges) = IsQueued old new lock edges
IsAnswered old new lock NoMemory = IsRefused old new lock
