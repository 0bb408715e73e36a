-- What becomes of locks when records appear and go.
use Rattle.std.specs.Prelude.{ℕ, Bool, false, ◌==◌, ◌&&◌, ◌||◌, not, if◌then◌else◌, Option, None, Some, List, [], ◌∷◌, ◌++◌, filter, count_by}
use Rattle.inno_types.specs.declared.lock.LockKind.TheVariants.{Gap}
use Rattle.inno_types.specs.declared.lock.Spot.{Spot}
use Rattle.inno_types.specs.declared.lock.Lock.{Lock}
use Rattle.lock_rules.specs.declared.rule.Rule.TheVariants.{Inserted, DuplicateCheck, Changed, RecordWent, CopiedOnInsert}
use Rattle.lock_rules.specs.Kinds.{is_upper, is_intent, locks_gap}
use Rattle.lock_rules.specs.Spots.{same_spot}
use Rattle.lock_rules.specs.Rules.{number_of}
use Rattle.lock_table.specs.Queue.{Lists, serve, without, is_covered}

-- the lock of a record that the rollback of its own transaction removes
abbrev pub is_undone : Option ℕ → Lock → Bool
is_undone None lock = false
is_undone (Some txn) lock = lock.txn == txn && (lock.reason.rule == number_of Inserted || lock.reason.rule == number_of Changed)

-- at the lower levels few locks outlive their record
abbrev pub outlives_record : Lock → Bool
outlives_record lock =
    is_upper lock.reason.level || lock.reason.rule == number_of DuplicateCheck || lock.reason.rule == number_of RecordWent || lock.reason.rule == number_of CopiedOnInsert

-- the lock becomes a gap lock when its record goes: by the rollback of this transaction, or by purge
abbrev pub becomes_gap : Option ℕ → Lock → Bool
becomes_gap by lock = not (is_intent lock.kind) && not (is_undone by lock) && outlives_record lock

-- the lock as a gap lock on another spot, by this rule
abbrev pub as_gap : ℕ → Spot → Lock → Lock
as_gap rule spot lock =
    record { txn = lock.txn; spot = spot; kind = Gap; mode = lock.mode; reason = record { rule = rule; item = lock.reason.item; level = lock.reason.level } }

-- of these locks, in order, those that no granted lock of their transaction covers, nor one of these that is granted before
abbrev pub uncovered : List Lock → List Lock → List Lock
uncovered held [] = []
uncovered held (lock ∷ locks) = if is_covered held lock then uncovered held locks else lock ∷ uncovered (held ++ lock ∷ []) locks

-- A record goes: each lock on it becomes a gap lock on the next spot, or goes. It goes, too, where another granted lock of its transaction
-- covers that gap lock. The first ones are done.
abbrev pub moved_on : Option ℕ → Spot → Spot → List Lock → List Lock → List Lock
moved_on by gone next done [] = done
moved_on by gone next done (lock ∷ locks) =
    if same_spot lock.spot gone then (
    if becomes_gap by lock && not (is_covered done (as_gap (number_of RecordWent) next lock) || is_covered locks (as_gap (number_of RecordWent) next lock))
    then moved_on by gone next (done ++ as_gap (number_of RecordWent) next lock ∷ []) locks else moved_on by gone next done locks)
    else moved_on by gone next (done ++ lock ∷ []) locks

abbrev pub moved : Option ℕ → Spot → Spot → List Lock → List Lock
moved by gone next locks = moved_on by gone next [] locks

-- a record goes: each request on it ends its wait, and gives the gap lock that its lock would have become
abbrev pub left_by : Option ℕ → Spot → Spot → List Lock → List Lock
left_by by gone next [] = []
left_by by gone next (asked ∷ queue) =
    if same_spot asked.spot gone && becomes_gap by asked then as_gap (number_of RecordWent) next asked ∷ left_by by gone next queue else left_by by gone next queue

-- the requests on other spots
abbrev pub elsewhere : Spot → List Lock → List Lock
elsewhere gone queue = filter (λ asked. not (same_spot asked.spot gone)) queue

abbrev pub after_removal : Option ℕ → Spot → Spot → List Lock → List Lock → Lists
after_removal by gone next granted waiting =
    serve (moved by gone next granted ++ uncovered (moved by gone next granted) (left_by by gone next waiting)) [] (elsewhere gone waiting)

-- the lock is one of the transaction, of the gap before the spot
abbrev pub is_own_gap : ℕ → Spot → Lock → Bool
is_own_gap txn next lock = lock.txn == txn && same_spot lock.spot next && locks_gap lock.kind

-- how many such locks there are
abbrev pub own_gaps : ℕ → Spot → List Lock → ℕ
own_gaps txn next locks = count_by (is_own_gap txn next) locks

-- the transaction's own locks of the gap before the next spot, as gap locks on the new one
abbrev pub own_copies : ℕ → Spot → Spot → List Lock → List Lock
own_copies txn new next [] = []
own_copies txn new next (lock ∷ locks) =
    if lock.txn == txn && same_spot lock.spot next && locks_gap lock.kind then as_gap (number_of CopiedOnInsert) new lock ∷ own_copies txn new next locks
    else own_copies txn new next locks

-- a record is inserted: the inserter's own locks of the gap on the next spot are copied to the record, but for copies that a granted lock covers
abbrev pub copies : ℕ → Spot → Spot → List Lock → List Lock
copies txn new next granted = uncovered granted (own_copies txn new next granted)

-- a transaction ends: its locks and its request go, and requests are granted in order
abbrev pub after_end : ℕ → List Lock → List Lock → Lists
after_end txn granted waiting = serve (without txn granted) [] (without txn waiting)
