-- Which locks conflict, and which lock makes a request needless.
use Rattle.std.specs.Prelude.{Bool, false, ◌==◌, ◌&&◌, ◌||◌, not, is_some, if◌then◌else◌}
use Rattle.inno_types.specs.declared.lock.LockKind.{LockKind}
use Rattle.inno_types.specs.declared.lock.LockKind.TheVariants.{Rec, Gap, NextKey, Intent}
use Rattle.inno_types.specs.declared.lock.Mode.{Mode}
use Rattle.inno_types.specs.declared.lock.Reason.{Reason}
use Rattle.inno_types.specs.declared.lock.Lock.{Lock}
use Rattle.lock_rules.specs.Kinds.{locks_record, locks_gap, is_shared, same_kind, same_mode, same_level}
use Rattle.lock_rules.specs.Spots.{same_spot}

-- what a lock of a kind locks: at the supremum, which is no record, a next-key lock is a gap lock
abbrev pub kind_at : Bool → LockKind → LockKind
kind_at has_record Rec = Rec
kind_at has_record Gap = Gap
kind_at has_record NextKey = if has_record then NextKey else Gap
kind_at has_record Intent = Intent

abbrev pub kind_of : Lock → LockKind
kind_of lock = kind_at (is_some lock.spot.key) lock.kind

-- of a lock held and one asked for at one spot: an insert intention waits for locks of the gap, a gap lock for
-- nothing, and locks of the record for each other, unless both are shared
abbrev pub kinds_conflict : LockKind → Mode → LockKind → Mode → Bool
kinds_conflict held mode Rec asked = locks_record held && not (is_shared mode && is_shared asked)
kinds_conflict held mode Gap asked = false
kinds_conflict held mode NextKey asked = locks_record held && not (is_shared mode && is_shared asked)
kinds_conflict held mode Intent asked = locks_gap held

-- the lock asked for may not be granted beside the other's that is held, or was asked for earlier
abbrev pub conflicts : Lock → Lock → Bool
conflicts held asked =
    not (held.txn == asked.txn) && same_spot held.spot asked.spot && kinds_conflict (kind_of held) held.mode (kind_of asked) asked.mode

-- a next-key lock covers a lock of its record and one of its gap; an insert intention is always asked for
abbrev pub kind_covers : LockKind → LockKind → Bool
kind_covers held Rec = locks_record held
kind_covers held Gap = locks_gap held
kind_covers held NextKey = locks_record held && locks_gap held
kind_covers held Intent = false

-- the transaction need not ask for this lock, since it holds that one
abbrev pub covers : Lock → Lock → Bool
covers held asked =
    held.txn == asked.txn && same_spot held.spot asked.spot && kind_covers (kind_of held) (kind_of asked) && (is_shared asked.mode || not (is_shared held.mode))

abbrev pub same_reason : Reason → Reason → Bool
same_reason reason other = reason.rule == other.rule && reason.item == other.item && same_level reason.level other.level

abbrev pub same_lock : Lock → Lock → Bool
same_lock lock other =
    lock.txn == other.txn && same_spot lock.spot other.spot && same_kind lock.kind other.kind && same_mode lock.mode other.mode && same_reason lock.reason other.reason
