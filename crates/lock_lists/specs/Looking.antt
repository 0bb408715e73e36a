-- What is looked for among granted locks.
use Rattle.std.specs.Prelude.{◌==◌, ◌&&◌, Bool}
use Rattle.inno_types.specs.declared.lock.Lock.{Lock}
use Rattle.inno_types.specs.declared.lock.Spot.{Spot}
use Rattle.lock_rules.specs.Kinds.{locks_gap}
use Rattle.lock_rules.specs.Spots.{same_spot}
use Rattle.lock_rules.specs.Conflicts.{conflicts, covers, same_lock}
use Rattle.lock_lists.specs.declared.sought.Sought.{Sought}
use Rattle.lock_lists.specs.declared.sought.Sought.TheVariants.{Blocking, Covering, CoveringOne, Same, At, OwnGap}

-- the lock is one that is looked for
abbrev pub passes : Sought → Lock → Bool
passes (Blocking asked) lock = conflicts lock asked.now
passes (Covering asked) lock = covers lock asked.now
passes (CoveringOne asked) lock = covers lock asked.now
passes (Same other) lock = same_lock lock other.now
passes (At spot) lock = same_spot lock.spot spot.now
passes (OwnGap txn spot) lock = lock.txn == txn && same_spot lock.spot spot.now && locks_gap lock.kind

-- where it stands
abbrev pub spot_of : Sought → Spot
spot_of (Blocking asked) = asked.now.spot
spot_of (Covering asked) = asked.now.spot
spot_of (CoveringOne asked) = asked.now.spot
spot_of (Same other) = other.now.spot
spot_of (At spot) = spot.now
spot_of (OwnGap txn spot) = spot.now
