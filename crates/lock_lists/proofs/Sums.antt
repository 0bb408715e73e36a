-- What is looked for shares its number with its spot.
use Rattle.std.proofs.Common.{◌≡◌, true, ap}
use Rattle.std.specs.Prelude.{◌==◌, ◌&&◌, ◌||◌, not}
use Rattle.inno_types.specs.declared.lock.Lock.{Lock}
use Rattle.inno_types.specs.declared.lock.Spot.{Spot}
use Rattle.lock_rules.specs.Kinds.{is_shared, locks_gap, same_kind, same_mode}
use Rattle.lock_rules.specs.Spots.{same_spot}
use Rattle.lock_rules.specs.Conflicts.{conflicts, covers, same_lock, same_reason, kinds_conflict, kind_covers, kind_of}
use Rattle.lock_rules.proofs.Booleans.{first, second}
use Rattle.lock_rules.proofs.Beside.{spot_same}
use Rattle.lock_lists.specs.declared.sought.Sought.{Sought}
use Rattle.lock_lists.specs.declared.sought.Sought.TheVariants.{Blocking, Covering, CoveringOne, Same, At, OwnGap}
use Rattle.lock_lists.specs.Places.{sum_of}
use Rattle.lock_lists.specs.Looking.{passes, spot_of}

same_sum : (spot other : Spot) → same_spot spot other ≡ true → sum_of spot ≡ sum_of other
same_sum spot other same = ap sum_of (spot_same spot other same)

blocks_here : (held asked : Lock) → conflicts held asked ≡ true → sum_of held.spot ≡ sum_of asked.spot
blocks_here held asked is =
    same_sum held.spot asked.spot (second (not (held.txn == asked.txn)) (same_spot held.spot asked.spot)
    (first (not (held.txn == asked.txn) && same_spot held.spot asked.spot) (kinds_conflict (kind_of held) held.mode (kind_of asked) asked.mode) is))

covers_here : (held asked : Lock) → covers held asked ≡ true → sum_of held.spot ≡ sum_of asked.spot
covers_here held asked is =
    let own = held.txn == asked.txn in
    let here = same_spot held.spot asked.spot in
    let kinds = kind_covers (kind_of held) (kind_of asked) in
    same_sum held.spot asked.spot (second own here (first (own && here) kinds (first (own && here && kinds) (is_shared asked.mode || not (is_shared held.mode)) is)))

same_here : (lock other : Lock) → same_lock lock other ≡ true → sum_of lock.spot ≡ sum_of other.spot
same_here lock other is =
    let own = lock.txn == other.txn in
    let here = same_spot lock.spot other.spot in
    let kinds = same_kind lock.kind other.kind in
    let modes = same_mode lock.mode other.mode in
    same_sum lock.spot other.spot (second own here (first (own && here) kinds (first (own && here && kinds) modes
    (first (own && here && kinds && modes) (same_reason lock.reason other.reason) is))))

pub passes_here : (sought : Sought) (lock : Lock) → passes sought lock ≡ true → sum_of lock.spot ≡ sum_of (spot_of sought)
passes_here (Blocking asked) lock is = blocks_here lock asked.now is
passes_here (Covering asked) lock is = covers_here lock asked.now is
passes_here (CoveringOne asked) lock is = covers_here lock asked.now is
passes_here (Same other) lock is = same_here lock other.now is
passes_here (At spot) lock is = same_sum lock.spot spot.now is
passes_here (OwnGap txn spot) lock is =
    let own = lock.txn == txn in
    let here = same_spot lock.spot spot.now in
    same_sum lock.spot spot.now (second own here (first (own && here) (locks_gap lock.kind) is))
