-- How far each walk along the lists has come.
use Rattle.std.proofs.Common.{◌≡◌, ℕ, ◌+◌, ◌≤◌, List, [], ◌++◌, length, take, drop}
use Rattle.std.specs.Prelude.{Option}
use Rattle.inno_types.specs.declared.lock.Spot.{Spot}
use Rattle.inno_types.specs.declared.lock.Lock.{Lock}
use Rattle.lock_table.specs.Queue.{serve}
use Rattle.lock_table.specs.Records.{moved, moved_on, uncovered, own_copies, copies, own_gaps}

-- the requests before the place still wait, and to serve the rest gives what it gave from the start
pub record IsServed (held waiting now left : List Lock) (place before capacity : ℕ) : Type 0 where
  pub within : place ≤ length left
  pub same : serve now (take place left) (drop place left) ≡ serve held [] waiting
  pub room : length now + length left ≤ capacity
  pub fewer : length left ≤ length waiting
  pub stays : capacity ≡ before

-- the locks before the place are as they will be
pub record IsMoved (by : Option ℕ) (gone next : Spot) (old now : List Lock) (place before capacity : ℕ) : Type 0 where
  pub within : place ≤ length now
  pub same : moved_on by gone next (take place now) (drop place now) ≡ moved by gone next old
  pub fewer : length now ≤ length old
  pub stays : capacity ≡ before

-- the locks before the place are copied to the new spot, and there is room for the copies of the others
pub record IsCopied (txn : ℕ) (new next : Spot) (old now : List Lock) (place before capacity : ℕ) : Type 0 where
  pub done : List Lock
  pub items : now ≡ old ++ done
  pub same : done ++ uncovered now (own_copies txn new next (drop place old)) ≡ copies txn new next old
  pub room : length now + own_gaps txn next (drop place old) ≤ capacity
  pub stays : capacity ≡ before
