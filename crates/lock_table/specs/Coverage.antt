-- Records that appear and go among locks that cover keys.
use Rattle.std.specs.Prelude.{◌≡◌, ℕ, true, false, ◌==◌, List, Some}
use Rattle.std.specs.List.{list_any, AllByRecursion}
use Rattle.inno_types.specs.declared.lock.LockKind.TheVariants.{Intent}
use Rattle.inno_types.specs.declared.lock.Spot.{Spot}
use Rattle.inno_types.specs.declared.lock.Lock.{Lock}
use Rattle.lock_rules.specs.Kinds.{is_upper, locks_gap}
use Rattle.lock_rules.specs.Conflicts.{conflicts, kind_of}
use Rattle.lock_rules.specs.Coverage.{is_in_gap, stands_in, without_record}

-- the record of a key goes, and the next spot is the one that follows it
pub record IsRemoval (records : List (List ℕ)) (key : List ℕ) (gone next : Spot) : Type 0 where
  pub gone_key : gone.key ≡ Some key
  pub one_index : next.index ≡ gone.index
  pub follows : is_in_gap (without_record key records) next.key key ≡ true

-- a record of a key comes before the next spot
pub record IsInsertion (records : List (List ℕ)) (key : List ℕ) (new next : Spot) : Type 0 where
  pub new_key : new.key ≡ Some key
  pub one_index : next.index ≡ new.index
  pub next_stands : stands_in records next.key ≡ true
  pub follows : is_in_gap records next.key key ≡ true

-- the transaction's locks are those of REPEATABLE READ or SERIALIZABLE
abbrev pub AreUpper : ℕ → List Lock → Type 0
AreUpper txn locks = AllByRecursion (λ lock. (lock.txn == txn) ≡ true → is_upper lock.reason.level ≡ true) locks

-- each lock of a gap in the index is on a record of it, or on the supremum
abbrev pub StandOnRecords : ℕ → List (List ℕ) → List Lock → Type 0
StandOnRecords index records locks = AllByRecursion (λ lock. lock.spot.index ≡ index → locks_gap (kind_of lock) ≡ true → stands_in records lock.spot.key ≡ true) locks

-- the transaction may insert before the spot: nothing granted conflicts with its intention
pub record MayInsert (txn : ℕ) (next : Spot) (locks : List Lock) (intention : Lock) : Type 0 where
  pub own : intention.txn ≡ txn
  pub kind : intention.kind ≡ Intent
  pub spot : intention.spot ≡ next
  pub free : list_any (λ held. conflicts held intention) locks ≡ false
