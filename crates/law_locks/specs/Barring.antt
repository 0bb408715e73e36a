-- What a transaction has changed, and the range that another one keeps.
use Rattle.std.specs.Prelude.{◌≡◌, ◌⊎◌, ℕ, true, List, Option, None, Some, length}
use Rattle.std.specs.List.{AllByRecursion}
use Rattle.inno_types.specs.declared.lock.Lock.{Lock}
use Rattle.inno_types.specs.declared.stmt.Range.{Range}
use Rattle.store_api.specs.declared.answers.Undo.{Undo}
use Rattle.lock_rules.specs.Coverage.{stands_in}
use Rattle.lock_rules.specs.Ranges.{is_within}
use Rattle.law_locks.specs.Guards.{Guarded, has_record, has_alone}

-- A row that a transaction has changed, as one index tells of it.
pub record ChangedRow : Type 0 where
  -- the key of its record in the clustered index
  pub key : List ℕ
  -- its entry before the first change, where there was a row
  pub before : Option (List ℕ)
  -- its entry behind each change, the newest first, where there is a row then
  pub behind : List (Option (List ℕ))

-- there is no row, or the entry is the one from before, or it stands and the transaction has it alone
abbrev pub IsOwnEntry : ℕ → ℕ → List (List ℕ) → List Lock → Option (List ℕ) → Option (List ℕ) → Type 0
IsOwnEntry txn index records locks before None = Unit {0}
IsOwnEntry txn index records locks before (Some entry) =
    (before ≡ Some entry) ⊎ ((stands_in records (Some entry) ≡ true) × (has_alone txn index entry locks ≡ true))

-- the transaction has the row's record alone, and each entry that it has given the row
pub record Owns (txn clustered index : ℕ) (records : List (List ℕ)) (locks : List Lock) (row : ChangedRow) : Type 0 where
  pub alone : has_alone txn clustered row.key locks ≡ true
  pub entries : AllByRecursion (IsOwnEntry txn index records locks row.before) row.behind

-- Keys that may stand in the index of this number of a table. The keys of the clustered one, of number 0, have one width: a longer list of bytes that
-- begins with such a key lies in a range of that one key, too, and a lock of its record doesn't guard it; but no record has such a key.
abbrev pub MayBeKey : ℕ → ℕ → List ℕ → Type 0
MayBeKey width which key = which ≡ 0 → length key ≡ width

-- The transaction has searched the range of the index when its log had so many records, and keeps each of these keys that lies in it.
abbrev pub KeepsRange : (List ℕ → Type 0) → ℕ → ℕ → List (List ℕ) → List Lock → Range → ℕ → List Undo → Type 0
KeepsRange may txn index records locks range made log =
    (key : List ℕ) → may key → is_within range (Some key) ≡ true → Guarded txn index records locks key made log

-- where the row was in the range before it was changed, the transaction has locked its record
abbrev pub KeepsRow : ℕ → ℕ → List Lock → Range → ChangedRow → Type 0
KeepsRow txn clustered locks range row =
    (entry : List ℕ) → row.before ≡ Some entry → is_within range (Some entry) ≡ true → has_record txn clustered row.key locks ≡ true
