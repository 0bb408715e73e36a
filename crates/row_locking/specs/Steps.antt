-- What a step of a search that locks does: which key the lock names that it asks for, by which rule, and how the search goes on.
use Rattle.std.specs.Prelude.{◌≡◌, ◌≢◌, ◌⊎◌, ℕ, ◌<◌, Bool, true, false, List, [], ◌∷◌, length, Option, None, Some, is_none}
use Rattle.std.specs.List.Sorted.{IsPermutation, IsSortedBy}
use Rattle.std.specs.Ordering.{is_lt}
use Rattle.std.specs.{declared.vec.Vec.Vec, declared.alloc.Global.Global}
use Rattle.inno_types.specs.{declared.lock.Lock.Lock, declared.value.Schema.Schema}
use Rattle.inno_db.specs.Indexes.{index_of}
use Rattle.store_api.specs.{declared.stepped.Stepped.Stepped}
use Rattle.store_api.specs.declared.moves.Move.TheVariants.{NoMemory}
use Rattle.store_api.specs.declared.stepped.Stepped.TheVariants.{Went, Done, Hindered}
use Rattle.entries.specs.{Pairs.Pair, Pairs.key_cmp, Calls.Leaves}
use Rattle.row_codec.specs.declared.refused.RowBad.{RowBad}
use Rattle.row_codec.specs.declared.refused.RowBad.TheVariants as bad
use Rattle.lock_rules.specs.declared.rule.Rule.TheVariants.{ClusteredOfEntry}
use Rattle.world.specs.{State.WorldState, Indexes.Calls, Locks.Asks}
use Rattle.world.specs.declared.lock_world.LockAnswer.TheVariants as answer
use Rattle.row_search.specs.{declared.found.FoundRow.FoundRow, Ranges.primary_part, Steps.OnlyMoves}
use Rattle.row_locking.specs.declared.search.LockingSearch.{LockingSearch}
use Rattle.row_locking.specs.declared.search.Hindrance.{Hindrance}
use Rattle.row_locking.specs.declared.search.Hindrance.TheVariants.{Call, Waits, Malformed}
use Rattle.row_locking.specs.declared.phase.LockingPhase.{LockingPhase}
use Rattle.row_locking.specs.declared.phase.LockingPhase.TheVariants.{Next, Row, Sort, Leave}
use Rattle.row_locking.specs.declared.bounds.Side.{Side}
use Rattle.row_locking.specs.declared.bounds.Side.TheVariants.{Before, Within, Behind}
use Rattle.row_locking.specs.Rules.{lock_by, TellsOneKey, rule_within, rule_past}
use Rattle.row_locking.specs.Searches.{MayLock}
use Rattle.row_locking.specs.Comes.{IsOnSide, LiesPast, key_at, Meets, Reads}
use Rattle.row_locking.specs.Kept.{IsKept, IsNoRecord, kept_with}

-- how far a step came
abbrev pub Came : Type 0
Came = Stepped (Vec FoundRow Global) Hindrance

abbrev pub refused_by : RowBad → Came
refused_by bad.NoMemory = Hindered (Call NoMemory)
refused_by bad.Shape = Hindered Malformed

-- behind a record of a search for one key no other lies in the range
abbrev pub phase_behind : Bool → LockingPhase
phase_behind true = Sort
phase_behind false = Next

-- ---- which key a lock of a step may name, and by which rule

-- at a record in the range: that record
pub record NamesRecord (schema : Schema) (search : LockingSearch) (pair : Pair) (marked : Bool) (lock : Lock) : Type 0 where
  pub within : IsOnSide search.scan.range pair.0 Within
  pub one : Bool
  pub one_is : TellsOneKey schema search.scan.which search.scan.range one
  pub lock_is : lock ≡ lock_by search.asker (rule_within one marked)
      (record { index = index_of search.scan.table search.scan.which; key = Some pair.0 })

-- past the range: the gap before the first record there, or before the supremum
pub record NamesPast (schema : Schema) (search : LockingSearch) (place : Option Pair) (lock : Lock) : Type 0 where
  pub past : LiesPast search.scan.range place
  pub one : Bool
  pub one_is : TellsOneKey schema search.scan.which search.scan.range one
  pub lock_is : lock ≡ lock_by search.asker (rule_past one) (record { index = index_of search.scan.table search.scan.which; key = key_at place })

-- at an entry that is locked: its clustered record
abbrev pub NamesRecordOf : Schema → LockingSearch → List ℕ → Lock → Type 0
NamesRecordOf schema search entry lock =
    lock ≡ lock_by search.asker ClusteredOfEntry (record { index = index_of search.scan.table 0; key = Some (primary_part schema entry) })

-- ---- how the search goes on

-- It has passed this key, and perhaps kept a row.
pub record Passes (search next : LockingSearch) (key : List ℕ) (found : Option FoundRow) (phase : LockingPhase) : Type 0 where
  pub next_is : next ≡ record search { scan = record search.scan { rows = next.scan.rows }; passed = Some key; phase = phase }
  pub rows_are : next.scan.rows.items ≡ kept_with search.scan.rows.items found

-- In the clustered index the pair is a record: it is locked, and its row is kept where it isn't marked.
pub record LocksRecord (now : ℕ) (schema : Schema) (met new : WorldState) (search next : LockingSearch) (pair : Pair) : Type 0 where
  pub clustered : search.scan.which ≡ 0
  pub found : Option FoundRow
  pub kept : IsKept schema 0 pair.0 (Some pair.1) found
  pub lock : Lock
  pub names : NamesRecord schema search pair (is_none found) lock
  pub asks : Asks search.asker.session lock now met new answer.Granted
  pub passes : Passes search next pair.0 found (phase_behind names.one)

-- a marked entry is passed, and another one's record comes next
abbrev pub GoesBehind : LockingSearch → LockingSearch → Pair → Bool → Type 0
GoesBehind search next pair true = (pair.1 ≡ 1 ∷ []) × Passes search next pair.0 None Next
GoesBehind search next pair false = (pair.1 ≢ 1 ∷ []) × (next ≡ record search { phase = Row pair.0 })

-- In the index of a key the pair is an entry: it is locked.
pub record LocksEntry (now : ℕ) (schema : Schema) (met new : WorldState) (search next : LockingSearch) (pair : Pair) : Type 0 where
  pub keyed : search.scan.which ≢ 0
  pub marked : Bool
  pub lock : Lock
  pub names : NamesRecord schema search pair marked lock
  pub asks : Asks search.asker.session lock now met new answer.Granted
  pub goes : GoesBehind search next pair marked

-- The gap past the range is locked, and no pair is left.
pub record LocksPast (now : ℕ) (schema : Schema) (met new : WorldState) (search next : LockingSearch) (place : Option Pair) : Type 0 where
  pub lock : Lock
  pub names : NamesPast schema search place lock
  pub asks : Asks search.asker.session lock now met new answer.Granted
  pub next_is : next ≡ record search { phase = Sort }

-- by where the pair lies: one before the range is passed without a lock
abbrev pub GoesAt : ℕ → Schema → WorldState → WorldState → LockingSearch → LockingSearch → Option Pair → Side → Type 0
GoesAt now schema met new search next (Some pair) Before =
    IsOnSide search.scan.range pair.0 Before × (new ≡ met) × Passes search next pair.0 None Next
GoesAt now schema met new search next (Some pair) Within =
    LocksRecord now schema met new search next pair ⊎ LocksEntry now schema met new search next pair
GoesAt now schema met new search next place Behind = LocksPast now schema met new search next place
GoesAt now schema met new search next None side = ⊥

-- to the first pair that was not passed
pub record GoesToNext (now : ℕ) (schema : Schema) (old new : WorldState) (search next : LockingSearch) : Type 0 where
  pub met : WorldState
  pub place : Option Pair
  pub meets : Meets schema old met search place
  pub side : Side
  pub goes : GoesAt now schema met new search next place side

-- The record of an entry is locked, and its row is kept where it stands and the entry is its own.
pub record LocksRow (now : ℕ) (schema : Schema) (old new : WorldState) (search next : LockingSearch) (entry : List ℕ) : Type 0 where
  pub met : WorldState
  pub read : Option (List ℕ)
  pub reads : Reads schema old met search entry read
  pub found : Option FoundRow
  pub kept : IsKept schema search.scan.which entry read found
  pub lock : Lock
  pub names : NamesRecordOf schema search entry lock
  pub asks : Asks search.asker.session lock now met new answer.Granted
  pub passes : Passes search next entry found Next

-- the rows in the order of their keys: as they were found in the clustered index, and sorted else
abbrev pub AreInOrder : ℕ → List FoundRow → List FoundRow → Type 0
AreInOrder which found rows =
    ((which ≡ 0) × (rows ≡ found))
    ⊎ ((which ≢ 0) × IsPermutation found rows × IsSortedBy (λ (a b : FoundRow). is_lt (key_cmp a.key b.key)) rows)

pub record Sorts (old new : WorldState) (search next : LockingSearch) : Type 0 where
  pub world : new ≡ old
  pub next_is : next ≡ record search { scan = record search.scan { rows = next.scan.rows }; phase = Leave }
  pub order : AreInOrder search.scan.which search.scan.rows.items next.scan.rows.items

abbrev pub GoesFrom : ℕ → Schema → WorldState → WorldState → LockingSearch → LockingSearch → LockingPhase → Type 0
GoesFrom now schema old new search next Next = GoesToNext now schema old new search next
GoesFrom now schema old new search next (Row entry) = LocksRow now schema old new search next entry
GoesFrom now schema old new search next Sort = Sorts old new search next
GoesFrom now schema old new search next Leave = ⊥

-- The step went, and the next one may be made.
pub record GoesOn (now : ℕ) (schema : Schema) (old new : WorldState) (search next : LockingSearch) : Type 0 where
  pub may : MayLock schema new next
  pub goes : GoesFrom now schema old new search next search.phase

-- The search is over. The session has no place in the index any more.
pub record Ends (old new : WorldState) (search : LockingSearch) (rows : List FoundRow) : Type 0 where
  pub leaving : search.phase ≡ Leave
  pub leaves : Calls (index_of search.scan.table search.scan.which) (Leaves search.asker.session) old new
  pub rows_are : rows ≡ search.scan.rows.items

-- ---- what keeps a step from going on

-- the search is as it was, but for the memory of its rows
pub record IsStill (search same : LockingSearch) : Type 0 where
  pub same_is : same ≡ record search { scan = record search.scan { rows = same.scan.rows } }
  pub rows_are : same.scan.rows.items ≡ search.scan.rows.items

-- A call was not done, or the request had no memory. Granted locks and requests are as they were.
pub record IsHindered (now : ℕ) (old new : WorldState) (search next : LockingSearch) : Type 0 where
  pub same : IsStill search next
  pub met : WorldState
  pub moves : OnlyMoves search.asker.session (index_of search.scan.table search.scan.which) old met
  pub locks : (new ≡ met) ⊎ ((lock : Lock) × Asks search.asker.session lock now met new answer.NoMemory)

-- what the step has come to, whose lock it asks for; that of a gap never waits
abbrev pub NamesAt : Schema → WorldState → WorldState → LockingSearch → Lock → LockingPhase → Type 0
NamesAt schema old met search lock Next =
    (pair : Pair) × (found : Option FoundRow) × Meets schema old met search (Some pair)
    × (search.scan.which ≡ 0 → IsKept schema 0 pair.0 (Some pair.1) found) × NamesRecord schema search pair (is_none found) lock
NamesAt schema old met search lock (Row entry) = (read : Option (List ℕ)) × Reads schema old met search entry read × NamesRecordOf schema search entry lock
NamesAt schema old met search lock phase = ⊥

-- The request waits. The search is as it was, so it asks again for what comes first then.
pub record HasToWait (now : ℕ) (schema : Schema) (old new : WorldState) (search next : LockingSearch) : Type 0 where
  pub same : IsStill search next
  pub met : WorldState
  pub moves : OnlyMoves search.asker.session (index_of search.scan.table search.scan.which) old met
  pub lock : Lock
  pub names : NamesAt schema old met search lock search.phase
  pub asks : Asks search.asker.session lock now met new answer.Waits

-- what is no key, or no record of the table
abbrev pub IsBadAt : Schema → WorldState → WorldState → LockingSearch → LockingPhase → Type 0
IsBadAt schema old new search Next =
    (pair : Pair) × Meets schema old new search (Some pair) × ((67 < length pair.0) ⊎ IsNoRecord schema pair.0 pair.1)
IsBadAt schema old new search (Row entry) = (bytes : List ℕ) × Reads schema old new search entry (Some bytes) × IsNoRecord schema entry bytes
IsBadAt schema old new search phase = ⊥

pub record IsMalformed (schema : Schema) (old new : WorldState) (search next : LockingSearch) : Type 0 where
  pub same : IsStill search next
  pub bad_is : IsBadAt schema old new search search.phase

-- a step of the search, which is the next one behind it; once it is over nothing is said of it
abbrev pub Steps : ℕ → Schema → WorldState → WorldState → LockingSearch → LockingSearch → Came → Type 0
Steps now schema old new search next Went = GoesOn now schema old new search next
Steps now schema old new search next (Done rows) = Ends old new search rows.items
Steps now schema old new search next (Hindered (Call why)) = IsHindered now old new search next
Steps now schema old new search next (Hindered Waits) = HasToWait now schema old new search next
Steps now schema old new search next (Hindered Malformed) = IsMalformed schema old new search next
