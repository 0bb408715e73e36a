-- What a search that locks knows between its steps: of each key of its range that it has come past.
-- The laws of a search go from one to the next. The rows are found, and each is locked where the session sees it.
use Rattle.std.specs.Prelude.{◌≡◌, ℕ, Bool, true, false, ◌&&◌, not, List, Option, None, Some}
use Rattle.std.specs.Ordering.{is_le, is_lt}
use Rattle.inno_types.specs.{declared.lock.Lock.Lock, declared.value.Schema.Schema, declared.value.Value.Value, declared.stmt.Range.Range, Ranges.is_within}
use Rattle.inno_db.specs.Indexes.{index_of}
use Rattle.store_api.specs.declared.answers.Undo.{Undo}
use Rattle.key_codec.specs.Keys.{key_width}
use Rattle.entries.specs.Pairs.{key_cmp}
use Rattle.law_stored_rows.specs.Edits.{clustered_index}
use Rattle.sql_plan.specs.Visits.{index_key, primary_key, kind_at}
use Rattle.world.specs.{State.WorldState, Told.pairs_of}
use Rattle.law_locks.specs.Guards.{has_record}
use Rattle.law_locks.specs.Barring.{MayBeKey, KeepsRange}
use Rattle.law_locks.specs.Index.{keys_of}
use Rattle.row_search.specs.{declared.scan.Scan.Scan, FoundRows.AreFound, Ranges.lies_in, Ranges.lies_below, Ranges.bound_bytes}
use Rattle.law_locked_rows.specs.Now.{row_now}

-- the keys of the records of an index
abbrev pub records_in : WorldState → ℕ → List (List ℕ)
records_in state index = keys_of (pairs_of state index)

-- the key may stand in the table's index of this number
abbrev pub IsKeyIn : Schema → ℕ → List ℕ → Type 0
IsKeyIn schema which key = MayBeKey (key_width (kind_at schema.columns schema.primary)) which key

-- the keys to which it comes yet: from the range's low bound, or above the one that it has passed
abbrev pub to_come : Scan → Option (List ℕ) → List ℕ → Bool
to_come scan None key = is_le (key_cmp (bound_bytes scan.range.low) key)
to_come scan (Some passed) key = is_lt (key_cmp passed key)

-- the row lies in the range, and its key isn't among those to come
abbrev pub lies_past : Schema → Scan → (List ℕ → Bool) → List Value → Bool
lies_past schema scan passes row = lies_in schema scan row && not (passes (index_key schema scan.which row))

-- the session's transaction has locked the record of each of these rows
abbrev pub AreLocked : Schema → ℕ → ℕ → (List Value → Bool) → ℕ → WorldState → List Lock → Type 0
AreLocked schema table s passes txn state granted =
    (value : Value) (row : List Value) → row_now s table state.past value ≡ Some row → passes row ≡ true
    → has_record txn (clustered_index table) (primary_key schema row) granted ≡ true

-- Each key that may stand in the range and that it has come past is guarded; of each row that the session sees there the record is locked, and these rows were
-- found, each once, and nothing else.
pub record IsLocking (schema : Schema) (scan : Scan) (s txn made : ℕ) (log : List Undo) (passes : List ℕ → Bool) (state : WorldState)
    (granted : List Lock) : Type 0 where
  pub range : KeepsRange (λ key. IsKeyIn schema scan.which key × (passes key ≡ false)) txn (index_of scan.table scan.which)
      (records_in state (index_of scan.table scan.which)) granted scan.range made log
  pub rows : AreLocked schema scan.table s (lies_past schema scan passes) txn state granted
  pub found : AreFound schema scan.which (row_now s scan.table state.past) (lies_past schema scan passes) scan.rows.items

-- The search is at this key, which lies in the range and is locked. What lies below it was found.
pub record IsAtEntry (schema : Schema) (scan : Scan) (s txn made : ℕ) (log : List Undo) (entry : List ℕ) (state : WorldState)
    (granted : List Lock) : Type 0 where
  pub within : is_within scan.range entry ≡ true
  pub range : KeepsRange (λ key. IsKeyIn schema scan.which key × (is_le (key_cmp key entry) ≡ true)) txn (index_of scan.table scan.which)
      (records_in state (index_of scan.table scan.which)) granted scan.range made log
  pub rows : AreLocked schema scan.table s (lies_below schema scan entry) txn state granted
  pub found : AreFound schema scan.which (row_now s scan.table state.past) (lies_below schema scan entry) scan.rows.items

-- the row's key lies in the range, and isn't among those to come
abbrev pub lies_to : Schema → ℕ → Range → (List ℕ → Bool) → List Value → Bool
lies_to schema which range passes row = is_within range (index_key schema which row) && not (passes (index_key schema which row))

-- What is kept of a range: each key that may stand in it is guarded, but those to come, and of each row that the session sees there the record is locked.
pub record KeepsTo (schema : Schema) (table which : ℕ) (range : Range) (s txn made : ℕ) (log : List Undo) (passes : List ℕ → Bool) (state : WorldState)
    (granted : List Lock) : Type 0 where
  pub guarded : KeepsRange (λ key. IsKeyIn schema which key × (passes key ≡ false)) txn (index_of table which)
      (records_in state (index_of table which)) granted range made log
  pub rows : AreLocked schema table s (lies_to schema which range passes) txn state granted
