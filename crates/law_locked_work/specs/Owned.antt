-- What a transaction has changed, as the versions of its rows tell it, and the searches that another one keeps.
-- The laws of commits rest on it: of each row that has changed its transaction owns record and entries.
use Rattle.std.specs.Prelude.{◌≡◌, ℕ, ◌==◌, Bool, true, if◌then◌else◌, List, [], ◌∷◌, map, Option, Some, option_map}
use Rattle.inno_types.specs.declared.lock.Lock.{Lock}
use Rattle.inno_types.specs.declared.value.Value.{Value}
use Rattle.inno_types.specs.declared.value.Schema.{Schema}
use Rattle.store_api.specs.declared.answers.Undo.{Undo}
use Rattle.inno_db.specs.Indexes.{index_of}
use Rattle.inno_model.specs.declared.event.Event.{Event}
use Rattle.inno_model.specs.Past.{txn, current}
use Rattle.std.specs.FinMap.{get}
use Rattle.key_codec.specs.Keys.{key_code, key_width}
use Rattle.law_stored_rows.specs.Edits.{clustered_index}
use Rattle.inno_types.specs.Ranges.{is_within}
use Rattle.sql_plan.specs.declared.choice.Plan.{Plan}
use Rattle.sql_plan.specs.Visits.{index_key, kind_at}
use Rattle.row_versions.specs.{declared.place.Place.Place, declared.version.Version.Version, Chains.Chains, Chains.versions_at, Chains.newest}
use Rattle.law_past_agreement.specs.Ids.{id_of}
use Rattle.law_locks.specs.Guards.{has_record}
use Rattle.law_locks.specs.Barring.{ChangedRow, Owns, MayBeKey, KeepsRange}

-- the versions in front that the writer with this id has left, and those behind them
abbrev pub front_of : ℕ → List Version → List Version
front_of id [] = []
front_of id (v ∷ versions) = if v.writer == id then v ∷ front_of id versions else []

abbrev pub behind_of : ℕ → List Version → List Version
behind_of id [] = []
behind_of id (v ∷ versions) = if v.writer == id then behind_of id versions else v ∷ versions

-- the key of a row in the clustered index, by its primary value
abbrev pub key_bytes : Schema → Value → List ℕ
key_bytes schema key = key_code (kind_at schema.columns schema.primary) key

abbrev pub entry_at : Schema → ℕ → Version → Option (List ℕ)
entry_at schema which version = option_map (index_key schema which) version.row

-- what one index tells of a row that the writer with this id has changed
abbrev pub changed_row : Schema → ℕ → Value → ℕ → List Version → ChangedRow
changed_row schema which key id versions =
    record {
      key = key_bytes schema key;
      before = option_map (index_key schema which) (newest (behind_of id versions));
      behind = map (entry_at schema which) (front_of id versions);
    }

abbrev pub place_at : ℕ → Value → Place
place_at table key = record { table = table; key = key }

-- The session owns the row at the key in the index of this number: of its record, and of each entry that it has given it.
abbrev pub OwnsAt : Schema → ℕ → ℕ → List (List ℕ) → List Lock → Chains → List Event → ℕ → Value → Type 0
OwnsAt schema table which records granted chains h t key =
    Owns (txn t h) (clustered_index table) (index_of table which) records granted
    (changed_row schema which key (id_of h t) (versions_at (place_at table key) chains))

-- the row's key in the plan's index lies in its range
abbrev pub lies_in : Schema → Plan → List Value → Bool
lies_in schema plan row = is_within plan.range (index_key schema plan.which row)

-- The session has searched by this plan when it had made so many changes, and keeps it: each key that may stand in the range is guarded, and each
-- row there that it sees has its record locked.
pub record KeepsPlan (schema : Schema) (table : ℕ) (plan : Plan) (records : List (List ℕ)) (granted : List Lock) (made : ℕ) (log : List Undo) (h : List Event)
    (s : ℕ) : Type 0 where
  pub range : KeepsRange (MayBeKey (key_width (kind_at schema.columns schema.primary)) plan.which) (txn s h) (index_of table plan.which) records granted
      plan.range made log
  pub rows : (key : Value) (row : List Value) → get (current s h).rows (table, key) ≡ Some row → lies_in schema plan row ≡ true
      → has_record (txn s h) (clustered_index table) (key_bytes schema key) granted ≡ true
