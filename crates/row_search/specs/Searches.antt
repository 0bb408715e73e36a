-- How far a search has come.
use Rattle.std.specs.Prelude.{◌≡◌, ◌≤◌, ◌<◌, [], ◌∷◌}
use Rattle.std.specs.{Prelude.ℕ, Prelude.true, Prelude.false, Prelude.IsTrue, Prelude.List, Prelude.length, Prelude.slice_get, Prelude.Option, Prelude.None}
use Rattle.std.specs.{Prelude.Some, Prelude.IsSome, Prelude.IfSome, List.count_by, Ordering.is_lt}
use Rattle.inno_types.specs.{declared.value.Value.Value, declared.value.Schema.Schema, Ranges.is_within}
use Rattle.inno_db.specs.Database.{key_of}
use Rattle.key_codec.specs.Keys.{HasKey, key_code}
use Rattle.entries.specs.{Pairs.Pair, Pairs.key_cmp, Calls.HasKey as IsAtKey}
use Rattle.row_versions.specs.{declared.kept.Kept.Kept, declared.version.Version.Version, Chains.first_seen}
use Rattle.law_stored_rows.specs.Records.{LeadTo, IsRecordWith}
use Rattle.sql_plan.specs.Visits.{kind_at, primary_key}
use Rattle.world.specs.State.{WorldState}
use Rattle.inno_db.specs.Indexes.{index_of}
use Rattle.row_search.specs.declared.phase.Phase.TheVariants.{Seek, Follow, Fetch, Look, Walk, Keep, Sort, Leave}
use Rattle.row_search.specs.{declared.scan.Scan.Scan, declared.phase.Phase.Phase, declared.search.RowSearch.RowSearch, Sights.sees_by, Sights.rows_seen}
use Rattle.row_search.specs.{Tables.most_versions, FoundRows.AreFound, FoundRows.RiseByKey, Ranges.primary_part, Ranges.lies_in, Ranges.lies_up_to}
use Rattle.row_search.specs.{Ranges.lies_below}

-- the pair that the actor was given last of the searched index
abbrev pub place_in : ℕ → Scan → WorldState → Option Pair
place_in actor scan state = (state.indexes (index_of scan.table scan.which)).place actor

-- ---- what each step may rest on

-- where it is told what is kept, the record of a key has versions, all of which are kept, and few
abbrev pub IsRecordKept : Schema → WorldState → List ℕ → List ℕ → Type 0
IsRecordKept schema state key bytes =
    IsTrue state.versions.told
    → (versions : List Version) × IsRecordWith schema key state.versions.kept_at (Some bytes) versions × (length versions ≤ most_versions)

-- where it is told what is kept, the pointer leads to versions, all of which are kept, and few
abbrev pub IsWayKept : Schema → WorldState → List ℕ → ℕ → Type 0
IsWayKept schema state key pointer =
    IsTrue state.versions.told → (versions : List Version) × LeadTo schema key state.versions.kept_at pointer versions × (length versions ≤ most_versions)

abbrev pub PhaseHolds : ℕ → Schema → Scan → WorldState → Phase → Type 0
PhaseHolds actor schema scan state Seek = Unit {0}
PhaseHolds actor schema scan state Follow = IsSome (place_in actor scan state)
PhaseHolds actor schema scan state (Fetch entry) = IsAtKey entry (place_in actor scan state)
PhaseHolds actor schema scan state (Look entry bytes) = IsAtKey entry (place_in actor scan state) × IsRecordKept schema state (primary_part schema entry) bytes
PhaseHolds actor schema scan state (Walk entry pointer) = IsAtKey entry (place_in actor scan state) × IsWayKept schema state (primary_part schema entry) pointer
PhaseHolds actor schema scan state (Keep entry row) = IsAtKey entry (place_in actor scan state)
PhaseHolds actor schema scan state Sort = Unit {0}
PhaseHolds actor schema scan state Leave = Unit {0}

-- The search is one of an index that is there, and what it goes on from is there still.
pub record IsSearching (actor : ℕ) (schema : Schema) (state : WorldState) (search : RowSearch) : Type 0 where
  pub there : slice_get state.schemas search.scan.table ≡ Some schema
  pub key : search.scan.which ≤ length schema.keys
  pub few : search.scan.which < 8
  pub phase : PhaseHolds actor schema search.scan state search.phase

-- ---- what was found so far

-- The search is at this key, which lies in the range: what lies below it was found.
pub record IsComing (schema : Schema) (scan : Scan) (row_at : Value → Option (List Value)) (entry : List ℕ) : Type 0 where
  pub below : AreFound schema scan.which row_at (lies_below schema scan entry) scan.rows.items
  pub within : is_within scan.range entry ≡ true
  pub whole : scan.which ≡ 0 → primary_part schema entry ≡ entry

-- what the reader sees at the value of this key is what it sees of these versions
pub record IsSeenAmong (schema : Schema) (scan : Scan) (row_at : Value → Option (List Value)) (key : List ℕ) (versions : List Version) : Type 0 where
  pub value : Value
  pub has_key : HasKey (kind_at schema.columns schema.primary) value
  pub key_is : key ≡ key_code (kind_at schema.columns schema.primary) value
  pub seen : row_at value ≡ first_seen (sees_by scan.sight) versions

-- the row is what the reader sees at its own primary value, whose key is this
pub record IsSeenAt (schema : Schema) (row_at : Value → Option (List Value)) (key : List ℕ) (row : List Value) : Type 0 where
  pub seen : row_at (key_of schema row) ≡ Some row
  pub has_key : HasKey (kind_at schema.columns schema.primary) (key_of schema row)
  pub key_is : key ≡ primary_key schema row

abbrev pub PhaseFinds : Schema → Scan → (Value → Option (List Value)) → (ℕ → Option Kept) → Option Pair → Phase → Type 0
PhaseFinds schema scan row_at kept place Seek = (scan.range.empty ≡ false) × AreFound schema scan.which row_at (λ row. false) scan.rows.items
PhaseFinds schema scan row_at kept place Follow =
    (scan.range.empty ≡ false) × IfSome place (λ pair. AreFound schema scan.which row_at (lies_up_to schema scan pair.0) scan.rows.items)
PhaseFinds schema scan row_at kept place (Fetch entry) = IsComing schema scan row_at entry
PhaseFinds schema scan row_at kept place (Look entry bytes) =
    IsComing schema scan row_at entry
    × (versions : List Version) × IsRecordWith schema (primary_part schema entry) kept (Some bytes) versions × IsSeenAmong schema scan row_at
    (primary_part schema entry) versions
PhaseFinds schema scan row_at kept place (Walk entry pointer) =
    IsComing schema scan row_at entry
    × (versions : List Version) × LeadTo schema (primary_part schema entry) kept pointer versions × IsSeenAmong schema scan row_at
    (primary_part schema entry) versions
PhaseFinds schema scan row_at kept place (Keep entry row) = IsComing schema scan row_at entry × IsSeenAt schema row_at (primary_part schema entry) row
PhaseFinds schema scan row_at kept place Sort = AreFound schema scan.which row_at (lies_in schema scan) scan.rows.items
PhaseFinds schema scan row_at kept place Leave = AreFound schema scan.which row_at (lies_in schema scan) scan.rows.items × RiseByKey scan.rows.items

-- So far the search has found, of what the reader sees of these versions, the rows whose key in the index lies in the
-- range and was come past, each once, and nothing else.
abbrev pub Finds : Schema → (ℕ → Option Kept) → Option Pair → (Value → List Version) → RowSearch → Type 0
Finds schema kept place versions_at search = PhaseFinds schema search.scan (rows_seen search.scan.sight versions_at) kept place search.phase

-- Before its first step a search has found what there is to find so far, which is nothing.
abbrev pub BeginsWithNothing : RowSearch → Type 0
BeginsWithNothing fresh =
    (schema : Schema) (kept : ℕ → Option Kept) (place : Option Pair) (versions_at : Value → List Version) → Finds schema kept place versions_at fresh

-- It may begin where its table and its index are there.
abbrev pub MayBegin : RowSearch → Type 0
MayBegin fresh =
    (actor : ℕ) (schema : Schema) (state : WorldState) → slice_get state.schemas fresh.scan.table ≡ Some schema → fresh.scan.which ≤ length schema.keys
    → fresh.scan.which < 8
    → IsSearching actor schema state fresh

-- ---- how far it has to go

-- how many pairs stand behind that of a place
abbrev pub pairs_behind : Option Pair → List Pair → ℕ
pairs_behind None pairs = length pairs
pairs_behind (Some pair) pairs = count_by (λ (later : Pair). is_lt (key_cmp pair.0 later.0)) pairs

-- Pairs that are left, and within the visit of one what is left there, its versions last.
abbrev pub HasToGo : Schema → (ℕ → Option Kept) → Option Pair → List Pair → Phase → List ℕ → Type 0
HasToGo schema kept place pairs Seek n = n ≡ 1 ∷ length pairs ∷ 0 ∷ 0 ∷ []
HasToGo schema kept place pairs Follow n = n ≡ 1 ∷ pairs_behind place pairs ∷ 0 ∷ 0 ∷ []
HasToGo schema kept place pairs (Fetch entry) n = n ≡ 1 ∷ pairs_behind place pairs ∷ 4 ∷ 0 ∷ []
HasToGo schema kept place pairs (Look entry bytes) n = n ≡ 1 ∷ pairs_behind place pairs ∷ 3 ∷ 0 ∷ []
HasToGo schema kept place pairs (Walk entry pointer) n =
    (versions : List Version) × LeadTo schema (primary_part schema entry) kept pointer versions × (n ≡ 1 ∷ pairs_behind place pairs ∷ 2 ∷ length versions ∷ [])
HasToGo schema kept place pairs (Keep entry row) n = n ≡ 1 ∷ pairs_behind place pairs ∷ 1 ∷ 0 ∷ []
HasToGo schema kept place pairs Sort n = n ≡ 0 ∷ 1 ∷ 0 ∷ 0 ∷ []
HasToGo schema kept place pairs Leave n = n ≡ 0 ∷ 0 ∷ 0 ∷ 0 ∷ []
