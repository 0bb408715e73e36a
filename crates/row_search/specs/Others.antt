-- What steps of others leave to a search.
use Rattle.std.specs.Prelude.{◌≡◌, ◌≤◌, ℕ, List, length, Option, Some}
use Rattle.inno_types.specs.{declared.value.Value.Value, declared.value.Schema.Schema}
use Rattle.row_versions.specs.{declared.kept.Kept.Kept, declared.version.Version.Version, Chains.first_seen}
use Rattle.law_stored_rows.specs.Records.{LeadTo, IsRecordWith}
use Rattle.row_search.specs.{declared.sight.Sight.Sight, declared.phase.Phase.Phase, declared.phase.Phase.TheVariants.Look}
use Rattle.row_search.specs.{declared.phase.Phase.TheVariants.Walk, Sights.sees_by, declared.search.RowSearch.RowSearch, Ranges.primary_part}
use Rattle.row_search.specs.{Searches.IsSearching, Searches.Finds}
use Rattle.entries.specs.Pairs.{Pair}
use Rattle.world.specs.State.{WorldState}

-- The versions that a search goes along next, from the record that it holds or from its pointer, show the reader the same
-- row in what is kept now, and are not more.
abbrev pub KeepsWay : Schema → Sight → (ℕ → Option Kept) → (ℕ → Option Kept) → Phase → Type 0
KeepsWay schema sight old new (Look entry bytes) =
    (versions : List Version) → IsRecordWith schema (primary_part schema entry) old (Some bytes) versions
    → (now : List Version) × IsRecordWith schema (primary_part schema entry) new (Some bytes) now ×
    (first_seen (sees_by sight) now ≡ first_seen (sees_by sight) versions) × (length now ≤ length versions)
KeepsWay schema sight old new (Walk entry pointer) =
    (versions : List Version) → LeadTo schema (primary_part schema entry) old pointer versions
    → (now : List Version) × LeadTo schema (primary_part schema entry) new pointer now ×
    (first_seen (sees_by sight) now ≡ first_seen (sees_by sight) versions) × (length now ≤ length versions)
KeepsWay schema sight old new other = Unit {0}

-- What the one has found the other has found, too.
abbrev pub KeepsFound : RowSearch → RowSearch → Type 0
KeepsFound one other =
    (schema : Schema) (kept : ℕ → Option Kept) (place : Option Pair) (versions_at : Value → List Version) → Finds schema kept place versions_at one
    → Finds schema kept place versions_at other

-- Where the one may go on the other may, too.
abbrev pub KeepsSearching : RowSearch → RowSearch → Type 0
KeepsSearching one other = (actor : ℕ) (schema : Schema) (state : WorldState) → IsSearching actor schema state one → IsSearching actor schema state other

-- whatever was kept for roll pointers
abbrev pub NeedsNoVersion : RowSearch → Type 0
NeedsNoVersion one = (schema : Schema) (old new : ℕ → Option Kept) → KeepsWay schema one.scan.sight old new one.phase
