-- What a search keeps of a record that it has locked.
use Rattle.std.specs.Prelude.{◌≡◌, ◌≢◌, ◌⊎◌, ℕ, Bool, true, false, List, [], ◌∷◌, ◌++◌, Option, None, Some, Result, Ok, Err}
use Rattle.inno_types.specs.declared.value.Schema.{Schema}
use Rattle.store_api.specs.declared.answers.Version.{Version}
use Rattle.row_codec.specs.declared.refused.RowBad.{RowBad}
use Rattle.row_codec.specs.declared.refused.RowBad.TheVariants.{NoMemory, Shape}
use Rattle.law_stored_rows.specs.Records.{IsCodeOf}
use Rattle.sql_plan.specs.Visits.{index_key}
use Rattle.row_search.specs.{declared.found.FoundRow.FoundRow, Ranges.primary_part}

-- whether the entry is that of the version's row, unless memory ran out
abbrev pub TellsOwn : Schema → ℕ → List ℕ → Version → Result Bool RowBad → Type 0
TellsOwn schema which entry version (Ok true) = index_key schema which version.row ≡ entry
TellsOwn schema which entry version (Ok false) = index_key schema which version.row ≢ entry
TellsOwn schema which entry version (Err NoMemory) = Unit {0}
TellsOwn schema which entry version (Err Shape) = ⊥

-- of this version: nothing where it is marked or its row has another entry, and else its row
abbrev pub KeptOf : Schema → ℕ → List ℕ → Version → Option FoundRow → Type 0
KeptOf schema which entry version None =
    (version.marked ≡ true) ⊎ ((version.marked ≡ false) × (which ≢ 0) × (index_key schema which version.row ≢ entry))
KeptOf schema which entry version (Some found) =
    (version.marked ≡ false) × ((which ≡ 0) ⊎ (index_key schema which version.row ≡ entry))
    × (found ≡ record { key = primary_part schema entry; row = version.row })

-- the same of a reading that may fail: where these are the bytes of some version it fails for want of memory alone
abbrev pub KeepsOf : Schema → ℕ → List ℕ → Version → Result (Option FoundRow) RowBad → Type 0
KeepsOf schema which entry version (Ok found) = KeptOf schema which entry version found
KeepsOf schema which entry version (Err NoMemory) = Unit {0}
KeepsOf schema which entry version (Err Shape) = ⊥

-- these are the bytes of no version's record
abbrev pub IsNoRecord : Schema → List ℕ → List ℕ → Type 0
IsNoRecord schema entry bytes = (coded : Version) → IsCodeOf schema (primary_part schema entry) bytes coded → ⊥

-- of what was read at the entry: nothing where there is no record
abbrev pub IsKept : Schema → ℕ → List ℕ → Option (List ℕ) → Option FoundRow → Type 0
IsKept schema which entry None found = found ≡ None
IsKept schema which entry (Some bytes) found =
    (coded : Version) → IsCodeOf schema (primary_part schema entry) bytes coded → KeptOf schema which entry coded found

-- the rows with one more, or as they were
abbrev pub kept_with : List FoundRow → Option FoundRow → List FoundRow
kept_with rows None = rows
kept_with rows (Some found) = rows ++ found ∷ []
