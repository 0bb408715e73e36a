-- A search stays as far as it has come as others step, and comes further as it steps itself.
use Rattle.std.proofs.Common.{◌≡◌, ◌≤◌, ◌<◌, sym, subst, ℕ, length, slice_get, Some}
use Rattle.inno_types.specs.declared.value.Schema.{Schema}
use Rattle.store_api.specs.declared.moves.Move.{Move}
use Rattle.row_search.specs.{Searches.IsSearching, Searches.Finds, Searches.BeginsWithNothing, Searches.MayBegin, Searches.place_in, declared.scan.Scan.Scan}
use Rattle.row_search.specs.{declared.search.RowSearch.RowSearch, Others.KeepsWay, Steps.IsSameScan, Steps.GoesOn, Steps.Waits, Tables.ShowsRows}
use Rattle.row_search.proofs.Others.{found_still, way_still, searching_still}
use Rattle.law_found_rows.specs.Finding.{IsFinding, IsFindingAnew, LeavesScan}
use Rattle.row_versions.specs.{Versions.Stays, Chains.Chains}
use Rattle.law_stored_rows.specs.{Records.KeepsMore, Tables.in_table}
use Rattle.world.specs.{State.WorldState, Told.IsTold}

-- ---- others' steps

finds_on : (s : ℕ) (schema : Schema) (old new : WorldState) (before after : Chains) (search : RowSearch) → LeavesScan s schema search.scan old new before after
    → KeepsWay schema search.scan.sight old.versions.kept_at new.versions.kept_at search.phase → IsFinding s schema old before search → IsFinding s schema
    new after search
finds_on s schema old new before after search leaves way is =
    record {
      searching = searching_still s schema old new search is.searching leaves.there leaves.place (λ told. leaves.told) (λ told. way);
      finds =
          found_still schema old.versions.kept_at new.versions.kept_at (place_in s search.scan new) (in_table search.scan.table before)
          (in_table search.scan.table after) search leaves.seen way (rw leaves.place is.finds);
    }

pub keeps_finding : (s : ℕ) (schema : Schema) (old new : WorldState) (before after : Chains) (search : RowSearch)
    → LeavesScan s schema search.scan old new before after → KeepsMore old.versions.kept_at new.versions.kept_at
    → IsFinding s schema old before search → IsFinding s schema new after search
keeps_finding s schema old new before after search leaves more is =
    finds_on s schema old new before after search leaves (way_still schema search.scan.sight old.versions.kept_at new.versions.kept_at search.phase more) is

pub may_come_anew : (s : ℕ) (schema : Schema) (state : WorldState) (chains : Chains) (search : RowSearch) → IsFinding s schema state chains search
    → IsFindingAnew s schema state chains search
may_come_anew s schema state chains search is = λ other same found none searching.
    record {
      searching = searching s schema state is.searching;
      finds =
          subst (λ (scan : Scan). Finds schema state.versions.kept_at (place_in s scan state) (in_table scan.table chains) other) (sym same)
          (found schema state.versions.kept_at (place_in s search.scan state) (in_table search.scan.table chains) is.finds);
    }

pub finds_anew : (s : ℕ) (schema : Schema) (old new : WorldState) (before after : Chains) (search : RowSearch)
    → LeavesScan s schema search.scan old new before after
    → IsFindingAnew s schema old before search → IsFindingAnew s schema new after search
finds_anew s schema old new before after search leaves is = λ other same found none searching.
    finds_on s schema old new before after other (rw same leaves)
    (none schema old.versions.kept_at new.versions.kept_at) (is other same found none searching)

-- ---- its own steps

pub begins : (s : ℕ) (schema : Schema) (state : WorldState) (chains : Chains) (fresh : RowSearch) → BeginsWithNothing fresh → MayBegin fresh
    → slice_get state.schemas fresh.scan.table ≡ Some schema → fresh.scan.which ≤ length schema.keys → fresh.scan.which < 8 → IsFinding s schema state chains
    fresh
begins s schema state chains fresh nothing may there le few =
    record {
      searching = may s schema state there le few;
      finds = nothing schema state.versions.kept_at (place_in s fresh.scan state)
          (in_table fresh.scan.table chains);
    }

-- versions stay, and so does what was found
recast : (s : ℕ) (schema : Schema) (old new : WorldState) (chains : Chains) (scan : Scan) (next : RowSearch) → next.scan.table ≡ scan.table
    → Stays old.versions new.versions → IsTold new → IsSearching s schema new next
    → Finds schema old.versions.kept_at (place_in s next.scan new) (in_table scan.table chains) next → IsFinding s schema new chains next
recast s schema old new chains scan next table stays told searching finds =
    record {
      searching = searching;
      finds = rw (stays.kept told.versions)
          (subst (λ (n : ℕ). Finds schema old.versions.kept_at (place_in s next.scan new) (in_table n chains) next) (sym table) finds);
    }

pub goes_on : (s : ℕ) (schema : Schema) (old new : WorldState) (chains : Chains) (search next : RowSearch) → IsFinding s schema old chains search
    → ShowsRows schema search.scan old (in_table search.scan.table chains)
    → GoesOn s schema old new search next → IsTold new → IsFinding s schema new chains next × IsSameScan search.scan next.scan
goes_on s schema old new chains search next is shows goes told = (
  recast s schema old new chains search.scan next goes.same.table goes.moves.versions told goes.holds
      (goes.finds (in_table search.scan.table chains) shows is.finds),
  goes.same,
)

pub waits_on : (s : ℕ) (schema : Schema) (old new : WorldState) (chains : Chains) (search same : RowSearch) (why : Move) → IsFinding s schema old chains search
    → Waits s schema old new search same why → IsTold new → IsFinding s schema new chains same × IsSameScan search.scan same.scan
waits_on s schema old new chains search same why is waits told = (
  recast s schema old new chains search.scan same waits.scan_is.table waits.unchanged.versions told waits.holds
      (waits.finds (in_table search.scan.table chains) is.finds),
  waits.scan_is,
)
