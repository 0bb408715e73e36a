-- What a search has before it, as the world shows it: the keys of its index first, and then what is left of its visit of one.
use Rattle.std.specs.Prelude.{ℕ, ◌+◌, ◌-◌, ◌*◌, ◌^◌, List, [], ◌∷◌, length, Option}
use Rattle.entries.specs.Pairs.{Pair}
use Rattle.row_versions.specs.declared.kept.Kept.{Kept}
use Rattle.row_search.specs.declared.phase.Phase.TheVariants.{Seek, Fetch, Look, Walk, Keep, Sort, Leave}
use Rattle.shared_lists.specs.State.{Places, no_places}
use Rattle.world.specs.{State.WorldState, Told.pairs_of}
use Rattle.inno_db.specs.Indexes.{index_of}
use Rattle.row_search.specs.{declared.phase.Phase.Phase, Searches.place_in, Searches.pairs_behind, Tables.most_versions}
use Rattle.desks.specs.{declared.desk.Doing.Doing, declared.desk.Doing.TheVariants.Searching, declared.desk.TableSearch.TableSearch, declared.desk.Desk.Desk}
use Rattle.desks.specs.{Undoing.versions_from}

-- the keys of the index behind the one that the search is at, and that one; all of them before the first is sought
abbrev pub keys_left : Option Pair → List Pair → Phase → ℕ
keys_left place pairs Seek = 1 + length pairs
keys_left place pairs Sort = 0
keys_left place pairs Leave = 0
keys_left place pairs other = 1 + pairs_behind place pairs

-- the steps that are left at that key, and within a walk the versions
abbrev pub visit_left : (ℕ → Option Kept) → Phase → ℕ
visit_left kept (Fetch entry) = 4 * 2 ^ 64
visit_left kept (Look entry bytes) = 3 * 2 ^ 64
visit_left kept (Walk entry pointer) = 2 * 2 ^ 64 + versions_from most_versions kept pointer
visit_left kept (Keep entry row) = 2 ^ 64
visit_left kept Sort = 2 ^ 64
visit_left kept other = 0

-- Each older version was dropped by a change that was taken back, which the history tells.
abbrev pub places_in : ℕ → WorldState → TableSearch → Places
places_in s state on =
    record {
      keys = keys_left (place_in s on.search.scan state) (pairs_of state (index_of on.search.scan.table on.search.scan.which)) on.search.phase;
      anew = length state.past - on.cuts;
      visit = visit_left state.versions.kept_at on.search.phase;
    }

abbrev pub places_of : ℕ → WorldState → Doing → Places
places_of s state (Searching on) = places_in s state on
places_of s state other = no_places

-- those of the sessions from this number on
abbrev pub places_from : ℕ → WorldState → List Desk → List Places
places_from s state [] = []
places_from s state (desk ∷ desks) = places_of s state desk.doing ∷ places_from (s + 1) state desks
