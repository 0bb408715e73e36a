-- The rows that changes leave at places.
use Rattle.std.specs.Prelude.{◌≡◌, ◌≢◌, ℕ, Bool, false, if◌then◌else◌, Option, Some, None, List, [], ◌∷◌, ◌++◌, ◌⊎◌, ◌≤◌}
use Rattle.std.specs.List.{list_any}
use Rattle.std.specs.FinMap.{get}
use Rattle.inno_types.specs.{declared.value.Value.Value, declared.value.Schema.Schema}
use Rattle.inno_db.specs.{declared.change.Change.Change, declared.change.Change.TheVariants.Create, declared.change.Change.TheVariants.Put}
use Rattle.inno_db.specs.{declared.change.Change.TheVariants.Remove, Database.key_in}
use Rattle.inno_model.specs.declared.event.Event.{Event}
use Rattle.inno_model.specs.Past.{own, opening, view_of, commits, committed, IsOpen}
use Rattle.row_versions.specs.{declared.place.Place.Place, Chains.in_model, Chains.is_same_place}
use Rattle.law_past_agreement.specs.Order.{created}

-- the place that a change is made at; none where it makes a table
abbrev pub place_in : List Schema → Change → Option Place
place_in schemas (Create schema) = None
place_in schemas (Put table row) = Some (record { table = table; key = key_in schemas table row })
place_in schemas (Remove table key) = Some (record { table = table; key = key })

abbrev pub is_place : Place → Option Place → Bool
is_place place None = false
is_place place (Some p) = is_same_place p place

-- the change is made at the place
abbrev pub is_at : List Schema → Place → Change → Bool
is_at schemas place change = is_place place (place_in schemas change)

-- what a change leaves at its place: a row, or none
abbrev pub row_of : Change → Option (List Value)
row_of (Put table row) = Some row
row_of other = None

-- What these changes, the newest first, leave of a place where this stood before them: the newest of those that the test
-- picks decides.
abbrev pub row_at : Option (List Value) → (Change → Bool) → List Change → Option (List Value)
row_at before at [] = before
row_at before at (change ∷ changes) = if at change then row_of change else row_at before at changes

-- what stood at the place at the opening
abbrev pub row_opened : List Event → Place → Option (List Value)
row_opened h place = get (opening h).rows (in_model place)

-- somebody may read the rows of the first n commits: they are the latest, or an open transaction has such a view
abbrev pub IsNeeded : List Event → ℕ → Type 0
IsNeeded h n = (commits h ≤ n) ⊎ ((s : ℕ) × IsOpen s h × (view_of s h ≡ Some n))

-- the changes that the session sees under a view of the first n commits
abbrev pub seen : List Event → ℕ → ℕ → List Change
seen h s n = own s h ++ committed n h

-- the row that the session sees at a place, under such a view
abbrev pub row_seen : List Event → ℕ → ℕ → Place → Option (List Value)
row_seen h s n place = row_at (row_opened h place) (is_at (created h) place) (seen h s n)

-- The newest row of a place, committed or not: as the one session sees it whose changes may be newest there.
abbrev pub IsNewestSeen : List Event → Place → Option (List Value) → Type 0
IsNewestSeen h place row =
    (s : ℕ) × ((other : ℕ) → other ≢ s → list_any (is_at (created h) place) (own other h) ≡ false) × (row ≡ row_seen h s (commits h) place)
