-- What the versions of rows are to their readers.
use Rattle.std.specs.Prelude.{◌≡◌, ℕ, Bool, ◌==◌, ◌||◌, if◌then◌else◌, Option, None, List, [], ◌∷◌}
use Rattle.std.specs.Ordering.{is_eq}
use Rattle.std.specs.declared.cmp.Ordering.{Ordering}
use Rattle.inno_types.specs.declared.value.Value.{Value}
use Rattle.inno_db.specs.Database as database
use Rattle.read_view.specs.Sight.{Sight, is_seen}
use Rattle.row_versions.specs.declared.place.Place.{Place}
use Rattle.row_versions.specs.declared.version.Version.{Version}

-- the place as the model of databases has it
abbrev pub in_model : Place → database.Place
in_model place = (place.table, place.key)

-- by table, and then by key
abbrev pub place_order : Place → Place → Ordering
place_order a b = database.place_cmp (in_model a) (in_model b)

abbrev pub is_same_place : Place → Place → Bool
is_same_place a b = is_eq (place_order a b)

-- the versions of each place, the newest first
abbrev pub Chains : Type 0
Chains = Place → List Version

abbrev pub versions_at : Place → Chains → List Version
versions_at place chains = chains place

-- one place has other versions, made of those that it had
abbrev pub with_versions : Place → (List Version → List Version) → Chains → Chains
with_versions place change chains other = if is_same_place place other then change (chains other) else chains other

-- a reader sees what it wrote itself, and what its view shows
abbrev pub sees : ℕ → Sight → ℕ → Bool
sees own sight id = id == own || is_seen sight id

-- the row that the first version left whose writer is seen; a removal leaves none
abbrev pub first_seen : (ℕ → Bool) → List Version → Option (List Value)
first_seen seen [] = None
first_seen seen (v ∷ versions) = if seen v.writer then v.row else first_seen seen versions

abbrev pub newest : List Version → Option (List Value)
newest [] = None
newest (v ∷ versions) = v.row

-- all but the newest
abbrev pub older : List Version → List Version
older [] = []
older (v ∷ versions) = versions

-- the place has a newer version, and each other place has what it had
abbrev pub Pushes : Chains → Chains → Place → Version → Type 0
Pushes old new place version =
    (other : Place) → versions_at other new ≡ (if is_same_place place other then version ∷ versions_at other old else versions_at other old)

-- the place has no longer its newest version, and each other place has what it had
abbrev pub Pops : Chains → Chains → Place → Type 0
Pops old new place = (other : Place) → versions_at other new ≡ (if is_same_place place other then older (versions_at other old) else versions_at other old)
