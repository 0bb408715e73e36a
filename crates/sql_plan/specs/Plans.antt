-- Which index a search walks, and in which range.
use Rattle.std.specs.Prelude.{ℕ, ◌+◌, ◌==◌, false, ◌&&◌, List, [], ◌∷◌, map, position, Option, Some, None, is_some, if◌then◌else◌, slice_get}
use Rattle.std.specs.List.{list_any, find}
use Rattle.inno_types.specs.declared.value.Value.{Value}
use Rattle.inno_types.specs.declared.value.Column.{Column}
use Rattle.inno_types.specs.declared.value.Key.{Key}
use Rattle.inno_types.specs.declared.value.Schema.{Schema}
use Rattle.inno_types.specs.declared.stmt.Filter.{Filter}
use Rattle.inno_types.specs.declared.stmt.Bound.TheVariants as bound
use Rattle.sql_plan.specs.declared.interval.Interval.{Interval}
use Rattle.sql_plan.specs.declared.part.Bounding.{Bounding}
use Rattle.sql_plan.specs.declared.choice.Plan.{Plan}
use Rattle.sql_plan.specs.Intervals.{whole, meet, is_single}
use Rattle.sql_plan.specs.Parts.{ranges_of}
use Rattle.sql_plan.specs.Bounds.{range_of}

-- the columns that parts bound, in the order of the text
abbrev pub places_of : List (Bounding Value) → List ℕ
places_of parts = map (λ part. part.place) parts

-- the first key on the column at a place
abbrev pub key_on : List Key → ℕ → Option ℕ
key_on keys place = position (λ key. key.column == place) keys

abbrev pub after_clustered : Option ℕ → Option ℕ
after_clustered None = None
after_clustered (Some key) = Some (key + 1)

-- the number of the index that the column at a place leads: 0 for the primary key's, or that of the first key on it
abbrev pub index_on : Schema → ℕ → Option ℕ
index_on schema place = if place == schema.primary then Some 0 else after_clustered (key_on schema.keys place)

abbrev pub first_keyed : List Key → List ℕ → Option ℕ
first_keyed keys places = find (λ place. is_some (key_on keys place)) places

-- of the columns that are bounded, the primary key's, or else the first one that has a key
abbrev pub chosen_column : Schema → List ℕ → Option ℕ
chosen_column schema places = if list_any (λ place. place == schema.primary) places then Some schema.primary else first_keyed schema.keys places

-- where the ranges of all parts on the column at a place meet
abbrev pub meet_on : ℕ → Interval Value → List (Bounding Value) → Interval Value
meet_on place values [] = values
meet_on place values (part ∷ parts) = meet_on place (if part.place == place then meet values part.values else values) parts

-- all of the clustered index
abbrev pub whole_index : Plan
whole_index = record { which = 0; range = record { empty = false; low = bound.Open; high = bound.Open }; unique = false }

-- the search of an index, which this column leads, for these values; only the primary key's is unique
abbrev pub plan_in : ℕ → Column → Interval Value → Plan
plan_in which column values = record { which = which; range = range_of which column.kind values; unique = (which == 0) && is_single values }

abbrev pub plan_if : Option Column → Option ℕ → Interval Value → Plan
plan_if None which values = whole_index
plan_if (Some column) None values = whole_index
plan_if (Some column) (Some which) values = plan_in which column values

-- the values that all parts allow the column at a place
abbrev pub allowed : List (Bounding Value) → ℕ → Interval Value
allowed parts place = meet_on place whole parts

-- the values that the search by the column at a place looks for: those, or all where that column leads no index
abbrev pub searched_if : Option Column → Option ℕ → Interval Value → Interval Value
searched_if None which values = whole
searched_if (Some column) None values = whole
searched_if (Some column) (Some which) values = values

abbrev pub searched : Schema → List (Bounding Value) → ℕ → Interval Value
searched schema parts place = searched_if (slice_get schema.columns place) (index_on schema place) (allowed parts place)

abbrev pub searched_in : Schema → List (Bounding Value) → Option ℕ → Interval Value
searched_in schema parts None = whole
searched_in schema parts (Some place) = searched schema parts place

abbrev pub searched_by : Schema → Filter → Interval Value
searched_by schema filter = searched_in schema (ranges_of schema.columns filter) (chosen_column schema (places_of (ranges_of schema.columns filter)))

abbrev pub plan_on : Schema → List (Bounding Value) → ℕ → Plan
plan_on schema parts place = plan_if (slice_get schema.columns place) (index_on schema place) (allowed parts place)

abbrev pub plan_by : Schema → List (Bounding Value) → Option ℕ → Plan
plan_by schema parts None = whole_index
plan_by schema parts (Some place) = plan_on schema parts place

-- the search for the rows that meet a condition
abbrev pub plan_of : Schema → Filter → Plan
plan_of schema filter = plan_by schema (ranges_of schema.columns filter) (chosen_column schema (places_of (ranges_of schema.columns filter)))
