-- What a reader sees of the versions of rows.
use Rattle.std.specs.Prelude.{ℕ, Bool, true, List, Option}
use Rattle.inno_types.specs.declared.value.Value.{Value}
use Rattle.row_versions.specs.{declared.version.Version.Version, Chains.sees, Chains.first_seen}
use Rattle.row_search.specs.{declared.sight.Sight.Sight, declared.sight.Sight.TheVariants.View, declared.sight.Sight.TheVariants.Newest}

-- whether the reader sees what a transaction of this id wrote
abbrev pub sees_by : Sight → ℕ → Bool
sees_by (View view own) id = sees own view id
sees_by Newest id = true

-- the row that the reader sees at each value of the primary key, of these versions
abbrev pub rows_seen : Sight → (Value → List Version) → Value → Option (List Value)
rows_seen sight versions_at value = first_seen (sees_by sight) (versions_at value)
