-- What changes do to the rows of one table, as a list.
use Rattle.std.specs.Prelude.{◌≡◌, ◌⊎◌, ◌<◌, ℕ, ◌==◌, List, [], ◌∷◌, length, Some, if◌then◌else◌}
use Rattle.std.specs.FinMap.{get}
use Rattle.inno_types.specs.declared.value.Value.{Value}
use Rattle.inno_types.specs.declared.value.Schema.{Schema}
use Rattle.inno_db.specs.declared.change.Change.{Change}
use Rattle.inno_db.specs.declared.change.Change.TheVariants.{Create, Put, Remove}
use Rattle.inno_db.specs.Database.{Database, key_in}
use Rattle.inno_db.specs.declared.limits.TheConstants.{MOST_TABLES}
use Rattle.inno_db.specs.Keeping.{with_row, without_key}

abbrev pub row_change : Schema → ℕ → List (List Value) → Change → List (List Value)
row_change schema table rows (Create s) = rows
row_change schema table rows (Put other row) = if other == table then with_row schema row rows else rows
row_change schema table rows (Remove other key) = if other == table then without_key schema key rows else rows

-- the rows of a table after changes, the first of them first
abbrev pub rows_after : Schema → ℕ → List (List Value) → List Change → List (List Value)
rows_after schema table rows [] = rows
rows_after schema table rows (change ∷ changes) = rows_after schema table (row_change schema table rows change) changes

-- the changes are of rows of tables that are there
abbrev pub AreOfTables : List Schema → List Change → Type 0
AreOfTables schemas [] = Unit {0}
AreOfTables schemas (Create schema ∷ changes) = ⊥
AreOfTables schemas (Put table row ∷ changes) = (table < length schemas) × AreOfTables schemas changes
AreOfTables schemas (Remove table key ∷ changes) = (table < length schemas) × AreOfTables schemas changes

-- each row that was put stands at its key
abbrev pub AllStand : Database → List Change → Type 0
AllStand db [] = Unit {0}
AllStand db (Create schema ∷ changes) = AllStand db changes
AllStand db (Put table row ∷ changes) = (get db.rows (table, key_in db.schemas table row) ≡ Some row) × AllStand db changes
AllStand db (Remove table key ∷ changes) = AllStand db changes

-- the changes are of rows of tables that are there, or one table more where there are few
abbrev pub AreApplicable : Database → List Change → Type 0
AreApplicable db changes = AreOfTables db.schemas changes ⊎ ((schema : Schema) × (changes ≡ Create schema ∷ []) × (length db.schemas < MOST_TABLES))
