-- What changes make of a database.
use Rattle.std.specs.Prelude.{◌≢◌, List, [], ◌∷◌, ◌++◌, Option, None, Some}
use Rattle.std.specs.List.{fold, AllByRecursion}
use Rattle.std.specs.FinMap.{insert, remove}
use Rattle.inno_types.specs.declared.value.Schema.{Schema}
use Rattle.inno_db.specs.Database.{Database, Place, key_in}
use Rattle.inno_db.specs.declared.change.Change.{Change}
use Rattle.inno_db.specs.declared.change.Change.TheVariants.{Create, Put, Remove}

-- a change adds a table, puts a whole row at its key, or removes the row of a key
abbrev pub apply_one : Database → Change → Database
apply_one db (Create schema) = record db { schemas = db.schemas ++ schema ∷ [] }
apply_one db (Put table row) = record db { rows = insert db.rows (table, key_in db.schemas table row) row }
apply_one db (Remove table key) = record db { rows = remove db.rows (table, key) }

-- the database after these changes, the first of them first
abbrev pub apply : Database → List Change → Database
apply db changes = fold apply_one db changes

-- the place that a change is made at
abbrev pub place_of : List Schema → Change → Option Place
place_of schemas (Create schema) = None
place_of schemas (Put table row) = Some (table, key_in schemas table row)
place_of schemas (Remove table key) = Some (table, key)

-- none of these changes is made at the place
abbrev pub Spares : Database → Place → List Change → Type 0
Spares db place changes = AllByRecursion (λ change. place_of db.schemas change ≢ Some place) changes
