-- What a CREATE TABLE changes, as the schemas alone say.
use Rattle.std.specs.Prelude.{◌≡◌, ◌<◌, Bool, false, List, [], ◌∷◌, length, is_some}
use Rattle.inno_types.specs.declared.value.Schema.{Schema}
use Rattle.inno_types.specs.declared.stmt.Stmt.{Stmt}
use Rattle.inno_types.specs.declared.stmt.Stmt.TheVariants as stmt
use Rattle.inno_db.specs.declared.change.Change.TheVariants.{Create}
use Rattle.inno_db.specs.declared.limits.TheConstants.{MOST_TABLES}
use Rattle.inno_db.specs.Database.{Database}
use Rattle.inno_db.specs.Names.{table_place}
use Rattle.inno_db.specs.Outcome.{outcome}
use Rattle.law_stored_rows.specs.Storable.{IsStorable}

-- a table of the name that the statement gives is there
abbrev pub is_there : List Schema → Stmt → Bool
is_there schemas (stmt.CreateTable table if_not_exists definitions) = is_some (table_place schemas table)
is_there schemas other = false

-- over a database with these schemas the statement makes this table, for which there is room and which can be stored
pub record Makes (statement : Stmt) (schema : Schema) (schemas : List Schema) : Type 0 where
  pub changes : (db : Database) → db.schemas ≡ schemas → (outcome statement db).changes ≡ Create schema ∷ []
  pub few : length schemas < MOST_TABLES
  pub storable : IsStorable schema
