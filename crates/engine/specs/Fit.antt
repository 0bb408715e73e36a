-- Which tables and databases an engine of this version writes.
use Rattle.std.specs.Prelude.{All}
use Rattle.inno_types.specs.declared.value.Schema.{Schema}
use Rattle.inno_db.specs.Database.{Database}
use Rattle.law_stored_rows.specs.Storable.{IsStorable}
use Rattle.shared_lists.specs.Fitting.{CanBeCoded}
use Rattle.commit_log.specs.Room.{IsLoggable}

-- an index can hold the table's rows, and the log can make the table
pub record CanBeMade (schema : Schema) : Type 0 where
  pub stored : IsStorable schema
  pub logged : IsLoggable schema

-- each row of the database can be coded, and the log can make each table
pub record IsFit (db : Database) : Type 0 where
  pub coded : CanBeCoded db
  pub logged : All IsLoggable db.schemas
