-- Which changes have a record in the log, and how long it may be.
use Rattle.std.specs.Prelude.{◌<◌, ◌≤◌, length, All}
use Rattle.inno_types.specs.declared.value.Schema.{Schema}
use Rattle.inno_db.specs.declared.change.Change.{Change}
use Rattle.inno_db.specs.declared.change.Change.TheVariants.{Create, Put, Remove}
use Rattle.inno_db.specs.declared.limits.TheConstants.{MOST_COLUMNS, MOST_KEYS}
use Rattle.schema_codec.specs.Schema.{IsSchema}
use Rattle.log_format.specs.Group.{IsValue, IsRecord, record_bytes}
use Rattle.law_crashes.specs.Records.{record_of}
use Rattle.commit_log.specs.declared.room.TheConstants.{MOST_RECORD}

-- A table that the log can make: the numbers of its schema fit their fields, and its columns and keys are few.
pub record IsLoggable (schema : Schema) : Type 0 where
  pub fits : IsSchema schema
  pub columns : length schema.columns ≤ MOST_COLUMNS
  pub keys : length schema.keys ≤ MOST_KEYS

-- it makes such a table, or it is of few and short values
abbrev pub IsShort : Change → Type 0
IsShort (Create schema) = IsLoggable schema
IsShort (Put table row) = (table < 256) × (length row ≤ MOST_COLUMNS) × All IsValue row
IsShort (Remove table key) = (table < 256) × IsValue key

-- The change has a record, and no long one.
pub record HasRecord (change : Change) : Type 0 where
  pub fits : IsRecord (record_of change)
  pub short : length (record_bytes (record_of change)) ≤ MOST_RECORD
