-- Changes that make tables.
use Rattle.inno_db.specs.declared.change.Change.{Change}
use Rattle.inno_db.specs.declared.change.Change.TheVariants.{Create}
use Rattle.commit_log.specs.Room.{IsLoggable}

-- if it makes a table, then one that the log can make
abbrev pub MakesLoggable : Change → Type 0
MakesLoggable (Create schema) = IsLoggable schema
MakesLoggable other = Unit {0}
