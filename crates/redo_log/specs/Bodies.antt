-- The records of a group, as they are or spelled already.
use Rattle.std.specs.Prelude.{◌≡◌, List}
use Rattle.log_format.specs.declared.group.Record.{Record}
use Rattle.log_format.specs.Group.{AreRecords, IsSpelled}
use Rattle.redo_log.specs.declared.body.Body.{Body}
use Rattle.redo_log.specs.declared.body.Body.TheVariants as of

-- the body is of these records
abbrev pub IsOf : List Record → Body → Type 0
IsOf records (of.Records own) = (own.now ≡ records) × AreRecords records
IsOf records (of.Spelled count bytes) = IsSpelled records count bytes.now
