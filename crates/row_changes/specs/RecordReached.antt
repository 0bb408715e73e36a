-- The same of a record that is being changed.
use Rattle.std.specs.Prelude.{List, Option}
use Rattle.inno_types.specs.declared.value.Value.{Value}
use Rattle.store_api.specs.declared.moves.Move.{Move}
use Rattle.row_changes.specs.declared.record_change.RecordChange.{RecordChange}

pub data RecordReached : Type 0 where
  Went : RecordChange → RecordReached
  -- The record stands and the history says so. The row was there before, for who reads the newest rows.
  Recorded : Option (List Value) → RecordReached
  -- nothing was done: `End` where a row that is to be removed isn't there
  Hindered : RecordChange → Move → RecordReached
