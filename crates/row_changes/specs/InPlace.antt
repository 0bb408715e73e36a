-- How far a step came that was made where the change lies, as one that hands the change on.
use Rattle.std.specs.Prelude.{List, Option}
use Rattle.inno_types.specs.declared.value.Value.{Value}
use Rattle.store_api.specs.{declared.moves.Move.Move, declared.stepped.Stepped.Stepped}
use Rattle.store_api.specs.declared.stepped.Stepped.TheVariants as stepped
use Rattle.row_changes.specs.{Reached.Reached, Reached.Went, Reached.Done, Reached.Hindered, declared.record_change.RecordChange.RecordChange}
use Rattle.row_changes.specs.RecordReached.{RecordReached}
use Rattle.row_changes.specs.RecordReached as records

abbrev pub reached_at : {T : Type 0} → T → Stepped (Unit {0}) Move → Reached T
reached_at next stepped.Went = Went next
reached_at next (stepped.Done over) = Done
reached_at next (stepped.Hindered why) = Hindered next why

abbrev pub record_reached : RecordChange → Stepped (Option (List Value)) Move → RecordReached
record_reached next stepped.Went = records.Went next
record_reached next (stepped.Done before) = records.Recorded before
record_reached next (stepped.Hindered why) = records.Hindered next why
