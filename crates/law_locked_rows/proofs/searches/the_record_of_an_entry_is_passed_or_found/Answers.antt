use Rattle.law_locked_rows.proofs.SearchSteps.{absent_behind, marked_behind, other_behind, row_found}
use Rattle.law_locked_rows.proofs.searches.the_record_of_an_entry_is_passed_or_found.Goals as goal

pub returns : goal.returns
returns c = record {
  absent = λ store old new held s work schema scan lock made log entry asks at its none.
      absent_behind held asks.told asks.has_work asks.searching scan asks.there asks.which lock asks.granted asks.apart asks.mine at
      (its.value, its.key_is, its.whole) its.index its.key its.own none;
  marked = λ store old new held s work schema scan lock made log entry bytes coded asks at its found code is_marked.
      marked_behind held asks.told asks.has_work asks.searching scan asks.there asks.which lock asks.granted asks.apart asks.mine at
      (its.value, its.key_is, its.whole) its.index its.key its.own bytes coded found code is_marked;
  other = λ store old new held s work schema scan lock made log entry bytes coded asks at its found code is_not differs.
      other_behind held asks.told asks.has_work asks.searching scan asks.there asks.which lock asks.granted asks.apart asks.mine at
      (its.value, its.key_is, its.whole) its.index its.key its.own bytes coded found code is_not differs;
  found = λ store old new held s work schema scan lock made log entry bytes coded rows asks at its found code is_not same rows_are.
      row_found held asks.told asks.has_work asks.searching scan asks.there asks.which lock asks.granted asks.apart asks.mine at
      (its.value, its.key_is, its.whole) its.index its.key its.own bytes coded found code is_not same rows rows_are;
}
