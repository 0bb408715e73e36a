use Rattle.std.proofs.Common.{refl}
use Rattle.law_locked_rows.proofs.SearchSteps.{one_entry}
use Rattle.law_locked_rows.proofs.searches.a_search_for_one_key_locks_its_record.Goals as goal

pub returns : goal.returns
returns c store old new held s work schema scan lock log passed pair bound asks is index first within key_is own zeroth low high wide =
    one_entry held asks.told asks.has_work asks.searching scan asks.there asks.which lock asks.granted asks.apart asks.mine passed is index pair first
    within key_is own refl zeroth bound low high wide
