use Rattle.law_locked_rows.proofs.SearchSteps.{behind_range, at_supremum}
use Rattle.law_locked_rows.proofs.searches.a_search_is_over_behind_its_range.Goals as goal

pub returns-clause-record_there : goal.returns-clause-record_there
returns-clause-record_there c store old new held s work schema scan lock made log passed pair asks is index first out key_is gap =
    behind_range held asks.told asks.has_work asks.searching scan asks.there asks.which lock asks.granted asks.apart asks.mine passed is index pair first
    out key_is gap

pub returns-clause-supremum : goal.returns-clause-supremum
returns-clause-supremum c store old new held s work schema scan lock made log passed asks is index none key_is gap =
    at_supremum held asks.told asks.has_work asks.searching scan asks.there asks.which lock asks.granted asks.apart asks.mine passed is index none key_is gap
