use Rattle.law_locked_rows.proofs.SearchSteps.{next_entry}
use Rattle.law_locked_rows.proofs.searches.a_search_comes_to_the_next_key.Goals as goal

pub returns : goal.returns
returns c store old new held s work schema scan lock made log passed pair asks is next =
    next_entry held asks.told asks.has_work asks.searching scan asks.there asks.which lock asks.granted asks.apart asks.mine passed is
    pair next.first next.within next.index next.key next.gap next.own
