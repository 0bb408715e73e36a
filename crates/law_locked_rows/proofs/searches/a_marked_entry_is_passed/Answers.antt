use Rattle.std.proofs.Common.{arith, ◌∙◌}
use Rattle.law_locked_rows.proofs.KeySteps.{marked_entry}
use Rattle.law_locked_rows.proofs.searches.a_marked_entry_is_passed.Goals as goal

pub returns : goal.returns
returns c store old new held s work schema scan lock made log passed pair at key owned asks is next which_is key_is marked =
    marked_entry held owned asks.told asks.has_work asks.searching scan asks.there asks.which lock asks.granted asks.apart asks.mine passed is pair next.first
    next.within next.index next.key next.gap next.own at key (which_is ∙ omega arith) key_is marked
