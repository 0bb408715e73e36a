use Rattle.law_locked_rows.proofs.Ending.{rows_seen_now, plan_kept}
use Rattle.law_locked_rows.proofs.searched.a_search_that_is_over_has_its_rows.Goals as goal

pub returns-clause-rows : goal.returns-clause-rows
returns-clause-rows c store granted s made session work schema scan log plan rows held told has searching there le which_is range_is is order =
    rows_seen_now held told has searching scan there le plan which_is range_is is rows order

pub returns-clause-keeps : goal.returns-clause-keeps
returns-clause-keeps c store granted s made session work schema scan log plan held told has searching there le which_is range_is is =
    plan_kept held told has searching scan there le plan which_is range_is is
