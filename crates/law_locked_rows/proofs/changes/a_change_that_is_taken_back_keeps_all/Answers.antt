use Rattle.law_locked_rows.proofs.TakenBack.{taken_held}
use Rattle.law_locked_rows.proofs.changes.a_change_that_is_taken_back_keeps_all.Goals as goal

pub returns : goal.returns
returns c t keep store mid cut new granted now desk next held taken apart keeps keeps_mine =
    taken_held t keep store mid cut new granted held taken.told taken.tells desk taken.at_desk taken.doing next taken.going
    taken.done taken.back taken.new_is taken.keep_is taken.few now apart keeps keeps_mine
