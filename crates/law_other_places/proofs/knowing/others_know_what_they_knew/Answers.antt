use Rattle.law_other_places.proofs.Sessions.{rows_after}
use Rattle.law_other_places.proofs.knowing.others_know_what_they_knew.Goals as goal

pub returns : goal.returns
returns c t at chains after said old new desks now rows step work logs agrees knows =
    rows_after t rows step work logs agrees knows.row knows.lagging knows.settled knows.lagged
