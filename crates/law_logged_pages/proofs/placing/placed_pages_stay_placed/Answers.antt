use Rattle.law_logged_pages.proofs.Afterwards.{placed_still}
use Rattle.law_logged_pages.proofs.placing.placed_pages_stay_placed.Goals as goal

pub returns : goal.returns
returns c = λ first flushed groups base staged before s placed may done has all.
    placed_still staged may.is_batch s has all before done first flushed groups base placed may
