use Rattle.law_logged_histories.proofs.Fits.{fitting_has_record}
use Rattle.law_logged_histories.proofs.loggable.a_change_that_fits_has_a_record.Goals as goal

pub returns : goal.returns
returns c = fitting_has_record
