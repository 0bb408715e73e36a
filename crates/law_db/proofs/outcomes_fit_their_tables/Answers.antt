use Rattle.law_db.proofs.Fits.{outcome-AllFit}
use Rattle.law_db.proofs.outcomes_fit_their_tables.Goals as goal

pub returns : goal.returns
returns c = λ stmt db rows_fit. outcome-AllFit db rows_fit stmt
