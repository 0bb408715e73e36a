use Rattle.law_db.proofs.Applicable.{outcome-AreApplicable}
use Rattle.law_db.proofs.outcomes_can_be_made.Goals as goal

pub returns : goal.returns
returns c = λ stmt db. outcome-AreApplicable stmt db
