use Rattle.law_claims.proofs.Keeping.{kept_is_left}
use Rattle.law_claims.proofs.what_is_kept_is_left.Goals as goal

pub returns : goal.returns
returns c s other claim past writer db kept differ = kept_is_left s claim past writer kept db other differ
