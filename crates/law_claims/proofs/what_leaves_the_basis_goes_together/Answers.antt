use Rattle.law_claims.proofs.Standing.{basis_append}
use Rattle.law_claims.proofs.what_leaves_the_basis_goes_together.Goals as goal

pub returns : goal.returns
returns c basis db later earlier first then = basis_append basis db later earlier first then
