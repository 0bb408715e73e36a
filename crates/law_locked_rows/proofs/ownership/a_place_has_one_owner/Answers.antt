use Rattle.law_locked_rows.proofs.Owning.{one_owner}
use Rattle.law_locked_rows.proofs.ownership.a_place_has_one_owner.Goals as goal

pub returns : goal.returns
returns c chains state granted s t place agrees apart differs mine theirs = one_owner agrees apart s t place differs mine theirs
