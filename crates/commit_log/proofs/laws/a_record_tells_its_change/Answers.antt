use Rattle.commit_log.proofs.Short.{change_back}
use Rattle.commit_log.proofs.laws.a_record_tells_its_change.Goals as goal

pub returns : goal.returns
returns c = change_back
