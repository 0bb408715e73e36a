use Rattle.commit_log.proofs.Short.{has_record}
use Rattle.commit_log.proofs.laws.a_short_change_has_a_record.Goals as goal

pub returns : goal.returns
returns c = has_record
