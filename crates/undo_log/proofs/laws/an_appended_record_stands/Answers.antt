use Rattle.undo_log.proofs.Standing.{appended_stands}
use Rattle.undo_log.proofs.laws.an_appended_record_stands.Goals as goal

pub returns : goal.returns
returns c = λ page at table undone key value old new appended has told. appended_stands page at table undone key value old new appended has told
