use Rattle.undo_log.proofs.Standing.{earlier_stays}
use Rattle.undo_log.proofs.laws.earlier_records_stay.Goals as goal

pub returns : goal.returns
returns c = λ page at bytes old new appended told place table undone key value first last stands.
    earlier_stays page at bytes old new appended told place table undone key value first last stands
