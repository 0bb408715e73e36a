use Rattle.law_locks.proofs.Pinning as lemmas
use Rattle.law_locks.proofs.pins.changes_keep_what_is_guarded.Goals as goal

pub returns : goal.returns
returns c = record {
  made = λ txn index records locks key made undo log is within was. lemmas.changed_guarded txn index records locks key made undo log within is was;
  back = λ txn index records locks key made undo log within was. lemmas.put_back_guarded txn index records locks key made undo log within was;
}
