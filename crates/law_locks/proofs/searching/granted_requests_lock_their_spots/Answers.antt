use Rattle.law_locks.proofs.Granting as lemmas
use Rattle.law_locks.proofs.searching.granted_requests_lock_their_spots.Goals as goal

pub returns : goal.returns
returns c = record {
  gap = λ old new lock is gap. lemmas.granted_gap lock old new is gap;
  own = λ old new lock key is at own. lemmas.granted_record lock key at old new is own;
  alone = λ old new lock key is at own alone. lemmas.granted_alone lock key at old new is own alone;
}
