use Rattle.law_locks.proofs.Pinning as lemmas
use Rattle.law_locks.proofs.pins.insertions_keep_what_is_guarded.Goals as goal

pub returns : goal.returns
returns c = record {
  others =
      λ txn inserter records new_key key new next old locks made log inserts was. lemmas.inserted_guarded txn inserter records new_key key new next old locks
      inserts made log was;
  own =
      λ txn records new_key key new next old locks made undo log inserts is within was. lemmas.inserted_with_log txn txn records new_key key new next old
      locks inserts made undo log is within was;
}
