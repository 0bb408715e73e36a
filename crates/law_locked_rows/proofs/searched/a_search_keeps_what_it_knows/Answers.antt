use Rattle.law_locked_rows.proofs.Keeping.{locking_kept, entry_kept}
use Rattle.law_locked_rows.proofs.searched.a_search_keeps_what_it_knows.Goals as goal

pub returns-clause-locking : goal.returns-clause-locking
returns-clause-locking c schema scan s txn made log old new granted now passes leaves stay is = locking_kept leaves stay is

pub returns-clause-at_entry : goal.returns-clause-at_entry
returns-clause-at_entry c schema scan s txn made log old new granted now entry leaves stay is = entry_kept leaves stay is
