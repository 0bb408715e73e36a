use Rattle.law_locked_rows.proofs.Beginning.{begins}
use Rattle.law_locked_rows.proofs.searches.a_search_begins.Goals as goal

pub returns : goal.returns
returns c schema scan s txn made log state granted empty = begins schema scan s txn made log state granted empty
