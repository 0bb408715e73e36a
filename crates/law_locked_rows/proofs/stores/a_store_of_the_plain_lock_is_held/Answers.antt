use Rattle.law_locked_rows.proofs.Quiet.{held_by_all}
use Rattle.law_locked_rows.proofs.stores.a_store_of_the_plain_lock_is_held.Goals as goal

pub returns : goal.returns
returns c store granted held owned apart searches = held_by_all held owned apart searches
