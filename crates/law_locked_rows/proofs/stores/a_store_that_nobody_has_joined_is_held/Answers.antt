use Rattle.law_locked_rows.proofs.Begins.{first_all}
use Rattle.law_locked_rows.proofs.stores.a_store_that_nobody_has_joined_is_held.Goals as goal

pub returns : goal.returns
returns c state told fresh = first_all state told fresh
