use Rattle.law_locked_rows.proofs.Owning.{owns_by_request}
use Rattle.law_locked_rows.proofs.ownership.who_is_granted_the_record_owns_the_place.Goals as goal

pub returns : goal.returns
returns c s place state session work key lock old new has key_is txn spot kind mode granted =
    owns_by_request s place state session work key lock old new has key_is txn spot kind mode granted
