use Rattle.page_recovery.proofs.Untouched.{as_it_was}
use Rattle.page_recovery.proofs.laws.a_page_below_the_run_is_as_it_was.Goals as goal

pub returns : goal.returns
returns c = as_it_was
