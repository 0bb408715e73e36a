use Rattle.law_histories.proofs.Ended.{none_without_want}
use Rattle.law_histories.proofs.page_errors.want_of_pages_is_told_truly.Goals as goal

pub returns : goal.returns
returns c = none_without_want
