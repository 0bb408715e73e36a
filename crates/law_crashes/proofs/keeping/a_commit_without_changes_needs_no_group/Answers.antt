use Rattle.law_crashes.proofs.Durable.{durable_nothing}
use Rattle.law_crashes.proofs.keeping.a_commit_without_changes_needs_no_group.Goals as goal

pub returns : goal.returns
returns c = λ root now past log due later s d none reaches rise. durable_nothing root now past log due d s later none reaches rise
