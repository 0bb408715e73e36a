use Rattle.law_crashes.proofs.Durable.{durable_entry}
use Rattle.law_crashes.proofs.keeping.an_entry_leaves_the_log.Goals as goal

pub returns : goal.returns
returns c = durable_entry
