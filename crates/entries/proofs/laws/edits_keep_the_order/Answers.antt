use Rattle.entries.proofs.Edits.{rising_with, rising_without}
use Rattle.entries.proofs.laws.edits_keep_the_order.Goals as goal

pub returns-clause-put : goal.returns-clause-put
returns-clause-put c = rising_with

pub returns-clause-removed : goal.returns-clause-removed
returns-clause-removed c = rising_without
