use Rattle.sql_prefix.proofs.Longer.{front_begins, no_longer}
use Rattle.sql_prefix.proofs.place.no_longer_prefix_begins.Goals as goal

pub returns-clause-fronts : goal.returns-clause-fronts
returns-clause-fronts c = front_begins

pub returns-clause-longest : goal.returns-clause-longest
returns-clause-longest c = no_longer
