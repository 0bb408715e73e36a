use Rattle.sql_prefix.proofs.Refusals.{first_bad, exactly}
use Rattle.sql_prefix.proofs.parser.refusals_name_the_first_bad_byte.Goals as goal

pub returns-clause-named : goal.returns-clause-named
returns-clause-named c = first_bad

pub returns-clause-exact : goal.returns-clause-exact
returns-clause-exact c = exactly
