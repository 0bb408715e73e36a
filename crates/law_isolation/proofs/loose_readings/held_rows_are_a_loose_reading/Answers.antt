use Rattle.law_isolation.proofs.Retained.{rows_found}
use Rattle.law_isolation.proofs.Seen.{held_loose}
use Rattle.law_isolation.proofs.loose_readings.held_rows_are_a_loose_reading.Goals as goal

pub returns-clause-reading : goal.returns-clause-reading
returns-clause-reading c = held_loose

pub returns-clause-rows : goal.returns-clause-rows
returns-clause-rows c = λ table test found db. rows_found table test found db
