use Rattle.lock_table.proofs.Covering.{covered_after_insertion}
use Rattle.lock_table.proofs.laws.insertion_keeps_coverage.Goals as goal

pub returns : goal.returns
returns c records new_key new next inserter intention granted txn key insertion stand may other is =
    covered_after_insertion records new_key new next insertion inserter intention key other txn granted stand may is
