use Rattle.lock_table.proofs.Covering.{covered_after_removal}
use Rattle.lock_table.proofs.laws.removal_keeps_coverage.Goals as goal

pub returns : goal.returns
returns c records gone_key gone next by granted waiting txn key removal not_undone upper is =
    covered_after_removal records gone_key gone next removal by key txn not_undone granted waiting upper is
