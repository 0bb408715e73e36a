use Rattle.law_locks.proofs.Guarding.{removed_record, removed_alone, removed_pins}
use Rattle.law_locks.proofs.guards.removals_keep_other_records.Goals as goal

pub returns : goal.returns
returns c = record {
  records =
      λ txn by records gone_key key gone next granted waiting removes other has. removed_record txn by records gone_key key gone next granted waiting removes
      key other has;
  alone =
      λ txn by records gone_key key gone next granted waiting removes other has. removed_alone txn by records gone_key key gone next granted waiting removes
      key other has;
  pins =
      λ txn by records gone_key key gone next granted waiting removes other was. removed_pins txn by records gone_key key gone next granted waiting removes
      other was;
}
