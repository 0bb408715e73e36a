use Rattle.schema_codec.proofs.Each.{one_more, all_of_them}
use Rattle.page_recovery.specs.Applying.{IsWithin}
use Rattle.page_recovery.proofs.applying.page_past_in.Goals as goal

pub loop-record-preserved : goal.loop-record-preserved
loop-record-preserved c =
    one_more (IsWithin c.args.count) c.args.records.now c.loop-record.record-index c.record-item.result c.loop-record.invariant
    c.loop-record-test.true c.record-item.is c.in_default.ensures.within

pub returns-clause-within : goal.returns-clause-within
returns-clause-within c =
    all_of_them (IsWithin c.args.count) c.args.records.now c.loop-record.record-index c.loop-record.invariant c.loop-record-test.false
