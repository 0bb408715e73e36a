use Rattle.std.proofs.Common.{◌+◌, take}
use Rattle.page_recovery.proofs.Becoming.{stamps_next, one_more}
use Rattle.page_recovery.proofs.applying.stamp_all.Goals as goal

pub loop-record-preserved : goal.loop-record-preserved
loop-record-preserved c =
    let rs = c.args.records.now in
    let i = c.loop-record.record-index in
    let r = c.record-item.result in
    stamps_next c.args.lsn (take i rs) (take (i + 1) rs) r c.args.pages.now c.loop-record.pages c.stamp.new.pages c.requires.whole
    c.ranges.lsn.fits (one_more rs i r c.loop-record-test.true c.record-item.is) c.loop-record.invariant c.in_ok-stamp.ensures
