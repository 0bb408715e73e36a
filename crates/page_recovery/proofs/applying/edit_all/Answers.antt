use Rattle.std.proofs.Common.{◌+◌, take, length}
use Rattle.page_recovery.proofs.Becoming.{edits_next, one_more, records_of}
use Rattle.page_recovery.proofs.applying.edit_all.Goals as goal

pub loop-record-preserved : goal.loop-record-preserved
loop-record-preserved c =
    let rs = c.args.records.now in
    let i = c.loop-record.record-index in
    let r = c.record-item.result in
    edits_next c.args.lsn (take i rs) (take (i + 1) rs) r c.args.pages.now c.loop-record.pages c.edit.new.pages c.requires.whole
    (records_of (length c.args.pages.now) i rs c.requires.may)
    (one_more rs i r c.loop-record-test.true c.record-item.is) c.loop-record.invariant c.in_ok-edit.ensures
