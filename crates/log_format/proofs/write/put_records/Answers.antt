use Rattle.std.proofs.Common.{[], arith, sym}
use Rattle.std.proofs.lemmas.List.{append-nil}
use Rattle.std.proofs.lemmas.Result.{err_from_is_err_and}
use Rattle.log_format.specs.Group.{record_bytes}
use Rattle.schema_codec.proofs.Puts.{head_only, one_put, is_short, all_put}
use Rattle.log_format.proofs.write.put_records.Goals as goal

pub loop-item-init : goal.loop-item-init
loop-item-init c = head_only record_bytes c.args.items.now [] c.args.out.now c.args.out.now (sym (append-nil c.args.out.now.items)) (omega arith) (omega arith)

pub loop-item-preserved : goal.loop-item-preserved
loop-item-preserved c =
    one_put record_bytes c.args.items.now [] c.args.out.now c.loop-item.item-index c.item-item.result c.loop-item.out c.put_record.new.out c.loop-item.invariant c.loop-item-test.true c.item-item.is c.in_ok-put_record.ensures.ok c.in_ok-put_record.ensures.len c.in_ok-put_record.ensures.grows

pub returns-in_err-put_record-clause-grows : goal.returns-in_err-put_record-clause-grows
returns-in_err-put_record-clause-grows c = omega (arith, c.loop-item.invariant.grows, c.in_err-put_record.ensures.grows)

pub returns-in_err-put_record-clause-full : goal.returns-in_err-put_record-clause-full
returns-in_err-put_record-clause-full c =
    let p = err_from_is_err_and c.from_residual.result c.from_residual.ensures.1 in
    rw p.1 (is_short record_bytes c.args.items.now [] c.args.out.now c.loop-item.item-index c.item-item.result c.loop-item.out c.loop-item.invariant c.loop-item-test.true c.item-item.is c.in_err-put_record.ensures.full)

pub returns : goal.returns
returns c =
    let all = all_put record_bytes c.args.items.now [] c.args.out.now c.loop-item.item-index c.loop-item.out c.loop-item-test.false c.loop-item.invariant in
    record { ok = all.whole; len = all.len; grows = all.grows; full = tt }
