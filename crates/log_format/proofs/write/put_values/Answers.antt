use Rattle.std.proofs.Common.{[], ◌∷◌, length, arith}
use Rattle.std.proofs.lemmas.Result.{err_from_is_err_and}
use Rattle.log_format.specs.Group.{value_bytes}
use Rattle.schema_codec.proofs.Puts.{head_only, one_put, is_short, all_put}
use Rattle.log_format.proofs.write.put_values.Goals as goal

pub loop-item-init : goal.loop-item-init
loop-item-init c = head_only value_bytes c.args.items.now (length c.args.items.now ∷ []) c.args.out.now c.push.new.self c.in_ok-push.ensures.items c.in_ok-push.ensures.len c.in_ok-push.ensures.capacity

pub loop-item-preserved : goal.loop-item-preserved
loop-item-preserved c =
    one_put value_bytes c.args.items.now (length c.args.items.now ∷ []) c.args.out.now c.loop-item.item-index c.item-item.result c.loop-item.out c.put_value.new.out c.loop-item.invariant c.loop-item-test.true c.item-item.is c.in_ok-put_value.ensures.ok c.in_ok-put_value.ensures.len c.in_ok-put_value.ensures.grows

pub returns-in_err-put_value-clause-grows : goal.returns-in_err-put_value-clause-grows
returns-in_err-put_value-clause-grows c = omega (arith, c.loop-item.invariant.grows, c.in_err-put_value.ensures.grows)

pub returns-in_err-put_value-clause-full : goal.returns-in_err-put_value-clause-full
returns-in_err-put_value-clause-full c =
    let p = err_from_is_err_and c.from_residual-in_err-put_value.result c.from_residual-in_err-put_value.ensures.1 in
    rw p.1 (is_short value_bytes c.args.items.now (length c.args.items.now ∷ []) c.args.out.now c.loop-item.item-index c.item-item.result c.loop-item.out c.loop-item.invariant c.loop-item-test.true c.item-item.is c.in_err-put_value.ensures.full)

pub returns : goal.returns
returns c =
    let all = all_put value_bytes c.args.items.now (length c.args.items.now ∷ []) c.args.out.now c.loop-item.item-index c.loop-item.out c.loop-item-test.false c.loop-item.invariant in
    record { ok = all.whole; len = all.len; grows = all.grows; full = tt }
