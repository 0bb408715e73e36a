use Rattle.std.proofs.Common.{rules}
use Rattle.std.proofs.lemmas.List.Elements.{All-nil}
use Rattle.log_format.specs.Group.{IsRecord}
use Rattle.schema_codec.proofs.Each.{one_more, all_of_them, item_of}
use Rattle.log_format.proofs.fits.records_fit.Goals as goal

pub loop-item-init : goal.loop-item-init
loop-item-init c = All-nil IsRecord

pub loop-item-preserved : goal.loop-item-preserved
loop-item-preserved c = one_more IsRecord c.args.items.now c.loop-item.item-index c.item-item.result c.loop-item.invariant c.loop-item-test.true c.item-item.is (c.record_fits.ensures.0 c.if-not-record_fits.false)

pub returns-then-not-record_fits : goal.returns-then-not-record_fits
returns-then-not-record_fits c = (λ yes. absurd (cc), λ is. c.if-not-record_fits.ensures.1 (item_of IsRecord c.args.items.now c.loop-item.item-index c.item-item.result c.loop-item-test.true c.item-item.is is))

pub returns : goal.returns
returns c =
    let all = all_of_them IsRecord c.args.items.now c.loop-item.item-index c.loop-item.invariant c.loop-item-test.false in
    (λ yes. all, λ is. search rules)
