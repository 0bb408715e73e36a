use Rattle.std.proofs.Common.{◌<◌, length, arith}
use Rattle.std.proofs.lemmas.Bool.Decides.{nat_tests}
use Rattle.std.proofs.lemmas.List.Elements.{All-nil}
use Rattle.log_format.specs.Group.{IsValue}
use Rattle.schema_codec.proofs.Each.{one_more, all_of_them, item_of}
use Rattle.log_format.proofs.fits.values_fit.Goals as goal

pub loop-item-init : goal.loop-item-init
loop-item-init c = All-nil IsValue

pub loop-item-preserved : goal.loop-item-preserved
loop-item-preserved c = one_more IsValue c.args.items.now c.loop-item.item-index c.item-item.result c.loop-item.invariant c.loop-item-test.true c.item-item.is (c.value_fits.ensures.0 c.if-not-value_fits.false)

pub returns-then-not-value_fits : goal.returns-then-not-value_fits
returns-then-not-value_fits c = (λ yes. absurd (cc), λ is. c.if-not-value_fits.ensures.1 (item_of IsValue c.args.items.now c.loop-item.item-index c.item-item.result c.loop-item-test.true c.item-item.is is.1))

pub returns : goal.returns
returns c =
    let n = length c.args.items.now in
    let all = all_of_them IsValue c.args.items.now c.loop-item.item-index c.loop-item.invariant c.loop-item-test.false in
    (λ few. let lt : n < 256 = grind (arith, nat_tests) in (lt, all), λ is. let lt : n < 256 = is.0 in grind (arith, nat_tests))
