use Rattle.std.proofs.Common.{arith}
use Rattle.std.proofs.lemmas.Grind.{common_steps}
use Rattle.script.proofs.Bounds.{largest_grows, largest_fits}
use Rattle.script.proofs.directive.number_of.Goals as goal

pub overflow_mul-number : goal.overflow_mul-number
overflow_mul-number c =
    let next = largest_grows c.loop-digit.digit-index c.loop-digit.number 0 c.loop-digit.invariant.small (omega arith) in
    let fits = largest_fits c.loop-digit.digit-index (omega (arith, c.loop-digit-test.true, c.requires)) in
    omega (arith, next, fits)

pub overflow_add-number : goal.overflow_add-number
overflow_add-number c =
    let next = largest_grows c.loop-digit.digit-index c.loop-digit.number c.from.result c.loop-digit.invariant.small (omega (arith, c.saturating_sub.type_inv, c.from.ensures)) in
    let fits = largest_fits c.loop-digit.digit-index (omega (arith, c.loop-digit-test.true, c.requires)) in
    omega (arith, next, fits)

pub loop-digit-preserved : goal.loop-digit-preserved
loop-digit-preserved c = record {
  told = grind (arith, common_steps, c.loop-digit.invariant.told);
  small = largest_grows c.loop-digit.digit-index c.loop-digit.number c.from.result c.loop-digit.invariant.small (omega (arith, c.saturating_sub.type_inv, c.from.ensures));
}
