use Rattle.std.proofs.Common.{arith}
use Rattle.std.proofs.lemmas.Grind.{common_steps}
use Rattle.key_codec.specs.Keys.{Has64Bits}
use Rattle.engine.proofs.Each.{one_more, all_of_them}
use Rattle.engine.proofs.Fitting.{as_many, begins, goes_on}
use Rattle.engine.proofs.rows.row_fits.Goals as goal

pub returns-then-columns-row-clause-fits : goal.returns-then-columns-row-clause-fits
returns-then-columns-row-clause-fits c = (λ yes. absurd (cc), λ is. absurd (c.if-columns-row.true (as_many c.args.columns.now c.args.row.now is)))

pub loop-place-preserved : goal.loop-place-preserved
loop-place-preserved c =
    let columns = c.args.columns.now in
    let row = c.args.row.now in
    let place = c.loop-place.place in
    let column = c.index-columns-place.result in
    let value = c.index-row-place.result in
    let fits = c.value_fits.ensures.fits.0 c.if-not-value_fits.false in
    record {
      range = one_more Has64Bits row place value c.loop-place.invariant.range c.loop-place-test.true c.index-row-place.is
          (c.value_fits.ensures.range c.if-not-value_fits.false);
      whole = λ left. c.loop-place.invariant.whole
          (goes_on columns row place column value c.if-columns-row.false c.loop-place-test.true c.index-columns-place.is c.index-row-place.is fits left);
      rest = λ is.
          (begins columns row place column value c.if-columns-row.false c.loop-place-test.true c.index-columns-place.is c.index-row-place.is
          (c.loop-place.invariant.rest is)).1;
    }

pub returns-clause-range : goal.returns-clause-range
returns-clause-range c = λ yes. all_of_them Has64Bits c.args.row.now c.loop-place.place c.loop-place.invariant.range c.loop-place-test.false

pub returns-then-not-value_fits-clause-fits : goal.returns-then-not-value_fits-clause-fits
returns-then-not-value_fits-clause-fits c = grind (arith, common_steps) steps 2000000
