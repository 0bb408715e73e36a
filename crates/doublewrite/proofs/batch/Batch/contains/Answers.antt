use Rattle.std.proofs.Common.{sym, ◌∙◌, ap, arith}
use Rattle.stored_pages.specs.Words.{number_of}
use Rattle.doublewrite.proofs.batch.Batch.contains.Goals as goal

pub returns-then-number_in-number : goal.returns-then-number_in-number
returns-then-number_in-number c =
    let there = ap number_of (sym c.page.ensures.value) ∙ sym c.number_in.ensures ∙ c.if-number_in-number.true in
    (c.loop-slot.slot, omega (arith, c.loop-slot-test.true, c.len-slot-end.ensures.value), there)
