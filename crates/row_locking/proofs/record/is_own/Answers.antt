use Rattle.std.proofs.Common.{◌∙◌, sym}
use Rattle.row_locking.proofs.Visiting.{from_ok, tells_own}
use Rattle.row_locking.proofs.record.is_own.Goals as goal

pub returns : goal.returns
returns c coded code =
    tells_own c.args.schema.now c.args.which c.requires c.args.entry.now c.args.bytes.now c.entry_from.new.out.items coded code
    (rw c.primary_of.ensures at (from_ok c.entry_from.result (sym c.is_err.ensures.value ∙ c.if-is_err.false)
    (c.entry_from.ensures.ok coded code.numbers (rw c.primary_of.ensures code.record_is)))) c.eq-same.result (rw c.as_slice.ensures.value at c.eq-same.ensures)
