use Rattle.std.proofs.Common.{inl, refl, arith}
use Rattle.page_format.proofs.Headed.{tree_over, number_over}
use Rattle.page_format.proofs.header.set_number.Goals as goal

pub returns : goal.returns
returns c =
    let new = rw c.u32_bytes.ensures at c.write_over.ensures in
    let done = number_over c.args.bytes.now c.write_over.new.bytes 8 c.args.number c.ranges.number.fits (omega (arith, c.requires.size)) new in
    let tree = tree_over c.args.bytes.now c.write_over.new.bytes 8 (inl refl) c.requires.fields done.1 done.2 in
    record { fields = tree.0; records = tree.1; number = done.0; front = done.1; back = done.2 }
