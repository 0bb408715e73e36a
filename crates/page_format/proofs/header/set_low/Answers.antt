use Rattle.std.proofs.Common.{arith}
use Rattle.page_format.proofs.Headed.{fenced, low_set}
use Rattle.page_format.proofs.header.set_low.Goals as goal

pub returns : goal.returns
returns c =
    let done = fenced 34 36 c.args.key.now c.args.bytes.now c.write_over.new.bytes c.write_over-2.new.bytes c.clear.new.bytes (omega arith) c.requires.key (omega (arith, c.requires.size)) c.write_over.ensures c.write_over-2.ensures c.clear.ensures in
    let tree = low_set c.args.bytes.now c.clear.new.bytes c.args.key.now c.requires.fields c.requires.key done in
    record { fields = tree.0; records = tree.1; low = tree.2; front = done.front; between = tree.3; back = done.back }
