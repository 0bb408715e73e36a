use Rattle.page_format.proofs.Edited.{first_records}
use Rattle.page_format.proofs.records.keep_first.Goals as goal

pub returns : goal.returns
returns c =
    let new = rw (c.place_of-at.ensures, c.place_of-end.ensures, c.read_u16.ensures) at c.clear.ensures in
    let done = first_records c.args.bytes.now c.clear.new.bytes c.set_count.new.bytes c.args.i c.requires.size c.requires.fields c.requires.place new c.set_count.ensures in
    record { fields = done.0; records = done.1; kept = done.2 }
