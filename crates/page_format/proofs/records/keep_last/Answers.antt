use Rattle.page_format.proofs.Edited.{last_records}
use Rattle.page_format.proofs.records.keep_last.Goals as goal

pub returns : goal.returns
returns c =
    let new = rw (c.place_of-at.ensures, c.place_of-end.ensures, c.read_u16-count.ensures) at c.remove_piece.ensures in
    let final = rw c.read_u16-count.ensures at c.set_count.ensures in
    let done = last_records c.args.bytes.now c.remove_piece.new.bytes c.set_count.new.bytes c.args.i c.requires.size c.requires.fields c.requires.place new final in
    record { fields = done.0; records = done.1; kept = done.2 }
