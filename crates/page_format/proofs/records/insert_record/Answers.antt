use Rattle.page_format.proofs.Edited.{inserted_record}
use Rattle.page_format.proofs.records.insert_record.Goals as goal

pub returns : goal.returns
returns c =
    let new = rw (c.place_of-at.ensures, c.place_of-end.ensures, c.read_u16-count.ensures) at c.insert_piece.ensures in
    let final = rw c.read_u16-count.ensures at c.set_count.ensures in
    let done = inserted_record c.args.bytes.now c.insert_piece.new.bytes c.set_count.new.bytes c.args.rec.now c.args.i c.requires.size c.requires.fields c.requires.place c.requires.width c.requires.room new final in
    record { fields = done.0; records = done.1; kept = done.2 }
