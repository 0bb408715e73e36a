use Rattle.page_format.proofs.Edited.{marked_record}
use Rattle.page_format.proofs.records.mark_record.Goals as goal

pub returns : goal.returns
returns c =
    let new = rw (c.place_of.ensures, c.from.ensures) at c.write_over.ensures in
    let done = marked_record c.args.bytes.now c.write_over.new.bytes c.args.i c.args.key_len c.args.mark c.requires.size c.requires.fields c.requires.place c.requires.key new in
    record { fields = done.0; records = done.1; kept = done.2 }
