use Rattle.page_format.proofs.Halves.{upper}
use Rattle.page_format.proofs.split.keep_upper.Goals as goal

pub returns : goal.returns
returns c =
    upper c.args.bytes.now c.keep_last.new.bytes c.set_low.new.bytes c.set_number.new.bytes c.args.i c.args.key.now c.args.number c.keep_last.ensures.kept c.keep_last.ensures.records c.set_low.ensures.records c.set_low.ensures.low
    c.set_low.ensures.front c.set_low.ensures.between c.set_low.ensures.back c.set_number.ensures.fields c.set_number.ensures.records c.set_number.ensures.number c.set_number.ensures.back
