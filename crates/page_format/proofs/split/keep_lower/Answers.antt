use Rattle.page_format.proofs.Halves.{lower}
use Rattle.page_format.proofs.split.keep_lower.Goals as goal

pub returns : goal.returns
returns c =
    lower c.args.bytes.now c.keep_first.new.bytes c.set_high.new.bytes c.set_right.new.bytes c.args.i c.args.key.now c.args.number c.keep_first.ensures.kept c.keep_first.ensures.records c.set_high.ensures.records c.set_high.ensures.high
    c.set_high.ensures.front c.set_high.ensures.between c.set_right.ensures.fields c.set_right.ensures.records c.set_right.ensures.right c.set_right.ensures.front c.set_right.ensures.back
