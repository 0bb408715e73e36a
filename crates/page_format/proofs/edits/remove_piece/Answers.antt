use Rattle.page_format.proofs.Moved.{removed}
use Rattle.page_format.proofs.edits.remove_piece.Goals as goal

pub returns : goal.returns
returns c = removed c.args.bytes.now c.move_piece.new.bytes c.clear.new.bytes c.args.at c.args.end c.args.len c.requires.order c.requires.inside c.move_piece.ensures c.clear.ensures
