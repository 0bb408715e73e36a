use Rattle.page_format.proofs.Moved.{inserted}
use Rattle.page_format.proofs.edits.insert_piece.Goals as goal

pub returns : goal.returns
returns c = inserted c.args.bytes.now c.move_piece.new.bytes c.write_over.new.bytes c.args.piece.now c.args.at c.args.end c.requires.order c.requires.room c.move_piece.ensures c.write_over.ensures
