use Rattle.std.specs.Prelude.{codes}
use Rattle.std.specs.Fmt.{decimal}
use Rattle.std.proofs.lemmas.Result.{on_ok_weaker}
use Rattle.script_generator.specs.Transfers.{where_text}
use Rattle.script_generator.proofs.Appended.{two}
use Rattle.script_generator.proofs.transfer.push_where.Goals as goal

pub returns : goal.returns
unfolding where_text
returns c =
    on_ok_weaker c.push_number.result
    (two c.args.out.now.items (codes " WHERE id = ") (decimal c.args.id) c.push_text.new.out.items c.push_number.new.out.items c.in_ok-push_text.ensures)
    c.push_number.ensures
