use Rattle.std.specs.Prelude.{codes}
use Rattle.std.specs.Fmt.{decimal}
use Rattle.std.proofs.lemmas.Result.{on_ok_weaker}
use Rattle.script_generator.specs.Transfers.{change_text}
use Rattle.script_generator.proofs.Appended.{three}
use Rattle.script_generator.proofs.transfer.push_change.Goals as goal

pub returns : goal.returns
unfolding change_text
returns c =
    on_ok_weaker c.push_number.result
    (three c.args.out.now.items (codes "UPDATE acct SET bal = bal ") c.args.sign.now (decimal c.args.amount) c.push_text.new.out.items c.push_text-2.new.out.items c.push_number.new.out.items
    c.in_ok-push_text.ensures c.in_ok-push_text-2.ensures)
    c.push_number.ensures
