use Rattle.std.specs.Prelude.{codes}
use Rattle.std.proofs.lemmas.Result.{on_ok_weaker}
use Rattle.script_generator.specs.Dump.{insert_text, name_text, values_text}
use Rattle.script_generator.proofs.DumpAppended.{three}
use Rattle.script_generator.proofs.rows.push_row.Goals as goal

pub returns : goal.returns
unfolding insert_text
returns c =
    on_ok_weaker c.push_values.result
    (three c.args.out.now.items (codes "INSERT INTO ") (name_text c.args.table.now) (values_text c.args.row.now) c.push_text.new.out.items c.push_name.new.out.items c.push_values.new.out.items
    c.in_ok-push_text.ensures c.in_ok-push_name.ensures)
    c.push_values.ensures
