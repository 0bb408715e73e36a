use Rattle.std.proofs.Common.{◌∙◌, ap, List, ℕ, ◌++◌}
use Rattle.std.specs.Prelude.{codes}
use Rattle.std.proofs.lemmas.Result.{on_ok_weaker}
use Rattle.script_generator.specs.Dump.{create_text, name_text, columns_text}
use Rattle.script_generator.proofs.DumpAppended.{three}
use Rattle.script_generator.proofs.tables.push_create.Goals as goal

pub returns : goal.returns
unfolding create_text
returns c =
    on_ok_weaker c.push_body.result
    (three c.args.out.now.items (codes "CREATE TABLE ") (name_text c.args.schema.now.name) (columns_text c.args.schema.now) c.push_text.new.out.items c.push_name.new.out.items c.push_body.new.out.items
    c.in_ok-push_text.ensures (c.in_ok-push_name.ensures ∙ ap (λ (name : List ℕ). c.push_text.new.out.items ++ name_text name) c.as_slice.ensures))
    c.push_body.ensures
