use Rattle.std.proofs.Common.{◌≡◌, ◌∙◌, ap, List, ℕ, ◌++◌}
use Rattle.std.specs.Prelude.{codes}
use Rattle.std.proofs.lemmas.Result.{on_ok_weaker}
use Rattle.inno_types.specs.declared.value.Column.{Column}
use Rattle.script_generator.specs.Dump.{primary_text, in_brackets}
use Rattle.script_generator.proofs.DumpAppended.{two}
use Rattle.script_generator.proofs.tables.push_primary.Goals as goal

pub returns : goal.returns
unfolding primary_text
returns c =
    let schema = c.args.schema.now in
    on_ok_weaker c.push_in_brackets.result
    (λ (e : c.push_in_brackets.new.out.items ≡ c.push_text.new.out.items ++ in_brackets c.as_slice.result.now schema.primary).
    two c.args.out.now.items (codes ", PRIMARY KEY") (in_brackets schema.columns schema.primary) c.push_text.new.out.items c.push_in_brackets.new.out.items
    c.in_ok-push_text.ensures (e ∙ ap (λ (columns : List Column). c.push_text.new.out.items ++ in_brackets columns schema.primary) c.as_slice.ensures))
    c.push_in_brackets.ensures
