use Rattle.std.proofs.Common.{ℕ, List, ◌++◌, ap, ◌∙◌, append_assoc}
use Rattle.row_codec.specs.Rows.{fields_code}
use Rattle.row_codec.proofs.Stored.{row_before, row_behind, others_are}
use Rattle.row_codec.proofs.write.put_others.Goals as goal

pub put_fields-requires : goal.put_fields-requires
put_fields-requires c = row_before c.args.place c.args.columns.now _ c.args.row.now _ c.around.ensures.before c.around-2.ensures.before c.requires

pub put_fields-requires-2 : goal.put_fields-requires-2
put_fields-requires-2 c = row_behind c.args.place c.args.columns.now _ c.args.row.now _ c.around.ensures.behind c.around-2.ensures.behind c.requires

pub returns : goal.returns
returns c =
    let others = others_are c.args.place c.args.columns.now c.around.result.0.now c.around.result.1.now c.args.row.now c.around-2.result.0.now c.around-2.result.1.now c.around.ensures.before c.around.ensures.behind c.around-2.ensures.before c.around-2.ensures.behind c.requires in
    let first = c.in_ok-put_fields.ensures.ok in
    let second = c.in_ok-put_fields-2.ensures.ok in
    record { ok = second ∙ ap (λ (l : List ℕ). l ++ fields_code c.around.result.1.now c.around-2.result.1.now) first ∙ append_assoc c.args.out.now.items (fields_code c.around.result.0.now c.around-2.result.0.now) (fields_code c.around.result.1.now c.around-2.result.1.now) ∙ ap (λ (l : List ℕ). c.args.out.now.items ++ l) others }
