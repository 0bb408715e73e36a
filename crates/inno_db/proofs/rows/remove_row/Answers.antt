use Rattle.std.proofs.Common.{◌∙◌}
use Rattle.inno_db.specs.Seen.{seen}
use Rattle.inno_db.proofs.Placing.{remove_there, remove_none}
use Rattle.inno_db.proofs.rows.remove_row.Goals as goal

pub returns-in-Ok : goal.returns-in-Ok
returns-in-Ok c =
    c.remove.ensures.items
    ∙ remove_there c.args.schema.now c.args.rows.now.items c.as_slice.result.now c.as_slice.ensures.value c.requires.rising c.in-Ok.place
    (seen c.of_value.result) c.args.key.now c.of_value.ensures (c.in-Ok.ensures.within, c.in-Ok.ensures.place)

pub returns-in_default : goal.returns-in_default
returns-in_default c =
    remove_none c.args.schema.now c.args.rows.now.items c.as_slice.result.now c.as_slice.ensures.value c.requires.rising c.in_default.field-0
    (seen c.of_value.result) c.args.key.now c.of_value.ensures (c.in_default.ensures.within, c.in_default.ensures.place)
