use Rattle.std.proofs.Common.{◌∙◌}
use Rattle.inno_db.specs.Seen.{seen}
use Rattle.inno_db.proofs.Placing.{put_there, put_before}
use Rattle.inno_db.proofs.rows.put_row.Goals as goal

pub returns-in-Ok-clause-ok : goal.returns-in-Ok-clause-ok
returns-in-Ok-clause-ok c =
    put_there c.args.schema.now c.args.rows.now.items c.as_slice.result.now c.as_slice.ensures.value c.requires.rising c.in-Ok.place
    c.args.row (seen c.key_of_row.result) c.key_of_row.ensures (c.in-Ok.ensures.within, c.in-Ok.ensures.place)

pub returns-in_ok-insert-in-Err-clause-ok : goal.returns-in_ok-insert-in-Err-clause-ok
returns-in_ok-insert-in-Err-clause-ok c =
    c.in_ok-insert-in-Err.ensures.items
    ∙ put_before c.args.schema.now c.args.rows.now.items c.as_slice.result.now c.as_slice.ensures.value c.requires.rising c.in-Err.place
    c.args.row (seen c.key_of_row.result) c.key_of_row.ensures (c.in-Err.ensures.within, c.in-Err.ensures.place)
