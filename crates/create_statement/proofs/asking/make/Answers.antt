use Rattle.create_statement.proofs.Moving.{can_make, makes_table, makes_none}
use Rattle.create_statement.proofs.asking.make.Goals as goal

pub make_table-requires-clause-may : goal.make_table-requires-clause-may
make_table-requires-clause-may g c =
    let old = c.args.lists.now in
    let r = c.requires in
    can_make c.args.session old old c.args.stmt c.args.level c.args.schema r.running c.history.ensures.tables r.makes c.history.ensures.within

pub returns-in-Ok-clause-steps : goal.returns-in-Ok-clause-steps
returns-in-Ok-clause-steps g c =
    let r = c.requires in
    makes_table c.args.session c.args.lists.now c.make_table.new.self c.args.stmt c.args.level c.args.schema r.running c.history.ensures.tables r.makes r.free
    c.in-Ok.ensures.ok

pub returns-in-Err-clause-steps : goal.returns-in-Err-clause-steps
returns-in-Err-clause-steps g c =
    let r = c.requires in
    makes_none c.args.session c.args.lists.now c.make_table.new.self c.args.stmt c.args.level c.args.schema r.running c.history.ensures.tables r.makes r.free
    c.in-Err.ensures.err
