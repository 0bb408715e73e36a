use Rattle.write_statement.proofs.Plans.{named_schema, plan_known}
use Rattle.write_statement.proofs.opening.plan_in.Goals as goal

pub plan_for-requires : goal.plan_for-requires
plan_for-requires c =
    (c.requires.storable c.args.table c.in-Some.schema.now
    (named_schema c.args.schemas.now c.as_slice.result.now c.from.result c.args.table c.in-Some.schema.now c.as_slice.ensures c.from.ensures
    c.in-Some.ensures.lookup.3.0 c.in-Some.ensures.lookup.1)).few

pub returns-in-Some : goal.returns-in-Some
returns-in-Some c =
    plan_known c.plan_for.result c.args.schemas.now c.args.table c.args.stmt.now c.in-Some.schema.now
    (named_schema c.args.schemas.now c.as_slice.result.now c.from.result c.args.table c.in-Some.schema.now c.as_slice.ensures c.from.ensures
    c.in-Some.ensures.lookup.3.0 c.in-Some.ensures.lookup.1)
    c.plan_for.ensures.chosen c.plan_for.ensures.enough
