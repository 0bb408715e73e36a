use Rattle.std.proofs.Common.{arith}
use Rattle.std.proofs.lemmas.Grind.{elements}
use Rattle.std.proofs.Common.{◌≡◌, true, subst, rules}
use Rattle.std.specs.Prelude.{IfOk}
use Rattle.inno_types.specs.declared.stmt.Filter.{Filter}
use Rattle.sql_plan.specs.Keys.{is_plain_key, has_given_key}
use Rattle.sql_plan.specs.Planning.{Covers}
use Rattle.sql_plan.proofs.GivenKeys.{keys_if, named_column}
use Rattle.sql_plan.proofs.planning.plan_by_tuples.Goals as goal

pub returns-clause-enough : goal.returns-clause-enough
returns-clause-enough c =
    let schema = c.args.schema.now in
    let column = c.in-Some.column.now in
    let there = named_column schema.columns c.as_slice.result.now c.from-place.result schema.primary column c.as_slice.ensures c.from-place.ensures
    c.in-Some.ensures.lookup.3.0 c.in-Some.ensures.lookup.1 in
    let plain : is_plain_key schema.columns schema.primary column ≡ true = search rules in
    let condition : c.in_ok-condition.condition ≡ has_given_key c.args.names.now c.args.tuples.now schema.primary column = search rules in
    keys_if c.plan_by_keys-plan.result schema c.args.names.now c.args.tuples.now column there plain
    (subst (λ (filter : Filter). IfOk c.plan_by_keys-plan.result (Covers schema filter)) condition c.plan_by_keys-plan.ensures.enough)

pub returns-then-not-is_plain_key-clause-chosen : goal.returns-then-not-is_plain_key-clause-chosen
returns-then-not-is_plain_key-clause-chosen c = grind (arith, elements) steps 2000000
