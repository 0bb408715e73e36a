use Rattle.std.proofs.Common.{sym, ◌∙◌}
use Rattle.read_statement.proofs.planning.plan_among.Goals as goal

pub plan_on-requires : goal.plan_on-requires
plan_on-requires c = record { few = (c.requires.storable c.in-Some.table c.in-Some-schema_at.schema.now (c.in-Some-schema_at.ensures)).few }

pub returns : goal.returns
returns c = record {
  table_is = sym c.table_of.ensures ∙ c.in-Some.is;
  schema = c.in-Some-schema_at.schema.now;
  there = c.in-Some-schema_at.ensures;
  indexable = sym c.is_indexed_short.ensures ∙ c.if-not-is_indexed_short.false;
  has_index = c.in_ok-plan.ensures.which;
  chosen = c.in_ok-plan.ensures.chosen;
}
