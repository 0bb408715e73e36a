use Rattle.std.proofs.Common.{map, ap, ◌∙◌}
use Rattle.sql_plan.specs.SeenParts.{seen_part}
use Rattle.sql_plan.proofs.Sound.{chosen_covers, chosen_passes}
use Rattle.sql_plan.proofs.choice.choose.Goals as goal

pub returns-clause-covers : goal.returns-clause-covers
returns-clause-covers c =
    chosen_covers c.args.schema.now c.args.filter.now (map seen_part c.deref.result.now) c.choose_among.result
    (ap (map seen_part) c.deref.ensures.value ∙ c.in_ok-parts.ensures) c.choose_among.ensures.ok c.choose_among.ensures.range

pub returns-clause-nulls : goal.returns-clause-nulls
returns-clause-nulls c =
    chosen_passes c.args.schema.now c.args.filter.now (map seen_part c.deref.result.now) c.choose_among.result
    (ap (map seen_part) c.deref.ensures.value ∙ c.in_ok-parts.ensures) c.choose_among.ensures.ok
