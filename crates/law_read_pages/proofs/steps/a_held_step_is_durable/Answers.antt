use Rattle.law_read_pages.proofs.Going.{step_is_durable}
use Rattle.law_read_pages.proofs.steps.a_held_step_is_durable.Goals as goal

pub returns : goal.returns
returns c = λ root past later old new d goes on newest. step_is_durable root past later old new d goes on newest
