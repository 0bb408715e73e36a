use Rattle.std.specs.Prelude.{◌==◌, not}
use Rattle.std.proofs.Common.{rules, tests}
use Rattle.deadlock.proofs.Lists.{filter_from_retain}
use Rattle.parts_world.proofs.world_calls.give_back.Goals as goal

pub returns-clause-items : goal.returns-clause-items
returns-clause-items c = filter_from_retain _ (λ other. not (other == c.args.txn)) _ (λ x b g says. search (rules, tests)) _ _ c.retain.ensures.filtered
