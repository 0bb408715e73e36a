use Rattle.std.proofs.Common.{sym, subst}
use Rattle.script.specs.Script.{IsPlayable}
use Rattle.script_generator.proofs.Playable.{can_be_played}
use Rattle.run_outcome.specs.declared.words.Way.TheVariants.{OnThreads}
use Rattle.run_outcome.specs.Faults.{allowed}
use Rattle.run_outcome.proofs.generated.generate_input.Goals as goal

pub returns-in-Ok-clause-playable : goal.returns-in-Ok-clause-playable
returns-in-Ok-clause-playable c =
    subst (IsPlayable (allowed OnThreads)) (sym c.in-Ok.ensures.script.0) (can_be_played c.args.asked.number c.args.asked.sessions c.args.asked.transfers (allowed OnThreads))
