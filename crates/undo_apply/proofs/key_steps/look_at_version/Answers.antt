use Rattle.std.proofs.Common.{arith}
use Rattle.std.proofs.lemmas.Grind.{common_steps}
use Rattle.undo_apply.proofs.key_steps.look_at_version.Goals as goal

pub returns-then-have_one_entry : goal.returns-then-have_one_entry
returns-then-have_one_entry g c = grind (arith, common_steps)
