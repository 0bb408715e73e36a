use Rattle.sql_text.specs.Whole.{in_share_mode_of}
use Rattle.std.proofs.Common.{arith}
use Rattle.std.proofs.lemmas.Grind.{common_steps}
use Rattle.sql_text.proofs.selected.in_share_mode.Goals as goal

pub returns-in-Key : goal.returns-in-Key
unfolding in_share_mode_of
returns-in-Key c = grind (arith, common_steps) steps 2000000
