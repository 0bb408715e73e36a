use Rattle.sql_text.specs.Whole.{share_mode_of}
use Rattle.std.proofs.Common.{arith}
use Rattle.std.proofs.lemmas.Grind.{common_steps}
use Rattle.sql_text.proofs.selected.share_mode.Goals as goal

pub returns-in-Bare : goal.returns-in-Bare
unfolding share_mode_of
returns-in-Bare c = grind (arith, common_steps) steps 2000000
