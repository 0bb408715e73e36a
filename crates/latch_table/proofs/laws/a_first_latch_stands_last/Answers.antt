use Rattle.latch_table.proofs.First.{with_latch-first}
use Rattle.latch_table.proofs.laws.a_first_latch_stands_last.Goals as goal

pub returns : goal.returns
returns c = with_latch-first
