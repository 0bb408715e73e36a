use Rattle.big_endian.proofs.Spelled.{eight}
use Rattle.std.proofs.Common.{arith}
use Rattle.std.proofs.lemmas.Grind.{moves}
use Rattle.big_endian.proofs.reading.u64_at.Goals as goal

pub returns-clause-spelled : goal.returns-clause-spelled
returns-clause-spelled c = grind (arith, moves, eight) steps 2000000
