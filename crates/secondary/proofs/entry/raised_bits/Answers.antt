use Rattle.std.proofs.Common.{arith, ◌<◌, ◌^◌}
use Rattle.secondary.proofs.Numbers.{raised_there}
use Rattle.secondary.proofs.entry.raised_bits.Goals as goal

pub returns : goal.returns
returns c = λ n fits is. let below : c.args.bits < 2 ^ 64 = omega arith in raised_there n c.args.bits below fits is
