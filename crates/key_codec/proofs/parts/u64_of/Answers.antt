use Rattle.key_codec.specs.Numbers.{u64_bytes}
use Rattle.std.proofs.Common.{arith}
use Rattle.std.proofs.lemmas.Grind.{elements}
use Rattle.key_codec.proofs.parts.u64_of.Goals as goal

pub returns-then-bytes-eq8-clause-found : goal.returns-then-bytes-eq8-clause-found
unfolding u64_bytes
returns-then-bytes-eq8-clause-found c = grind (arith, elements) steps 2000000
