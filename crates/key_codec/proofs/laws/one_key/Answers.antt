use Rattle.key_codec.proofs.Once.{same_key}
use Rattle.key_codec.proofs.laws.one_key.Goals as goal

pub returns : goal.returns
returns c = λ kind a b has_a has_b. same_key kind a b has_a.0 has_b.0 has_a.1 has_b.1
