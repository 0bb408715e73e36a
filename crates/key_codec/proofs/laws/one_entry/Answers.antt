use Rattle.key_codec.proofs.Once.{same_entry}
use Rattle.key_codec.proofs.laws.one_entry.Goals as goal

pub returns : goal.returns
returns c = λ kind a b p q has_a has_b. same_entry kind a b p q has_a.0 has_b.0 has_a.1 has_b.1
