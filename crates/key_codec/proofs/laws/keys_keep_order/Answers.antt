use Rattle.key_codec.proofs.ValueOrder.{key_code-order}
use Rattle.key_codec.proofs.laws.keys_keep_order.Goals as goal

pub returns : goal.returns
returns c = λ kind a b has_a has_b. key_code-order kind a b has_a.0 has_b.0 has_a.1 has_b.1
