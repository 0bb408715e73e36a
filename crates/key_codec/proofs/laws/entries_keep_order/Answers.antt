use Rattle.key_codec.proofs.ValueOrder.{entry_code-order}
use Rattle.key_codec.proofs.laws.entries_keep_order.Goals as goal

pub returns : goal.returns
returns c = λ kind a b p q has_a has_b. entry_code-order kind a b p q has_a.0 has_b.0 has_a.1 has_b.1
