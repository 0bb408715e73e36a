-- Keys stand in the order of their values.
use Rattle.std.proofs.Common.{◌≡◌, ◌∙◌}
use Rattle.inno_types.specs.{declared.value.Kind.Kind, declared.value.Value.Value}
use Rattle.inno_db.specs.Database.{value_cmp}
use Rattle.key_codec.specs.Keys.{HasKey, key_code}
use Rattle.key_codec.proofs.ValueOrder.{key_code-order}
use Rattle.entries.specs.Pairs.{key_cmp}
use Rattle.entries.proofs.Order.{key_cmp_is}

pub keys_order : (kind : Kind) (a b : Value) → HasKey kind a → HasKey kind b → key_cmp (key_code kind a) (key_code kind b) ≡ value_cmp a b
keys_order kind a b has_a has_b = key_cmp_is (key_code kind a) (key_code kind b) ∙ key_code-order kind a b has_a.0 has_b.0 has_a.1 has_b.1
