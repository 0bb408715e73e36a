use Rattle.std.proofs.Common.{sym, ◌∙◌, Bool, ap}
use Rattle.std.specs.Int.{w8}
use Rattle.std.specs.Prelude.{if◌then◌else◌}
use Rattle.std.proofs.lemmas.Nat.Bits.{bit_at_set_same, bit_at_set_other, bit_at_clear_same, bit_at_clear_other}
use Rattle.space_map.proofs.bits.with_bit.Goals as goal

pub returns-then-on-clause-here : goal.returns-then-on-clause-here
returns-then-on-clause-here c = bit_at_set_same w8 c.args.byte c.args.bit c.requires ∙ ap (λ (b : Bool). if b then 1 else 0) (sym c.if-on.true)

pub returns-then-on-clause-others : goal.returns-then-on-clause-others
returns-then-on-clause-others c = λ other below ne. bit_at_set_other w8 c.args.byte c.args.bit c.requires other ne

pub returns-else-on-clause-here : goal.returns-else-on-clause-here
returns-else-on-clause-here c = bit_at_clear_same w8 c.args.byte c.args.bit c.requires ∙ ap (λ (b : Bool). if b then 1 else 0) (sym c.if-on.false)

pub returns-else-on-clause-others : goal.returns-else-on-clause-others
returns-else-on-clause-others c = λ other below ne. bit_at_clear_other w8 c.args.byte c.args.bit c.requires other below ne
