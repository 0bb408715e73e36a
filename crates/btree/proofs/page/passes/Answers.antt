use Rattle.std.proofs.Common.{sym, ap, ◌∙◌}
use Rattle.std.specs.Ordering.{is_le, is_lt}
use Rattle.entries.proofs.Order.{key_cmp_is}
use Rattle.btree.specs.Places.{passes}
use Rattle.btree.proofs.page.passes.Goals as goal

pub returns-in-AtOrAbove : goal.returns-in-AtOrAbove
returns-in-AtOrAbove c =
    c.is_le.ensures ∙ ap is_le (c.cmp-order.ensures ∙ sym (key_cmp_is c.args.key.now c.args.other.now))
    ∙ ap (λ b. passes b c.args.key.now c.args.other.now) (sym c.in-AtOrAbove.is)

pub returns-in-Above : goal.returns-in-Above
returns-in-Above c =
    c.is_lt.ensures ∙ ap is_lt (c.cmp-order.ensures ∙ sym (key_cmp_is c.args.key.now c.args.other.now))
    ∙ ap (λ b. passes b c.args.key.now c.args.other.now) (sym c.in-Above.is)
