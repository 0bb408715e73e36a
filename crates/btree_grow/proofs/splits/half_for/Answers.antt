use Rattle.std.proofs.Common.{◌≡◌, Bool, true, false, sym, ◌∙◌, ap}
use Rattle.std.specs.Prelude.{if◌then◌else◌}
use Rattle.std.specs.Ordering.{is_le}
use Rattle.entries.specs.Pairs.{key_cmp}
use Rattle.entries.proofs.Order.{key_cmp_is}
use Rattle.btree_grow.proofs.splits.half_for.Goals as goal

pub returns-then-is_le : goal.returns-then-is_le
returns-then-is_le c =
    let order : is_le (key_cmp c.args.fence.now c.args.key.now) ≡ true =
    ap is_le (key_cmp_is c.args.fence.now c.args.key.now ∙ sym c.cmp.ensures) ∙ sym c.is_le.ensures ∙ c.if-is_le.true in
    sym (ap (λ (b : Bool). if b then c.args.upper else c.args.lower) order)

pub returns-else-is_le : goal.returns-else-is_le
returns-else-is_le c =
    let order : is_le (key_cmp c.args.fence.now c.args.key.now) ≡ false =
    ap is_le (key_cmp_is c.args.fence.now c.args.key.now ∙ sym c.cmp.ensures) ∙ sym c.is_le.ensures ∙ c.if-is_le.false in
    sym (ap (λ (b : Bool). if b then c.args.upper else c.args.lower) order)
