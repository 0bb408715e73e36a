use Rattle.std.proofs.Common.{sym, ◌∙◌}
use Rattle.tree_check.proofs.Nodes.{low_wrong, lengths_told}
use Rattle.tree_check.proofs.node.has_lengths.Goals as goal

pub returns-then-not-is_fence_of : goal.returns-then-not-is_fence_of
returns-then-not-is_fence_of c =
    low_wrong c.args.tree c.args.bytes.now c.requires.size c.requires.fields (sym c.if-not-is_fence_of.true ∙ c.is_fence_of.ensures)

pub returns : goal.returns
returns c =
    lengths_told c.args.tree c.args.bytes.now c.requires.size c.requires.fields
    (sym c.read_u16.ensures ∙ sym c.from.ensures ∙ c.if-from-width_for.false ∙ c.width_for.ensures)
    (sym c.if-not-is_fence_of.false ∙ c.is_fence_of.ensures) c.is_fence_of-2.result c.is_fence_of-2.ensures
