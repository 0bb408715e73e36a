use Rattle.std.proofs.Common.{arith}
use Rattle.std.specs.Prelude.{slice_index}
use Rattle.tree_check.proofs.Nodes.{fence_shown}
use Rattle.tree_check.proofs.fences.low_fence_of.Goals as goal

pub returns : goal.returns
returns c =
    fence_shown (slice_index c.args.bytes.now 34) 36 _ c.args.bytes.now c.if-len.false c.requires.fields.low (omega (arith, c.from.ensures))
