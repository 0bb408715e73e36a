use Rattle.tree_check.proofs.Nodes.{no_low_told}
use Rattle.tree_check.proofs.node.begins_low.Goals as goal

pub returns-in-None : goal.returns-in-None
returns-in-None c =
    no_low_told c.args.tree c.args.bytes.now c.key_at-first.result.now c.requires.size c.requires.laid_out c.requires.some c.if-bytes-eq0.false
    c.key_at-first.ensures c.in-None.ensures c.are_zeros.result c.are_zeros.ensures
