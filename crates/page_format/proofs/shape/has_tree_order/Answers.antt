use Rattle.std.proofs.Common.{◌∙◌, arith}
use Rattle.page_format.proofs.shape.has_tree_order.Goals as goal

pub are_rising-requires-clause-room : goal.are_rising-requires-clause-room
are_rising-requires-clause-room c =
    let width = c.from-width.ensures ∙ c.read_u16.ensures in
    rw (c.read_u16-2.ensures, width) (omega (arith, c.requires.fields.inside, c.behind.ensures.length, c.requires.size))
