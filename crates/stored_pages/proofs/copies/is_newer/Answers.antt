use Rattle.std.proofs.Common.{arith}
use Rattle.stored_pages.proofs.Newest.{inside}
use Rattle.stored_pages.proofs.copies.is_newer.Goals as goal

pub copy_at-requires-then-other-number : goal.copy_at-requires-then-other-number
copy_at-requires-then-other-number c = omega (arith, inside c.args.slot c.args.double.now c.in-Some.ensures.size)

pub returns-in-None : goal.returns-in-None
returns-in-None c = λ good. absurd (c.in-None.ensures c.args.number good)
