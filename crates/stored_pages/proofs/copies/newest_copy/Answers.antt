use Rattle.std.proofs.Common.{arith}
use Rattle.std.proofs.lemmas.Grind.{common_steps}
use Rattle.stored_pages.proofs.Newest.{inside}
use Rattle.stored_pages.proofs.copies.newest_copy.Goals as goal

pub copy_at-requires : goal.copy_at-requires
copy_at-requires c = inside c.newest_slot.result c.args.double.now c.newest_slot.ensures.newest.copy.good.size

pub loop-slot-init : goal.loop-slot-init
loop-slot-init c = grind (arith, common_steps)

pub newest_slot-requires-clause-slot : goal.newest_slot-requires-clause-slot
newest_slot-requires-clause-slot c = grind (arith, common_steps)

pub newest_slot-requires-clause-good : goal.newest_slot-requires-clause-good
newest_slot-requires-clause-good c = grind (arith, common_steps)

pub returns-then-is_copy_of-clause-some : goal.returns-then-is_copy_of-clause-some
returns-then-is_copy_of-clause-some c = grind (arith, common_steps)
