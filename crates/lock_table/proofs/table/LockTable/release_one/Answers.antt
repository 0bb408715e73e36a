use Rattle.std.proofs.Common.{arith}
use Rattle.lock_table.proofs.Soundness.{served_as, locks_left, requests_are, others_served}
use Rattle.lock_table.proofs.table.LockTable.release_one.Goals as goal

pub invariant_of-self : goal.invariant_of-self
invariant_of-self c =
    let sound = c.self.invariant.0 in (
      served_as _ _ _ _ (locks_left _ _ sound _ _ c.give_back.ensures.items) (requests_are _ _ sound) c.serve.ensures.granted c.serve.ensures.waiting,
      c.serve.ensures.room,
      omega (arith, c.serve.ensures.fewer, c.self.invariant.2),
      others_served _ _ _ _ c.self.invariant.3 c.serve.ensures.waiting,
    )
