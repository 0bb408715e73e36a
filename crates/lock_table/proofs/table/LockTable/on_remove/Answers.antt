use Rattle.std.proofs.Common.{arith}
use Rattle.lock_table.proofs.Soundness.{served_as, locks_moved, requests_left, others_served, others_left}
use Rattle.lock_table.proofs.table.LockTable.on_remove.Goals as goal

pub invariant_of-self : goal.invariant_of-self
invariant_of-self c =
    let sound = c.self.invariant.0 in (
      served_as _ _ _ _ (locks_moved _ _ sound c.args.by c.args.gone.now c.args.next.now _ _ c.move_locks.ensures.items c.leave_gaps.ensures.granted)
          (requests_left _ _ sound _ _ c.leave_gaps.ensures.waiting) c.serve.ensures.granted c.serve.ensures.waiting,
      c.serve.ensures.room,
      omega (arith, c.leave_gaps.ensures.fewer, c.serve.ensures.fewer, c.self.invariant.2),
      others_served _ _ _ _ (others_left _ _ _ _ c.self.invariant.3 c.leave_gaps.ensures.waiting) c.serve.ensures.waiting,
    )
