use Rattle.lock_table.specs.Queue.{AreOthers}
use Rattle.std.proofs.Common.{arith, subst, sym}
use Rattle.lock_table.proofs.Soundness.{served_as, locks_left, requests_left, others_served, others_left, others_fewer}
use Rattle.lock_table.proofs.table.LockTable.release_all.Goals as goal

pub invariant_of-self : goal.invariant_of-self
invariant_of-self c =
    let sound = c.self.invariant.0 in (
      served_as _ _ _ _ (locks_left _ _ sound _ _ c.keep_others.ensures.items) (requests_left _ _ sound _ _ c.keep_others-2.ensures.items) c.serve.ensures.granted c.serve.ensures.waiting,
      c.serve.ensures.room,
      omega (arith, c.forget.ensures.fewer, c.forget.ensures.capacity, c.keep_others-2.ensures.fewer, c.serve.ensures.fewer, c.self.invariant.2),
      others_served _ _ _ _ (others_left _ _ _ _ (subst (λ ts. AreOthers ts c.self.inside.waiting.items) (sym c.forget.ensures.items) (others_fewer c.args.txn _ _ c.self.invariant.3)) c.keep_others-2.ensures.items) c.serve.ensures.waiting,
    )
