use Rattle.std.proofs.Common.{arith, ap, subst, sym, cond, ◌∙◌, ◌++◌, ◌∷◌, [], length}
use Rattle.lock_table.specs.Queue.{without, is_waiting, AreOthers}
use Rattle.lock_table.proofs.Soundness.{served_as, locks_are, requests_left, others_served, others_noted}
use Rattle.lock_table.proofs.table.LockTable.withdraw.Goals as goal

pub invariant_of-self : goal.invariant_of-self
invariant_of-self c =
    let sound = c.self.invariant.0 in
    let noted = c.note.ensures.items ∙ ap (λ ws. cond (is_waiting c.args.txn ws) (c.self.inside.withdrawn.items ++ c.args.txn ∷ []) c.self.inside.withdrawn.items) c.deref.ensures.value in (
      served_as _ _ _ _ (locks_are _ _ sound) (requests_left _ _ sound _ _ c.keep_others.ensures.items) c.serve.ensures.granted c.serve.ensures.waiting,
      c.serve.ensures.room,
      omega (arith, c.note.ensures.room, ap (λ ws. length (without c.args.txn ws)) c.deref.ensures.value, ap length c.keep_others.ensures.items, c.serve.ensures.fewer),
      others_served _ _ _ _ (subst (AreOthers c.note.new.withdrawn.items) (sym c.keep_others.ensures.items) (subst (λ ts. AreOthers ts (without c.args.txn c.self.inside.waiting.items)) (sym noted) (others_noted _ c.args.txn _ _ c.self.invariant.3))) c.serve.ensures.waiting,
    )
