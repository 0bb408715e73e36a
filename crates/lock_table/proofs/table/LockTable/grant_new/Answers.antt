use Rattle.std.proofs.Common.{◌≡◌, ◌+◌, subst, sym, ap, ◌∙◌, arith}
use Rattle.lock_table.specs.Queue.{AreSound}
use Rattle.lock_table.specs.Records.{own_gaps}
use Rattle.lock_table.specs.View.{Table, HasPlaces, after_insertion, granted_with}
use Rattle.lock_table.proofs.Soundness.{sound_inserted}
use Rattle.lock_table.proofs.table.LockTable.grant_new.Goals as goal

pub invariant_of-self : goal.invariant_of-self
invariant_of-self c =
    let lock = c.args.lock.now in
    let next = c.args.next.now in
    let items : c.add_lock.new.granted.items ≡ after_insertion next lock c.self.inside.granted.items =
    c.add_lock.ensures.items ∙ ap (λ own. granted_with c.copy_gaps.new.granted.items own) c.new.ensures ∙ ap (λ ws. granted_with ws lock) c.copy_gaps.ensures.items in
    let sound = sound_inserted c.args.self.now next lock (subst (λ (t : Table). AreSound t.granted t.waiting) c.self.view_is c.self.invariant.0) c.requires.fits c.requires.free in
    let room = subst (λ (t : Table). HasPlaces (own_gaps lock.txn next t.granted + 1) t) (sym c.self.view_is) c.requires.room in (
      subst (λ ws. AreSound ws c.self.inside.waiting.items) (sym items)
          (subst (λ (t : Table). AreSound (after_insertion next lock t.granted) t.waiting) (sym c.self.view_is) sound),
      omega (arith, room, c.add_lock.ensures.few, c.copy_gaps.ensures.few, c.add_lock.ensures.capacity, c.copy_gaps.ensures.capacity),
      c.self.invariant.2,
      c.self.invariant.3,
    )
