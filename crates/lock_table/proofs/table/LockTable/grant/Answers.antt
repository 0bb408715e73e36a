use Rattle.std.proofs.Common.{◌≡◌, false, subst, sym, ap, ◌∙◌, ◌++◌, ◌∷◌, [], length, length-append, arith}
use Rattle.lock_table.specs.Queue.{AreSound, is_blocked}
use Rattle.lock_table.specs.View.{Table}
use Rattle.lock_table.proofs.Soundness.{sound_granted}
use Rattle.lock_table.proofs.table.LockTable.grant.Goals as goal

pub invariant_of-self-2 : goal.invariant_of-self-2
invariant_of-self-2 c =
    let free = subst (λ (t : Table). is_blocked t.granted t.waiting c.args.asked ≡ false) (sym c.self.view_is) c.requires.free in
    let items = c.push_reserved.ensures.items ∙ ap (λ ws. ws ++ c.args.asked ∷ []) c.reserve.ensures.items in (
      subst (λ ws. AreSound ws c.self.inside.waiting.items) (sym items) (sound_granted _ _ c.self.invariant.0 c.args.asked c.requires.fits free),
      omega (arith, ap length c.push_reserved.ensures.items, length-append c.reserve.new.self.items (c.args.asked ∷ []), c.in_ok-reserve.ensures.ok, c.push_reserved.ensures.capacity, c.len.ensures, c.self.inside.waiting.ok.0, c.reserve.new.self.ok.0),
      c.self.invariant.2,
      c.self.invariant.3,
    )
