use Rattle.std.proofs.Common.{◌≡◌, true, false, subst, sym, ap, ◌∙◌, ◌++◌, ◌∷◌, [], length, length-append, arith}
use Rattle.lock_table.specs.Queue.{AreOthers, AreSound, is_blocked, is_waiting}
use Rattle.lock_table.specs.View.{Table, others}
use Rattle.lock_table.proofs.Soundness.{sound_queued, others_asked}
use Rattle.lock_table.proofs.table.LockTable.queue.Goals as goal

pub invariant_of-self-2 : goal.invariant_of-self-2
invariant_of-self-2 c =
    let blocked = subst (λ (t : Table). is_blocked t.granted t.waiting c.args.asked ≡ true) (sym c.self.view_is) c.requires.blocked in
    let single = subst (λ (t : Table). is_waiting c.args.asked.txn t.waiting ≡ false) (sym c.self.view_is) c.requires.single in
    let items = c.push_reserved.ensures.items ∙ ap (λ ws. ws ++ c.args.asked ∷ []) c.reserve-3.ensures.items in
    let more = length-append c.self.inside.waiting.items (c.args.asked ∷ []) in (
      subst (λ ws. AreSound ws c.push_reserved.new.self.items) (sym c.reserve.ensures.items)
          (subst (AreSound c.self.inside.granted.items) (sym items) (sound_queued _ _ c.self.invariant.0 c.args.asked c.requires.fits single blocked)),
      omega (arith, ap length items, more, c.in_ok-reserve.ensures.ok, c.len-waiting.ensures, c.self.inside.waiting.ok.0, c.reserve.new.self.ok.0),
      omega (
        arith,
        ap length items,
        more,
        c.in_ok-reserve-2.ensures.ok,
        c.len-waiting.ensures,
        c.self.inside.waiting.ok.0,
        c.reserve-2.new.self.ok.0,
        c.forget.ensures.fewer,
        c.forget.ensures.capacity,
      ),
      subst (λ ts. AreOthers ts c.push_reserved.new.self.items) (sym (c.forget.ensures.items ∙ ap (λ t. others t c.reserve-2.new.self.items) c.txn.ensures ∙ ap (others c.args.asked.txn) c.reserve-2.ensures.items))
          (subst (AreOthers (others c.args.asked.txn c.self.inside.withdrawn.items)) (sym items) (others_asked _ _ c.args.asked c.self.invariant.3)),
    )
