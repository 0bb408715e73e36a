use Rattle.std.proofs.Common.{refl, sym, subst, ◌+◌, ◌∙◌}
use Rattle.script_play.proofs.Making.{HasCalled, called_own, called_other}
use Rattle.script_play.proofs.session.make_calls.Goals.{then-item-number, else-item-number}
use Rattle.script_play.proofs.session.make_calls.Goals as goal

pub loop-item-preserved : goal.loop-item-preserved
loop-item-preserved g c =
    let n = c.loop-item.item-index in
    let script = c.args.items.now in
    let first = c.args.session.now in
    let x = c.item-item.result in
    let s = c.loop-item.session in
    let called = c.loop-item.invariant in
    elim c.if-item-number.branch [
      | then-item-number w ↦
          let call = w.execute-reply.ensures in
          subst (HasCalled c.args.hall.now first script (n + 1)) (sym w.session-is)
          (called_own c.args.hall.now first script n x c.loop-item-test.true c.item-item.is s w.execute-reply.new.self called w.execute-reply.result
          (w.if-item-number.true ∙ c.number-number.ensures) call.same.0 call.same.1 call.names call.call)
      | else-item-number w ↦
          subst (HasCalled c.args.hall.now first script (n + 1)) (sym w.session-is)
          (called_other c.args.hall.now first script n x c.loop-item-test.true c.item-item.is s s called
          (λ is. w.if-item-number.false (is ∙ sym c.number-number.ensures)) refl)
    ]
