use Rattle.std.proofs.Common.{◌≡◌, ◌≤◌, [], length, subst, ap, sym, ◌∙◌, arith}
use Rattle.inno_model.specs.Past.{own}
use Rattle.shared_lists.specs.State.{task_of}
use Rattle.giving_up.proofs.Writing.{closed_as_told}
use Rattle.transaction_statements.proofs.Ending.{finishes_rollback_to}
use Rattle.transaction_statements.proofs.Moving.{rests}
use Rattle.transaction_statements.proofs.rollbacks.step_rollback_to.Goals.{else-is_some-via-then-is_some+else-change_count-made, else-is_some-via-else-is_some}
use Rattle.transaction_statements.proofs.rollbacks.step_rollback_to.Goals as goal

pub finish-requires-clause-finished : goal.finish-requires-clause-finished
finish-requires-clause-finished g c =
    let s = c.args.session in
    let past = c.args.lists.now.past in
    let few : length (own s past) ≤ c.args.made = elim c.else-is_some.branch [
      | else-is_some-via-then-is_some+else-change_count-made w ↦ omega (arith, w.change_count.ensures, w.if-change_count-made.false)
      | else-is_some-via-else-is_some w ↦
          let closed = closed_as_told s past c.level.result c.level.ensures.level (sym c.is_some.ensures ∙ w.if-is_some.false) in
          subst (λ n. n ≤ c.args.made) (sym (ap length (c.level.ensures.closed closed))) (omega arith)
    ] in
    finishes_rollback_to s past c.args.savepoint c.args.made c.requires.running.0.0 c.requires.running.0.1 few

pub finish-requires-clause-idle : goal.finish-requires-clause-idle
finish-requires-clause-idle g c =
    let s = c.args.session in
    let past = c.args.lists.now.past in
    let few : length (own s past) ≤ c.args.made = elim c.else-is_some.branch [
      | else-is_some-via-then-is_some+else-change_count-made w ↦ omega (arith, w.change_count.ensures, w.if-change_count-made.false)
      | else-is_some-via-else-is_some w ↦
          let closed = closed_as_told s past c.level.result c.level.ensures.level (sym c.is_some.ensures ∙ w.if-is_some.false) in
          subst (λ n. n ≤ c.args.made) (sym (ap length (c.level.ensures.closed closed))) (omega arith)
    ] in
    rests c.args.made (length (own s past)) (task_of s c.args.lists.now) c.requires.running.1 few
