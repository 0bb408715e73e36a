-- A part is answered: its changes are to be made, or it is refused.
use Rattle.std.proofs.Common.{◌≡◌, ℕ, List, [], Vec, refl, sym, ap, ◌∙◌, inl}
use Rattle.std.specs.declared.alloc.Global.{Global}
use Rattle.inno_types.specs.declared.value.Value.{Value}
use Rattle.inno_types.specs.declared.reply.Reply.{Reply}
use Rattle.inno_db.specs.declared.change.Change.{Change}
use Rattle.inno_db.specs.declared.outcome.Outcome.{Outcome}
use Rattle.inno_db.specs.Outcome.{outcome}
use Rattle.sql_history.specs.Items.{base}
use Rattle.law_claims.proofs.Standing.{stands_now}
use Rattle.law_past_agreement.specs.Order.{IsOrdered}
use Rattle.shared_lists.specs.Fitting.{FitsThen}
use Rattle.shared_lists.specs.Tasks.{Idle}
use Rattle.shared_lists.specs.State.{State, task_of}
use Rattle.sql_lists.specs.Kept.{AreStanding, IsInOrder}
use Rattle.sql_lists.specs.Steps.{Steps}
use Rattle.sql_lists.specs.declared.advance.Advance.TheVariants as advance
use Rattle.sql_lists.proofs.Moving.{moves_none}
use Rattle.write_statement.specs.declared.machine.Part.{Part}
use Rattle.write_statement.specs.declared.machine.WriteStatement.{WriteStatement}
use Rattle.giving_up.specs.declared.leaving.Leaving.TheVariants as leaving
use Rattle.write_statement.specs.declared.machine.WriteStatement.TheVariants as machine
use Rattle.write_statement.specs.declared.settling.Settled.TheVariants as settled
use Rattle.write_statement.specs.Parts.{of_part}
use Rattle.giving_up.specs.Replies.{is_count}
use Rattle.write_statement.specs.Settling.{IsSettledBy}
use Rattle.write_statement.specs.Running.{IsChanging, AreEnough, IsRunning}
use Rattle.write_statement.proofs.Found.{tables_now, current_keyed}
use Rattle.write_statement.proofs.PartByPart.{refusal_basis, refusal_wider, part_refused, part_counted}
use Rattle.write_statement.proofs.GivingUp.{keeps_reply, refused}
use Rattle.giving_up.proofs.Moving.{steps_as}

module _ (s : ℕ) (state : State) (part : Part) (rows : List (List Value)) (r : IsChanging state.past state.writer s part (of_part part) [])
    (idle : task_of s state ≡ Idle) (enough : AreEnough s part.stmt rows state.past) (stands : AreStanding state.past) (fits : FitsThen state.past)
    (ordered : IsOrdered state.past) (in-order : IsInOrder state.past) where
  pub todo_then : (todo : Vec Change Global) → IsSettledBy part.stmt enough.db (settled.Todo todo)
      → Steps IsRunning s state state (machine.Changing part todo) advance.Went
  todo_then todo is =
      let keyed = current_keyed state.past state.writer s part (of_part part) [] r fits ordered in-order in
      let counts = ap (λ (o : Outcome). is_count o.reply) (sym enough.same) ∙ is.0 in
      let changes = ap (λ (o : Outcome). o.changes) (sym enough.same) ∙ is.1 in (
        moves_none s state,
        (part_counted state.past state.writer s part r (tables_now state.past s stands) keyed todo.items counts changes, idle),
        refl,
      )

  pub refused_then : (kept given : Reply) (m : WriteStatement) → IsSettledBy part.stmt enough.db (settled.Refused kept given)
      → m ≡ machine.Leaving (leaving.BackingOut (record { alone = part.alone; before = part.before; kept = kept; given = given }))
      → Steps IsRunning s state state m advance.Went
  refused_then kept given m is state-is =
      let keyed = current_keyed state.past state.writer s part (of_part part) [] r fits ordered in-order in
      let answer = is.2 ∙ ap (λ (o : Outcome). o.reply) enough.same in
      let tables = tables_now state.past s stands in
      let stands-so = part_refused state.past state.writer s part r tables keyed kept is.1 answer in
      let basis = refusal_basis state.past state.writer s part r tables keyed kept is.1 answer in
      let of-all = stands_now basis (λ db. (outcome r.statement db).reply ≡ kept) (base s state.past) stands-so in
      let keeps = keeps_reply state.past state.writer s part (of_part part) [] r kept basis
      (refusal_wider state.past state.writer s part r tables keyed kept is.1 answer) (λ place is. is) (λ is. stands-so) in
      steps_as IsRunning s state state m
      (machine.Leaving (leaving.BackingOut (record { alone = part.alone; before = part.before; kept = kept; given = given })))
      advance.Went advance.Went state-is refl
      (moves_none s state, (refused state.past state.writer s part (of_part part) [] r kept given is.0 is.1 (sym of-all) keeps, inl idle), refl)
