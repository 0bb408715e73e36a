-- What the steps of a session's ending do.
use Rattle.std.proofs.Common.{◌≡◌, ◌<◌, ◌-◌, ℕ, [], ◌∷◌, length, refl, sym, ap, subst, ◌∙◌, true, false, inl, inr, arith}
use Rattle.std.proofs.lemmas.Bool.Decides.{nat_tests, eqb_tells}
use Rattle.std.specs.Prelude.{count_by}
use Rattle.inno_model.specs.declared.event.Event.{Event}
use Rattle.inno_model.specs.declared.event.Event.TheVariants as events
use Rattle.inno_model.specs.Past.{is_of, own}
use Rattle.store_api.specs.declared.answers.Progress.TheVariants as progress
use Rattle.shared_lists.specs.Answers.{Undone}
use Rattle.store_api.specs.declared.stepped.Stepped.TheVariants as stepped
use Rattle.shared_lists.specs.State.{State as Lists, Closes, task_of}
use Rattle.shared_lists.specs.Steps.{TakesBack}
use Rattle.sql_lists.specs.Steps.{HasRowsAlone, is_apart, changes_rows}
use Rattle.sql_lists.proofs.Moving.{moves_closes, moves_takes_back}
use Rattle.transaction_statements.specs.Running.{TakesBackTo}
use Rattle.transaction_statements.proofs.Stepping.{rows_of_none, rows_left}
use Rattle.session_engine.specs.declared.seats.Seat.TheVariants.{Leaving}
use Rattle.session_engine.specs.Seats.{MayGoOut, IsGoingOut}
use Rattle.session_engine.specs.Calls.{KeepsItems, TellsOne, TellsNone, GoesOn, GoesOut}

module _ (s : ℕ) (old new : Lists) (out : IsGoingOut s old) where
  goes_none : new.past ≡ old.past → GoesOn s old.past new.past
  goes_none is = record { entries = []; past_is = is; each = tt; tells = tt; unacked = tt }

  goes_one : (e : Event) → is_of s e ≡ true → KeepsItems e → TellsOne (e ∷ []) → is_apart e ≡ false → new.past ≡ e ∷ old.past → GoesOn s old.past new.past
  goes_one e mine keeps tells unacked is =
      record { entries = e ∷ []; past_is = is; each = ((mine, keeps), tt); tells = tells; unacked = (unacked, tt) }

  own_undone : (keep : ℕ) → keep ≡ length (own s old.past) - 1 → HasRowsAlone s (events.Undone s keep ∷ old.past)
  own_undone keep is =
      elim (eqb_tells s s) [
        | inl same ↦ rw (same.0, is) (rows_left (own s old.past) out.may.rows_alone)
        | inr differ ↦ absurd (differ.1 refl)
      ]

  undone_out : (keep : ℕ) → keep ≡ length (own s old.past) - 1 → MayGoOut s (events.Undone s keep ∷ old.past)
  undone_out keep is = record { rests = out.may.rests; rows_alone = own_undone keep is }

  -- the newest change is being taken back, or is so
  pub takes_back_goes : (answer : Undone) → 0 < length (own s old.past) → TakesBack s (length (own s old.past) - 1) old new answer
      → GoesOut s old new Leaving progress.Went
  takes_back_goes stepped.Went some takes = (
    moves_takes_back s (length (own s old.past) - 1) old new stepped.Went takes,
    goes_none takes.0.past_is,
    record {
      may = subst (MayGoOut s) (sym takes.0.past_is) out.may;
      task = subst (TakesBackTo 0 (length (own s new.past))) (sym takes.1.1) (subst (λ h. 0 < length (own s h)) (sym takes.0.past_is) some);
    },
    refl,
  )
  takes_back_goes (stepped.Hindered never) some takes = absurd takes
  takes_back_goes (stepped.Done over) some takes = (
    moves_takes_back s (length (own s old.past) - 1) old new (stepped.Done over) takes,
    goes_one (events.Undone s (length (own s old.past) - 1)) (grind (arith, nat_tests)) tt tt refl takes.past_is,
    record {
      may = subst (MayGoOut s) (sym takes.past_is) (undone_out (length (own s old.past) - 1) refl);
      task = subst (TakesBackTo 0 (length (own s new.past))) (sym takes.task_is) tt;
    },
    refl,
  )

  -- no change is told
  pub takes_back_quietly : (answer : Undone) → TakesBack s (length (own s old.past) - 1) old new answer → TellsNone old.past new.past
  takes_back_quietly stepped.Went takes = ap (count_by changes_rows) takes.0.past_is
  takes_back_quietly (stepped.Hindered never) takes = absurd takes
  takes_back_quietly (stepped.Done over) takes = ap (count_by changes_rows) takes.past_is

  own_rolled_back : own s (events.RolledBack s ∷ old.past) ≡ []
  own_rolled_back = grind (arith, nat_tests)

  -- the transaction is over, in which no change stands
  pub rolls_back_goes : length (own s old.past) ≡ 0 → Closes (events.RolledBack s) s old new → GoesOut s old new Leaving progress.Went
  rolls_back_goes none closes =
      let now : length (own s new.past) ≡ length (own s old.past) = ap (λ h. length (own s h)) closes.past_is ∙ (ap length own_rolled_back ∙ sym none) in (
        moves_closes s (events.RolledBack s) old new (grind (arith, nat_tests)) refl refl closes,
        goes_one (events.RolledBack s) (grind (arith, nat_tests)) tt tt refl closes.past_is,
        record {
          may =
              subst (MayGoOut s) (sym closes.past_is) (record {
                rests = out.may.rests;
                rows_alone = rows_of_none s (events.RolledBack s ∷ old.past)
                    own_rolled_back;
              });
          task = subst (λ n. TakesBackTo 0 n (task_of s new)) (sym now) (subst (TakesBackTo 0 (length (own s old.past))) (sym closes.task_is) out.task);
        },
        refl,
      )
