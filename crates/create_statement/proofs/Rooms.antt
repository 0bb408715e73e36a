-- A CREATE TABLE for whose table there is no room, and entries by which none is made.
use Rattle.std.proofs.Common.{◌≡◌, ℕ, ◌+◌, false, cond, List, ◌∷◌, ap, ◌∙◌, arith}
use Rattle.std.specs.Prelude.{count_by}
use Rattle.std.proofs.lemmas.List.Sums.{sum_by-cons}
use Rattle.inno_model.specs.declared.event.Event.{Event}
use Rattle.shared_lists.specs.State.{State}
use Rattle.sql_lists.specs.Steps.{changes_rows}
use Rattle.create_statement.specs.declared.machine.CreateStatement.{CreateStatement}
use Rattle.create_statement.specs.declared.machine.CreateStatement.TheVariants as machine
use Rattle.create_statement.specs.Running.{IsRunning, without_room}
use Rattle.create_statement.proofs.Stepping.{gives_up_closed}

pub runs_without_room : (state : State) (s : ℕ) (m : CreateStatement) → IsRunning state s m → IsRunning state s (without_room m)
runs_without_room state s (machine.Closed statement l) r =
    (gives_up_closed s statement state.past r.0.0.at r.0.1 r.0.2, r.1)
runs_without_room state s other r = r

-- an entry that is no change is not counted
pub not_counted : (e : Event) (past : List Event) → changes_rows e ≡ false → count_by changes_rows (e ∷ past) ≡ count_by changes_rows past
not_counted e past spares =
    sum_by-cons (λ x. cond (changes_rows x) 1 0) e past ∙ ap (λ b. cond b 1 0 + count_by changes_rows past) spares ∙ omega arith

pub tells_no_change : (e : Event) (old new : List Event) → changes_rows e ≡ false → new ≡ e ∷ old → count_by changes_rows new ≡ count_by changes_rows old
tells_no_change e old new spares is = ap (count_by changes_rows) is ∙ not_counted e old spares
