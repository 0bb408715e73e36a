-- What an entry leaves of what a statement knows.
use Rattle.std.proofs.Common.{◌≡◌, ℕ, true, false, List, ◌∷◌, sym, subst, ◌∙◌}
use Rattle.std.specs.List.{AllByRecursion}
use Rattle.inno_types.specs.declared.stmt.Stmt.{Stmt}
use Rattle.inno_model.specs.declared.event.Event.{Event}
use Rattle.inno_model.specs.Past.{did}
use Rattle.sql_history.specs.Settings.{Setting}
use Rattle.sql_history.specs.Waiting.{is_victim}
use Rattle.law_past_agreement.specs.Order.{IsOfRow}
use Rattle.sql_lists.specs.Steps.{HasRowsAlone}
use Rattle.sql_lists.proofs.Staying.{is_within}
use Rattle.giving_up.proofs.Own.{takes_on}
use Rattle.giving_up.proofs.Ends.{Spares, victim_same}
use Rattle.transaction_statements.specs.Knowing.{IsAt}

-- ---- an entry that neither starts nor ends an item

pub at_on : (s : ℕ) (statement : Stmt) (Knows : Setting → Type 0) (e : Event) (h : List Event) → is_within s e ≡ true → HasRowsAlone s (e ∷ h)
    → did is_victim s (e ∷ h) ≡ false → IsAt s statement Knows h → IsAt s statement Knows (e ∷ h)
at_on s statement Knows e h within rows victim at =
    record { takes = takes_on e h s within statement at.takes; knows = at.knows; rows_alone = rows; no_victim = victim }

-- an entry of another session, or the acknowledgement of its commit
pub at_spared : (e : Event) (h : List Event) (s : ℕ) → Spares e h s → (statement : Stmt) (Knows : Setting → Type 0) → IsAt s statement Knows h
    → IsAt s statement Knows (e ∷ h)
at_spared e h s sp statement Knows at =
    at_on s statement Knows e h sp.within (subst (AllByRecursion IsOfRow) (sym sp.own_is) at.rows_alone) (victim_same e h s sp ∙ at.no_victim) at
