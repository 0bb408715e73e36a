-- What of a transaction's work still stands.
use Rattle.std.specs.Prelude.{◌≡◌, ◌⊎◌, ℕ, ◌≤◌, ◌<◌, List, length}
use Rattle.inno_types.specs.declared.stmt.Stmt.TheVariants as stmt
use Rattle.inno_model.specs.declared.event.Event.{Event}
use Rattle.inno_model.specs.Past.{own}
use Rattle.sql_history.specs.Items.{Language, Asks}
use Rattle.sql_history.specs.Serial.{Piece, HasDone, pieces_to}
use Rattle.law_histories.specs.Work.{settled}

-- The item under way has put back some of what stood before it: of the work, what lies before the savepoint that it asks
-- for is left, and with a rollback of the whole transaction nothing.
abbrev pub HasStanding : Language → ℕ → List Event → List Piece → Type 0
HasStanding says s past pieces =
    (done : List Piece) × HasDone says s past done
    × (((length (settled s past) ≤ length (own s past)) × (pieces ≡ done))
    ⊎ ((length (own s past) < length (settled s past)) × ((name : List ℕ) × Asks says s (stmt.RollbackTo name) past × (pieces ≡ pieces_to name done))))
