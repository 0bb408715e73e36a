-- Logs of undo records.
use Rattle.std.proofs.Common.{◌≡◌, ◌≢◌, List, [], ◌∷◌, refl}
use Rattle.world.specs.State.{Logged}

-- a log that is not empty has a newest record
pub cons_of : (log : List Logged) → log ≢ [] → (gone : Logged) × (older : List Logged) × (log ≡ gone ∷ older)
cons_of [] some = absurd (some refl)
cons_of (gone ∷ log) some = (gone, log, refl)
