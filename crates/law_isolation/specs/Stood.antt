-- Pieces that stand behind an entry: they stood before it, or one is that of the item that ends.
-- The law of `standing` says that there are no others.
use Rattle.std.specs.Prelude.{◌≡◌, ◌⊎◌, ℕ, true, List, [], ◌∷◌, Some}
use Rattle.inno_types.specs.declared.stmt.Stmt.{Stmt}
use Rattle.inno_model.specs.declared.event.Event.{Event}
use Rattle.inno_model.specs.declared.event.Event.TheVariants.{Ended}
use Rattle.sql_history.specs.Items.{Language, Asks}
use Rattle.sql_history.specs.Statements.{is_on_rows}
use Rattle.sql_history.specs.Serial.{Piece}
use Rattle.law_isolation.specs.Standing.{HasStanding}

abbrev pub IsAmong : Piece → List Piece → Type 0
IsAmong piece [] = ⊥
IsAmong piece (other ∷ pieces) = (piece ≡ other) ⊎ IsAmong piece pieces

abbrev pub IsStanding : Language → ℕ → List Event → Piece → Type 0
IsStanding says s past piece = (pieces : List Piece) × HasStanding says s past pieces × IsAmong piece pieces

-- the piece is the statement of the item that ends by this entry
abbrev pub IsNew : Language → ℕ → Event → List Event → Piece → Type 0
IsNew says s (Ended t j reply) past piece =
    (t ≡ s) × ((statement : Stmt) × Asks says s statement past × (is_on_rows statement ≡ true) × (piece ≡ Piece.ran statement (Some reply)))
IsNew says s other past piece = ⊥
