-- Histories that are free of phantoms.
use Rattle.std.specs.Prelude.{◌≡◌, ◌≢◌, ℕ, ◌<◌, ◌==◌, Bool, true, false, List, [], ◌∷◌, length, Some, None}
use Rattle.inno_types.specs.declared.lock.Level.{Level}
use Rattle.inno_types.specs.declared.lock.Level.TheVariants.{Serializable}
use Rattle.inno_types.specs.declared.value.Schema.{Schema}
use Rattle.inno_db.specs.declared.change.Change.{Change}
use Rattle.inno_db.specs.Database.{Database, Place}
use Rattle.inno_model.specs.declared.event.Event.{Event}
use Rattle.inno_model.specs.declared.event.Event.TheVariants.{Started, Ended, Committed}
use Rattle.inno_model.specs.Past.{own, level}
use Rattle.sql_history.specs.Items.{Language}
use Rattle.sql_history.specs.Statements.{Sight, sight_of}
use Rattle.sql_history.specs.Serial.{Piece, IsUnstarted}
use Rattle.law_db.specs.Beside.{touches, IsBesideStatement}
use Rattle.law_histories.specs.Work.{committed_db}
use Rattle.law_isolation.specs.Pieces.{AreBeside}
use Rattle.law_isolation.specs.Standing.{HasStanding}

-- of the tables that are there, no place has changes of two sessions
abbrev pub AllApart : List Schema → List Event → Type 0
AllApart schemas past =
    (s t : ℕ) → s ≢ t → (place : Place) → place.0 < length schemas → touches schemas (own s past) place ≡ true → touches schemas (own t past) place ≡ false

-- No transaction commits a change of a row that a standing piece of another's work has searched, before or behind. (Of the
-- transactions at SERIALIZABLE: at other levels a statement may have read rows that it did not lock.)
abbrev pub IsPhantomFree : Language → List Event → Type 0
IsPhantomFree says [] = Unit {0}
IsPhantomFree says (Committed t ∷ past) =
    ((s : ℕ) (pieces : List Piece) → s ≢ t → level s past ≡ Some Serializable → HasStanding says s past pieces → AreBeside pieces (committed_db past)
    (own t past))
    × IsPhantomFree says past
IsPhantomFree says (other ∷ past) = IsPhantomFree says past

-- Of all levels, what an engine that locks keeps: no transaction commits a change of a row that a standing statement of another
-- has searched, where that reads the latest rows and locks them. (Below REPEATABLE READ no search does, and at REPEATABLE READ
-- a plain SELECT doesn't.)
abbrev pub IsSparedAt : Level → Piece → Database → List Change → Type 0
IsSparedAt l (Piece.ran statement reply) db changes = sight_of l false statement ≡ Sight.of_latest → IsBesideStatement statement db changes
IsSparedAt l (Piece.kept name) db changes = Unit {0}

abbrev pub AreSparedAt : Level → List Piece → Database → List Change → Type 0
AreSparedAt l [] db changes = Unit {0}
AreSparedAt l (piece ∷ pieces) db changes = IsSparedAt l piece db changes × AreSparedAt l pieces db changes

abbrev pub SparesLocked : Language → List Event → Type 0
SparesLocked says [] = Unit {0}
SparesLocked says (Committed t ∷ past) =
    ((s : ℕ) (l : Level) (pieces : List Piece) → s ≢ t → level s past ≡ Some l → HasStanding says s past pieces → AreSparedAt l pieces (committed_db past)
    (own t past))
    × SparesLocked says past
SparesLocked says (other ∷ past) = SparesLocked says past

-- ---- a weaker premise, which does not suffice

-- an item of the setup part starts or ends
abbrev pub is_setup : Event → Bool
is_setup (Started s j item) = s == 0
is_setup (Ended s j reply) = s == 0
is_setup other = false

-- The setup part stands first: none of its items starts or ends behind another session's start.
abbrev pub SetsUpFirst : List Event → Type 0
SetsUpFirst [] = Unit {0}
SetsUpFirst (e ∷ past) = (is_setup e ≡ true → IsUnstarted past) × SetsUpFirst past
