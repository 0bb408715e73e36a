-- Histories in which a session's statements see the latest rows and no commit of another meets its work: what takes the
-- place of the turns of a serial history.
use Rattle.std.specs.Prelude.{◌≡◌, ◌≢◌, ◌⊎◌, ℕ, ◌<◌, Bool, true, false, List, [], ◌∷◌, ◌++◌, length, Some, None}
use Rattle.inno_types.specs.declared.lock.Level.{Level}
use Rattle.inno_types.specs.declared.stmt.Definition.{Definition}
use Rattle.inno_types.specs.declared.stmt.Stmt.{Stmt}
use Rattle.inno_types.specs.declared.stmt.Stmt.TheVariants as stmt
use Rattle.inno_db.specs.Database.{Database, Place}
use Rattle.inno_model.specs.declared.event.Event.{Event}
use Rattle.inno_model.specs.declared.event.Event.TheVariants.{Ended, Committed}
use Rattle.inno_model.specs.Past.{own, level, before_item, did, begins_txn, commits, committed, opening, IsOpen}
use Rattle.sql_history.specs.Items.{Language, Asks, is_over, base, own_before}
use Rattle.sql_history.specs.Statements.{is_on_rows, sight_of}
use Rattle.sql_history.specs.Waiting.{is_victim}
use Rattle.sql_history.specs.Answers.{MaySee}
use Rattle.sql_history.specs.Serial.{Piece}
use Rattle.law_db.specs.Beside.{touches, AreOfRows}
use Rattle.law_histories.specs.Work.{AllIn, committed_db}
use Rattle.law_isolation.specs.Pieces.{AreBeside}
use Rattle.law_isolation.specs.Standing.{HasStanding}

-- the statement's transaction is not rolled back whole in the midst
abbrev pub IsUnbroken : ℕ → List Event → Type 0
IsUnbroken s past = (did is_victim s past ≡ false) ⊎ (level s (before_item s past) ≡ None)

-- Whatever the session's statement on rows may see now is the latest committed rows, each of a table that is there, and its
-- own.
abbrev pub SeesLatest : Language → ℕ → List Event → Type 0
SeesLatest says s past =
    (statement : Stmt) (l : Level) (alone : Bool) (db : Database) → Asks says s statement past → is_on_rows statement ≡ true → is_over s past ≡ false
    → IsUnbroken s past → level s past ≡ Some l
    → AllIn (opening past) (own_before s past ++ committed (commits past) past) → MaySee (sight_of l alone statement) s statement db past → db ≡ base s past

-- what t commits now leaves the work of s
pub record IsSparedBy (says : Language) (s t : ℕ) (past : List Event) : Type 0 where
  -- it makes no table, and s is making none
  pub rows : AreOfRows (own t past)
  pub no_table : (table : List ℕ) (skips : Bool) (definitions : List Definition) → Asks says s (stmt.CreateTable table skips definitions) past
      → did begins_txn s past ≡ false
  -- it changes no place that s has changed
  pub apart : (place : Place) → place.0 < length (committed_db past).schemas → touches (committed_db past).schemas (own s past) place ≡ true
      → touches (committed_db past).schemas (own t past) place ≡ false
  -- and none that s has searched
  pub beside : (pieces : List Piece) → HasStanding says s past pieces → AreBeside pieces (committed_db past) (own t past)

abbrev pub MeetsNone : Language → ℕ → Event → List Event → Type 0
MeetsNone says s (Committed t) past = s ≢ t → IsOpen s past → IsSparedBy says s t past
MeetsNone says s other past = Unit {0}

abbrev pub IsCalm : Language → ℕ → List Event → Type 0
IsCalm says s [] = Unit {0}
IsCalm says s (e ∷ past) = MeetsNone says s e past × SeesLatest says s past × IsCalm says s past

-- each session is calm up to the end of its last item, and up to its last commit
abbrev pub IsCalmTo : Language → Event → List Event → Type 0
IsCalmTo says (Ended s j reply) past = SeesLatest says s past × IsCalm says s past
IsCalmTo says (Committed s) past = SeesLatest says s past × IsCalm says s past
IsCalmTo says other past = Unit {0}

abbrev pub AreCalm : Language → List Event → Type 0
AreCalm says [] = Unit {0}
AreCalm says (e ∷ past) = IsCalmTo says e past × AreCalm says past
