-- What stands of an open transaction's work, beside its changes.
use Rattle.std.specs.Prelude.{◌≡◌, ◌⊎◌, ℕ, ◌<◌, true, false, List, ◌++◌, length, Some, None}
use Rattle.inno_types.specs.declared.reply.Item.{Item}
use Rattle.inno_types.specs.declared.stmt.Stmt.TheVariants as stmt
use Rattle.inno_db.specs.declared.change.Change.{Change}
use Rattle.inno_db.specs.Database.{Database}
use Rattle.inno_model.specs.declared.event.Event.{Event}
use Rattle.inno_model.specs.Past.{own, under_way, did, oldest, IsOpen}
use Rattle.sql_history.specs.declared.settings.Save.{Save}
use Rattle.sql_history.specs.Items.{Language, Asks, is_over}
use Rattle.sql_history.specs.Settings.{Setting, HasSet, made_at, back_to}
use Rattle.sql_history.specs.Waiting.{is_victim}
use Rattle.sql_history.specs.Counts.{has_stopped}
use Rattle.sql_history.specs.Legal.{is_leaving}
use Rattle.sql_history.specs.Serial.{Piece, HasDone, pieces_to}
use Rattle.law_histories.specs.Work.{committed_db, Tracks, settled}

module _ (says : Language) where
  -- the transaction is on its way to be rolled back whole
  abbrev pub IsDropped : ℕ → List Event → Type 0
  IsDropped s past =
      ((under_way s past ≡ None) × (is_leaving s past ≡ true)) ⊎
      (Asks says s stmt.Rollback past ⊎ ((item : Item) × (under_way s past ≡ Some item) × (did is_victim s past ≡ true) × (is_over s past ≡ true)))

  -- and some of what stood is gone
  abbrev pub IsLost : ℕ → List Event → Type 0
  IsLost s past = (length (own s past) < length (settled s past)) × IsDropped s past

  -- all that stood when the last item ended
  pub record Whole (s : ℕ) (past : List Event) (db : Database) (pieces : List Piece) (saves : List Save) : Type 0 where
    pub newer : List Change
    pub own_is : own s past ≡ newer ++ settled s past
    pub tracks : Tracks db pieces saves (settled s past)

  -- what stood at the savepoint to which the item goes back
  pub record Back (s : ℕ) (past : List Event) (db : Database) (pieces : List Piece) (saves : List Save) : Type 0 where
    pub less : length (own s past) < length (settled s past)
    pub name : List ℕ
    pub asks : Asks says s (stmt.RollbackTo name) past
    pub made : ℕ
    pub is : made_at name saves ≡ Some made
    pub newer : List Change
    pub own_is : own s past ≡ newer ++ oldest made (settled s past)
    pub kept : length (oldest made (settled s past)) ≡ made
    pub tracks : Tracks db (pieces_to name pieces) (back_to name saves) (oldest made (settled s past))

  -- The work of the open transaction that still stands, over the committed rows.
  abbrev pub Carries : ℕ → List Event → Database → List Piece → List Save → Type 0
  Carries s past db pieces saves = Whole s past db pieces saves ⊎ (Back s past db pieces saves ⊎ IsLost s past)

  -- what the session has set, and what of its transaction's work stands
  pub record HasWork (s : ℕ) (past : List Event) : Type 0 where
    pub pieces : List Piece
    pub setting : Setting
    pub done : HasDone says s past pieces
    pub is_set : HasSet says s past setting
    pub carries : has_stopped past ≡ false → IsOpen s past → Carries s past (committed_db past) pieces setting.saves
