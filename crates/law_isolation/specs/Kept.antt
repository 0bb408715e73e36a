-- What is kept for the pieces of an open transaction's work that still stand.
-- What is kept is a parameter: the laws say only for which pieces it stands. `law_locked_work` puts locks there.
use Rattle.std.specs.Prelude.{◌≡◌, ◌⊎◌, ℕ, ◌≤◌, ◌<◌, Bool, true, false, List, [], ◌∷◌, ◌++◌, length, Option, Some, None}
use Rattle.inno_types.specs.declared.lock.Level.{Level}
use Rattle.inno_types.specs.declared.reply.Reply.{Reply}
use Rattle.inno_types.specs.declared.reply.Reply.TheVariants.{Count, Rows}
use Rattle.inno_types.specs.declared.stmt.Stmt.{Stmt}
use Rattle.inno_types.specs.declared.stmt.Stmt.TheVariants as stmt
use Rattle.inno_model.specs.declared.event.Event.{Event}
use Rattle.inno_model.specs.declared.event.Event.TheVariants.{Ended}
use Rattle.inno_model.specs.Past.{own, under_way, level, txn, IsOpen}
use Rattle.sql_history.specs.declared.settings.Save.{Save}
use Rattle.sql_history.specs.Items.{Language, Asks, is_over}
use Rattle.sql_history.specs.Settings.{Setting, HasSet, made_at, back_to}
use Rattle.sql_history.specs.Statements.{is_on_rows}
use Rattle.sql_history.specs.Counts.{has_stopped}
use Rattle.sql_history.specs.Legal.{is_leaving}
use Rattle.sql_history.specs.Serial.{Piece, HasDone, pieces_to}
use Rattle.law_histories.specs.Work.{settled}

-- what is kept for a piece of a transaction that had made so many changes before it
abbrev pub KeptFor : Type 1
KeptFor = Piece → ℕ → Type 0

-- the same, by the transaction's number and level
abbrev pub KeptIn : Type 1
KeptIn = ℕ → Option Level → Piece → ℕ → Type 0

-- For each statement it is kept that the transaction had made so many changes, no more than there were later; each savepoint stands with its
-- number. Lists stand newest first.
abbrev pub AreKept : KeptFor → List Piece → List Save → ℕ → Type 0
AreKept keeps [] saves made = saves ≡ []
AreKept keeps (Piece.kept name ∷ pieces) saves made =
    (earlier : List Save) × (before : ℕ) × (before ≤ made) × (saves ≡ record { name = name; made = before } ∷ earlier) × AreKept keeps pieces earlier before
AreKept keeps (Piece.ran statement reply ∷ pieces) saves made =
    (before : ℕ) × (before ≤ made) × keeps (Piece.ran statement reply) before × AreKept keeps pieces saves before

module _ (says : Language) where
  -- the transaction is on its way to be rolled back whole
  abbrev pub IsDropped : ℕ → List Event → Type 0
  IsDropped s past =
      ((under_way s past ≡ None) × (is_leaving s past ≡ true)) ⊎
      (Asks says s stmt.Rollback past ⊎ ((statement : Stmt) × Asks says s statement past × (is_on_rows statement ≡ true) × (is_over s past ≡ true)))

  abbrev pub IsLost : ℕ → List Event → Type 0
  IsLost s past = (length (own s past) < length (settled s past)) × IsDropped s past

  -- all that stood when the last item ended
  pub record Whole (keeps : KeptFor) (s : ℕ) (past : List Event) (pieces : List Piece) (saves : List Save) : Type 0 where
    pub within : length (settled s past) ≤ length (own s past)
    pub kept : AreKept keeps pieces saves (length (settled s past))

  -- what stood at the savepoint to which the item goes back
  pub record Back (keeps : KeptFor) (s : ℕ) (past : List Event) (pieces : List Piece) (saves : List Save) : Type 0 where
    pub less : length (own s past) < length (settled s past)
    pub name : List ℕ
    pub asks : Asks says s (stmt.RollbackTo name) past
    pub made : ℕ
    pub is : made_at name saves ≡ Some made
    pub within : made ≤ length (own s past)
    pub kept : AreKept keeps (pieces_to name pieces) (back_to name saves) made

  abbrev pub Carries : KeptFor → ℕ → List Event → List Piece → List Save → Type 0
  Carries keeps s past pieces saves = Whole keeps s past pieces saves ⊎ (Back keeps s past pieces saves ⊎ IsLost s past)

  -- It is kept for each piece of the session's open transaction that stands.
  pub record AreStanding (keeps : KeptIn) (s : ℕ) (past : List Event) : Type 0 where
    pub setting : Setting
    pub is_set : HasSet says s past setting
    pub carries : has_stopped past ≡ false → IsOpen s past → (pieces : List Piece) → HasDone says s past pieces
        → Carries (keeps (txn s past) (level s past)) s past pieces setting.saves

  -- a reply by which a statement on rows becomes a piece
  abbrev pub is_counted : Reply → Bool
  is_counted (Rows rows) = true
  is_counted (Count n) = true
  is_counted other = false

  -- a statement that is done brings what is to be kept for it
  abbrev pub Brings : KeptIn → ℕ → Event → List Event → Type 0
  Brings keeps s (Ended t j reply) past =
      t ≡ s → has_stopped past ≡ false → IsOpen s past → is_counted reply ≡ true → (statement : Stmt) → Asks says s statement past → is_on_rows statement ≡ true
      → keeps (txn s past) (level s past) (Piece.ran statement (Some reply)) (length (settled s past))
  Brings keeps s other past = Unit {0}

  abbrev pub BringAll : KeptIn → ℕ → List Event → List Event → Type 0
  BringAll keeps s [] past = Unit {0}
  BringAll keeps s (e ∷ entries) past = Brings keeps s e (entries ++ past) × BringAll keeps s entries past
