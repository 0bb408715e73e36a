-- Stores that keep something for each standing piece that locks what it searches.
-- `law_locked_work` has one, by locks; the laws here hold of any.
use Rattle.std.specs.Prelude.{◌≡◌, ◌≢◌, ℕ, ◌≤◌, List, [], ◌∷◌, ◌++◌, Bool, length, Option, Some}
use Rattle.inno_types.specs.declared.lock.Level.{Level}
use Rattle.inno_types.specs.declared.reply.Reply.{Reply}
use Rattle.inno_types.specs.declared.stmt.Stmt.{Stmt}
use Rattle.inno_model.specs.declared.event.Event.{Event}
use Rattle.inno_model.specs.declared.event.Event.TheVariants.{Ended, Committed}
use Rattle.inno_model.specs.Past.{own, txn, IsOpen}
use Rattle.sql_history.specs.Items.{Language}
use Rattle.sql_history.specs.Statements.{Sight, sight_of}
use Rattle.sql_history.specs.Serial.{Piece}
use Rattle.law_db.specs.Beside.{IsBesideStatement}
use Rattle.law_histories.specs.Work.{committed_db}
use Rattle.law_isolation.specs.Phantoms.{SparesLocked}
use Rattle.law_isolation.specs.Kept.{KeptIn, AreStanding, BringAll}

-- in a transaction of this level the piece is a statement that reads the latest rows, and so locks what it searches
abbrev pub Locks : Option Level → Piece → Type 0
Locks (Some l) (Piece.ran statement reply) = sight_of l Bool.false statement ≡ Sight.of_latest
Locks l piece = ⊥

-- no item of the session ends
abbrev pub EndNone : ℕ → List Event → Type 0
EndNone s [] = Unit {0}
EndNone s (Ended t j reply ∷ entries) = (t ≢ s) × EndNone s entries
EndNone s (other ∷ entries) = EndNone s entries

module _ (says : Language) (Store : Type 0) (past_of : Store → List Event) (keeps : ℕ → Piece → ℕ → Store → Type 0) where
  abbrev pub kept_in : ℕ → Store → KeptIn
  kept_in s store n l piece made = Locks l piece → keeps s piece made store

  -- for each standing piece that locks it is kept, and no commit changed what another had searched and kept
  pub record StandsIn (store : Store) : Type 0 where
    pub standing : (s : ℕ) → AreStanding says (kept_in s store) s (past_of store)
    pub spared : SparesLocked says (past_of store)

  -- A commit by the session changes nothing that another keeps.
  abbrev pub CommitSpares : ℕ → Store → Event → List Event → Type 0
  CommitSpares t store (Committed u) past =
      (u ≡ t) × ((s made : ℕ) (statement : Stmt) (reply : Option Reply) → s ≢ t → IsOpen s past → keeps s (Piece.ran statement reply) made store
      → IsBesideStatement statement (committed_db past) (own t past))
  CommitSpares t store other past = Unit {0}

  abbrev pub CommitsSpare : ℕ → Store → List Event → Type 0
  CommitsSpare t store [] = Unit {0}
  CommitsSpare t store (e ∷ entries) = CommitSpares t store e (entries ++ past_of store) × CommitsSpare t store entries

  -- A step of session t: what others keep stays kept (its own, too, but for what it puts back), a statement that ends hands over what it keeps, and
  -- what it commits spares what others keep.
  pub record Steps (t : ℕ) (entries : List Event) (old new : Store) : Type 0 where
    pub adds : past_of new ≡ entries ++ past_of old
    pub others : (s : ℕ) → s ≢ t → EndNone s entries
    pub keeps_on : (s made : ℕ) (piece : Piece) → IsOpen s (past_of old) → IsOpen s (past_of new) → txn s (past_of old) ≡ txn s (past_of new)
        → made ≤ length (own s (past_of new)) → keeps s piece made old → keeps s piece made new
    pub brings : BringAll says (kept_in t new) t entries (past_of old)
    pub commits : CommitsSpare t old entries
