-- What a statement may see that reads each row at a moment of its own: what stands still as it is, and of every other
-- row one of its states.
use Rattle.std.specs.Prelude.{◌≡◌, ◌≢◌, ◌⊎◌, ℕ, ◌==◌, List, [], ◌∷◌, ◌++◌, if◌then◌else◌, Some, None}
use Rattle.std.specs.List.{list_any, flat_map}
use Rattle.std.specs.FinMap.{get}
use Rattle.inno_db.specs.declared.change.Change.{Change}
use Rattle.inno_db.specs.Database.{Database, Place}
use Rattle.inno_model.specs.declared.event.Event.{Event}
use Rattle.inno_model.specs.declared.event.Event.TheVariants.{Begin, Started, Ended, Changed, Undone, RolledBack}
use Rattle.inno_db.specs.Changes.{place_of}
use Rattle.inno_model.specs.Moments.{Throughout, Sometime}
use Rattle.inno_model.specs.Past.{own, under_way, commits, committed, opening, changed}

-- the sessions that have begun transactions, each once
abbrev pub beginners : List Event → List ℕ
beginners [] = []
beginners (Begin s n level ∷ past) = if list_any (λ t. t == s) (beginners past) then beginners past else s ∷ beginners past
beginners (other ∷ past) = beginners past

-- the changes of all open transactions
abbrev pub uncommitted : List Event → List Change
uncommitted past = flat_map (λ s. own s past) (beginners past)

-- the newest rows, committed or not
abbrev pub newest : List Event → Database
newest past = changed (opening past) (uncommitted past ++ committed (commits past) past)

-- a change of this place is put back
abbrev pub IsFirstAt : Place → Database → List Change → Type 0
IsFirstAt place db [] = ⊥
IsFirstAt place db (change ∷ earlier) = place_of db.schemas change ≡ Some place

-- The session's item under way has neither changed the place nor put a change of it back. Its ending counts as an item, which
-- its rollback ends.
abbrev pub LeavesAlone : Place → ℕ → List Event → Type 0
LeavesAlone place s [] = Unit {0}
LeavesAlone place s (Started t j item ∷ past) = t ≢ s → LeavesAlone place s past
LeavesAlone place s (Ended t j reply ∷ past) = t ≢ s → LeavesAlone place s past
LeavesAlone place s (RolledBack t ∷ past) = ((t ≡ s) × (under_way s past ≡ None)) ⊎ LeavesAlone place s past
LeavesAlone place s (Changed t change ∷ past) = (t ≡ s → place_of (newest past).schemas change ≢ Some place) × LeavesAlone place s past
LeavesAlone place s (Undone t keep ∷ past) = (t ≡ s → IsFirstAt place (newest past) (own s past) → ⊥) × LeavesAlone place s past
LeavesAlone place s (other ∷ past) = LeavesAlone place s past

-- nobody else is at work on the place
abbrev pub IsQuiet : ℕ → Place → List Event → Type 0
IsQuiet s place past = (other : ℕ) → other ≢ s → LeavesAlone place other past

-- A database that a statement may see over a base: the row of each place that is the same, and quiet, from the item's
-- start to now, and of each other place a row that it had then, or none.
pub record IsLooseReading (s : ℕ) (base : List Event → Database) (Quiet : Place → List Event → Type 0) (db : Database) (past : List Event) : Type 0 where
  pub tables : db.schemas ≡ (base past).schemas
  pub still : (place : Place) (row : _) → Throughout (λ h. get (base h).rows place ≡ row) s past → Throughout (Quiet place) s past → get db.rows place ≡ row
  pub moved : (place : Place) → (get db.rows place ≡ None) ⊎ Sometime (λ h. get (base h).rows place ≡ get db.rows place) s past
