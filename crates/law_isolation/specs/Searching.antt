-- What a search finds that reads each row at a moment of its own, and the database that its statement then acts on.
use Rattle.std.specs.Prelude.{◌≡◌, ℕ, ◌==◌, ◌&&◌, Bool, true, false, not, List, Option, Some, None}
use Rattle.std.specs.FinMap.{get, retain_keys}
use Rattle.inno_types.specs.declared.value.Value.{Value}
use Rattle.inno_types.specs.declared.stmt.Filter.{Filter}
use Rattle.inno_types.specs.declared.stmt.Stmt.{Stmt}
use Rattle.inno_types.specs.declared.stmt.Stmt.TheVariants.{Select, Update, Delete}
use Rattle.inno_db.specs.Database.{Database}
use Rattle.inno_model.specs.declared.event.Event.{Event}
use Rattle.inno_model.specs.Moments.{Throughout}
use Rattle.sql_history.specs.Items.{base}

-- the statement searches the table of this name for the rows that the condition meets
abbrev pub Searches : Stmt → List ℕ → Option Filter → Type 0
Searches (Select selected table where' lock) name condition = (table ≡ name) × (where' ≡ condition)
Searches (Update table sets where') name condition = (table ≡ name) × (where' ≡ condition)
Searches (Delete table where') name condition = (table ≡ name) × (where' ≡ condition)
Searches other name condition = ⊥

-- a row that passes the test, and was not found
abbrev pub is_missed : (List Value → Bool) → (List Value → Bool) → Option (List Value) → Bool
is_missed test found None = false
is_missed test found (Some row) = test row && not (found row)

-- the database without such rows of the table
abbrev pub without_missed : ℕ → (List Value → Bool) → (List Value → Bool) → Database → Database
without_missed table test found db = record db { rows = retain_keys db.rows (λ place. not ((place.0 == table) && is_missed test found (get db.rows place))) }

-- Each row of the table that has stood as it is since the item was started, and passes the test, was found.
abbrev pub HasFoundStill : ℕ → ℕ → (List Value → Bool) → (List Value → Bool) → List Event → Type 0
HasFoundStill s table test found past =
    (key : Value) (row : List Value) → Throughout (λ h. get (base s h).rows (table, key) ≡ Some row) s past → test row ≡ true → found row ≡ true
