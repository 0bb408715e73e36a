-- Changes of rows beside others, and beside what a statement reads.
use Rattle.std.specs.Prelude.{◌≡◌, ℕ, Bool, true, false, List, [], ◌∷◌, Option, Some, None, slice_get, if◌then◌else◌}
use Rattle.std.specs.List.{list_any}
use Rattle.std.specs.FinMap.{get}
use Rattle.std.specs.Ordering.{eq_by_cmp}
use Rattle.inno_types.specs.declared.value.Value.{Value}
use Rattle.inno_types.specs.declared.value.Schema.{Schema}
use Rattle.inno_types.specs.declared.stmt.Filter.{Filter}
use Rattle.inno_types.specs.declared.stmt.Stmt.{Stmt}
use Rattle.inno_types.specs.declared.stmt.Stmt.TheVariants.{Select, Update, Delete}
use Rattle.inno_db.specs.declared.change.Change.{Change}
use Rattle.inno_db.specs.declared.change.Change.TheVariants.{Create, Put, Remove}
use Rattle.inno_db.specs.Database.{Database, Place, place_cmp, key_in}
use Rattle.inno_db.specs.Conditions.{matches}
use Rattle.inno_db.specs.Names.{table_place}
use Rattle.inno_model.specs.Past.{changed}

-- ---- places

abbrev pub is_change_at : List Schema → Place → Change → Bool
is_change_at schemas place (Create schema) = false
is_change_at schemas place (Put table row) = eq_by_cmp place_cmp place (table, key_in schemas table row)
is_change_at schemas place (Remove table key) = eq_by_cmp place_cmp place (table, key)

-- one of the changes is made at the place
abbrev pub touches : List Schema → List Change → Place → Bool
touches schemas changes place = list_any (is_change_at schemas place) changes

-- no place has changes of both
abbrev pub AreApart : List Schema → List Change → List Change → Type 0
AreApart schemas some others = (place : Place) → touches schemas some place ≡ true → touches schemas others place ≡ false

-- the changes make no table
abbrev pub AreOfRows : List Change → Type 0
AreOfRows [] = Unit {0}
AreOfRows (Create schema ∷ changes) = ⊥
AreOfRows (change ∷ changes) = AreOfRows changes

-- ---- what a statement has searched

-- the row where it passes
abbrev pub passed : (List Value → Bool) → Option (List Value) → Option (List Value)
passed test None = None
passed test (Some row) = if test row then Some row else None

-- no row of a place that was changed passes, before or behind
abbrev pub IsUnmet : ℕ → (List Value → Bool) → Database → List Change → Type 0
IsUnmet table test db changes =
    (key : Value) → touches db.schemas changes (table, key) ≡ true
    → (passed test (get db.rows (table, key)) ≡ None) × (passed test (get (changed db changes).rows (table, key)) ≡ None)

-- the changes are beside the rows of the table of this name that the condition meets
abbrev pub IsBesideSearch : List ℕ → Option Filter → Database → List Change → Type 0
IsBesideSearch name condition db changes =
    (table : ℕ) (schema : Schema) → table_place db.schemas name ≡ Some table → slice_get db.schemas table ≡ Some schema → IsUnmet table (matches schema.columns condition) db changes

-- The changes are beside the rows that the statement reads: of a search, those that it meets. An INSERT reads the rows of
-- the keys that it puts, which are places of its own changes, and so is asked for nothing here.
abbrev pub IsBesideStatement : Stmt → Database → List Change → Type 0
IsBesideStatement (Select selected name condition lock) db changes = IsBesideSearch name condition db changes
IsBesideStatement (Update name sets condition) db changes = IsBesideSearch name condition db changes
IsBesideStatement (Delete name condition) db changes = IsBesideSearch name condition db changes
IsBesideStatement other db changes = Unit {0}

-- the statement searches a table for the rows that its condition meets
abbrev pub is_search : Stmt → Bool
is_search (Select selected name condition lock) = true
is_search (Update name sets condition) = true
is_search (Delete name condition) = true
is_search other = false
