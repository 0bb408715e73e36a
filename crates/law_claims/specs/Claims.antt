-- What a session keeps of a database, so that no other session changes it before its transaction ends, and what the outcome of a
-- statement rests on.
use Rattle.std.specs.Prelude.{◌≡◌, ◌≢◌, ◌⊎◌, ℕ, true, false, List, [], Option, Some}
use Rattle.inno_types.specs.declared.stmt.Filter.{Filter}
use Rattle.inno_types.specs.declared.stmt.Stmt.{Stmt}
use Rattle.inno_types.specs.declared.stmt.Stmt.TheVariants.{Update, Delete}
use Rattle.inno_types.specs.declared.reply.SqlError.{SqlError}
use Rattle.inno_types.specs.declared.reply.SqlError.TheVariants.{Duplicate}
use Rattle.inno_types.specs.declared.value.Schema.{Schema}
use Rattle.inno_db.specs.declared.change.Change.{Change}
use Rattle.inno_db.specs.Database.{Database, Place}
use Rattle.inno_db.specs.Names.{table_place}
use Rattle.inno_model.specs.declared.event.Event.{Event}
use Rattle.inno_model.specs.Past.{own, changed}
use Rattle.sql_history.specs.Items.{base}
use Rattle.law_db.specs.RowChanges.{AreOfTables}
use Rattle.law_db.specs.Beside.{touches, IsBesideSearch}

-- which tables there are; the row at a place, or that there is none; the rows of a table that a condition meets
pub data Claim : Type 0 where
  Tables : Claim
  Row : Place → Claim
  Rows : List ℕ → Option Filter → Claim

-- the changes leave what is claimed as it is
abbrev pub Leaves : Claim → Database → List Change → Type 0
Leaves Tables db others = AreOfTables db.schemas others
Leaves (Row place) db others = touches db.schemas others place ≡ false
Leaves (Rows name condition) db others = IsBesideSearch name condition db others

-- Under the plain lock the one right to write keeps all: the session has it, and so no other one has changes.
pub record Keeps (s : ℕ) (claim : Claim) (past : List Event) (writer : Option ℕ) : Type 0 where
  pub locked : writer ≡ Some s
  pub alone : (other : ℕ) → other ≢ s → own other past ≡ []

-- What an outcome rests on: the places of these changes, the rows that the statement has searched for, where its search is over,
-- and the row for which it was refused.
pub record Basis : Type 0 where
  pub changes : List Change
  pub searched : Option Stmt
  pub refused_at : Option Place

-- the statement searches for these rows
abbrev pub SearchesFor : Option Stmt → List ℕ → Option Filter → Type 0
SearchesFor (Some (Update table sets filter)) name condition = (table ≡ name) × (filter ≡ condition)
SearchesFor (Some (Delete table filter)) name condition = (table ≡ name) × (filter ≡ condition)
SearchesFor other name condition = ⊥

abbrev pub RestsOn : List Schema → Basis → Claim → Type 0
RestsOn schemas basis Tables = Unit {0}
RestsOn schemas basis (Row place) = (touches schemas basis.changes place ≡ true) ⊎ (basis.refused_at ≡ Some place)
RestsOn schemas basis (Rows name condition) = SearchesFor basis.searched name condition

-- the session keeps all that it rests on
abbrev pub KeepsBasis : ℕ → List Schema → Basis → List Event → Option ℕ → Type 0
KeepsBasis s schemas basis past writer = (claim : Claim) → RestsOn schemas basis claim → Keeps s claim past writer

-- and the changes leave all of that
abbrev pub LeavesBasis : Basis → Database → List Change → Type 0
LeavesBasis basis db others = (claim : Claim) → RestsOn db.schemas basis claim → Leaves claim db others

-- where a row with the tuple's key refused it, the basis has that row's place
abbrev pub IsRefusedAt : List Schema → List ℕ → SqlError → Basis → Type 0
IsRefusedAt schemas name (Duplicate key) basis = (table : ℕ) → table_place schemas name ≡ Some table → basis.refused_at ≡ Some (table, key)
IsRefusedAt schemas name other basis = Unit {0}

-- What holds over a database, and over it with any changes that leave what it rests on.
abbrev pub Stands : Basis → (Database → Type 0) → Database → Type 0
Stands basis Holds db = (others : List Change) → LeavesBasis basis db others → Holds (changed db others)

-- What a session's statement acts on has gone on by changes that leave what its outcome rests on.
pub record GoesBeside (basis : Basis) (s : ℕ) (old new : List Event) : Type 0 where
  pub others : List Change
  pub base_is : base s new ≡ changed (base s old) others
  pub leaves : LeavesBasis basis (base s old) others
