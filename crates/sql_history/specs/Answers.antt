-- What the rows say of a statement's reply and of its changes, by how it sees them.
use Rattle.std.specs.Prelude.{◌≡◌, ◌⊎◌, ℕ, List, ◌++◌, length, Option, Some, None, slice_get}
use Rattle.std.specs.List.{AllByRecursion}
use Rattle.std.specs.FinMap.{get}
use Rattle.inno_types.specs.declared.value.Schema.{Schema}
use Rattle.inno_types.specs.declared.stmt.Filter.{Filter}
use Rattle.inno_types.specs.declared.stmt.Stmt.{Stmt}
use Rattle.inno_types.specs.declared.stmt.Stmt.TheVariants as stmt
use Rattle.inno_types.specs.declared.reply.Reply.{Reply}
use Rattle.inno_types.specs.declared.reply.Reply.TheVariants.{Fail}
use Rattle.inno_db.specs.declared.change.Change.{Change}
use Rattle.inno_db.specs.Database.{Database, Place, key_of, rows_of}
use Rattle.inno_db.specs.Names.{table_place}
use Rattle.inno_db.specs.Outcome.{outcome, matching}
use Rattle.inno_model.specs.declared.event.Event.{Event}
use Rattle.inno_db.specs.Changes.{place_of}
use Rattle.inno_model.specs.Past.{own, view_of, opening, changed, committed}
use Rattle.sql_history.specs.Items.{base, point, own_before, HasMade}
use Rattle.sql_history.specs.Statements.{Sight, schemas_now}
use Rattle.sql_history.specs.LooseReading.{IsLooseReading, IsQuiet, newest}

-- ---- what stands in the latest committed rows

-- both have the same row at the place, or none
abbrev pub IsSameAt : Database → Database → Place → Type 0
IsSameAt a b place = get a.rows place ≡ get b.rows place

abbrev pub IsSameWhere : Database → Database → Option Place → Type 0
IsSameWhere a b None = Unit {0}
IsSameWhere a b (Some place) = IsSameAt a b place

-- the rows that a change takes the place of
abbrev pub ChangesLatest : Database → Database → List Change → Type 0
ChangesLatest db latest changes = AllByRecursion (λ change. IsSameWhere db latest (place_of db.schemas change)) changes

abbrev pub GivesLatest : Database → Database → ℕ → Option Schema → Option Filter → Type 0
GivesLatest db latest table None condition = Unit {0}
GivesLatest db latest table (Some schema) condition =
    AllByRecursion (λ row. IsSameAt db latest (table, key_of schema row)) (matching schema.columns condition (rows_of table db))

abbrev pub GivesLatestOf : Database → Database → Option ℕ → Option Filter → Type 0
GivesLatestOf db latest None condition = Unit {0}
GivesLatestOf db latest (Some table) condition = GivesLatest db latest table (slice_get db.schemas table) condition

-- each row that a locking statement gives, changes or removes is one of the latest committed, or its session's own
abbrev pub TakesLatest : Stmt → Database → Database → Type 0
TakesLatest (stmt.Select selected table condition lock) db latest = GivesLatestOf db latest (table_place db.schemas table) condition
TakesLatest other db latest = ChangesLatest db latest (outcome other db).changes

-- ---- which databases a statement may answer by

-- the opening, with all tables that stand now
abbrev pub with_tables : ℕ → List Event → Database
with_tables s at = record (opening at) { schemas = schemas_now s at }

-- The snapshot of a view. Tables that were made since are there, and their rows are the session's own.
abbrev pub seen_by : ℕ → ℕ → List Event → Database
seen_by s number at = record (changed (with_tables s at) (own s at ++ committed number at)) { schemas = schemas_now s at }

-- A statement may see this database at its point.
abbrev pub MaySee : Sight → ℕ → Stmt → Database → List Event → Type 0
MaySee Sight.of_view s statement db at = (number : ℕ) × (view_of s at ≡ Some number) × (db ≡ seen_by s number at)
MaySee Sight.of_latest s statement db at = db ≡ base s at
MaySee Sight.of_moments s statement db at = IsLooseReading s (base s) (λ place h. Unit {0}) db at × TakesLatest statement db (base s at)
MaySee Sight.of_dirty_moments s statement db at = IsLooseReading s newest (IsQuiet s) db at

-- ---- replies and changes

-- A refused item has made the first of its changes, any other all of them.
abbrev pub MakesFor : Reply → ℕ → List Change → List Event → Type 0
MakesFor (Fail error) s changes at = (count : ℕ) × HasMade count s changes at
MakesFor other s changes at = HasMade (length changes) s changes at

-- The reply is that of the statement's outcome over a database that it may see, and the item has made its changes.
pub record Answers (sight : Sight) (s : ℕ) (statement : Stmt) (reply : Reply) (past : List Event) : Type 0 where
  pub db : Database
  pub sees : MaySee sight s statement db (point s past)
  pub answer : reply ≡ (outcome statement db).reply
  pub changes : MakesFor reply s (outcome statement db).changes (point s past)

-- An item that ends before its answer has made some changes of such an outcome, the first ones.
pub record HasBegun (sight : Sight) (s : ℕ) (statement : Stmt) (past : List Event) : Type 0 where
  pub db : Database
  pub sees : MaySee sight s statement db (point s past)
  pub count : ℕ
  pub changes : HasMade count s (outcome statement db).changes (point s past)

abbrev pub BreaksOff : Sight → ℕ → Stmt → List Event → Type 0
BreaksOff sight s statement past = (own s (point s past) ≡ own_before s (point s past)) ⊎ HasBegun sight s statement past
