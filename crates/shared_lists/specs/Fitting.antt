-- Histories in which each change fitted its tables when it was made, and what a change asks of the rows.
use Rattle.std.specs.Prelude.{◌≡◌, ℕ, true, List, [], ◌∷◌, is_some}
use Rattle.inno_types.specs.declared.value.Schema.{Schema}
use Rattle.inno_db.specs.{Database.Database, declared.change.Change.Change}
use Rattle.inno_model.specs.{declared.event.Event.Event, declared.event.Event.TheVariants.Opened, declared.event.Event.TheVariants.Changed}
use Rattle.inno_db.specs.declared.change.Change.TheVariants.{Remove}
use Rattle.inno_model.specs.Past.{commits}
use Rattle.law_past_agreement.specs.{Order.created, Rows.row_seen}
use Rattle.law_stored_rows.specs.{Fitting.FitsTables, Fitting.AreFitting, Numbers.ChangeHas64Bits, Numbers.RowsHave64Bits}

-- the database's tables can be stored, and each of its rows can be coded
pub record CanBeCoded (db : Database) : Type 0 where
  pub fitting : AreFitting db
  pub numbers : RowsHave64Bits db

-- the change fits these tables, and its numbers have 64 bits
abbrev pub FitsWell : List Schema → Change → Type 0
FitsWell tables change = FitsTables tables change × ChangeHas64Bits change

-- The rows of the database that was opened fit its tables, and each change was one of the tables that had been made.
abbrev pub FitsThen : List Event → Type 0
FitsThen [] = Unit {0}
FitsThen (Opened db ∷ past) = CanBeCoded db
FitsThen (Changed s change ∷ past) = FitsWell (created past) change × FitsThen past
FitsThen (other ∷ past) = FitsThen past

-- a row that a change removes is there, as the session sees the newest rows
abbrev pub RemovesOne : ℕ → List Event → Change → Type 0
RemovesOne s past (Remove table key) = is_some (row_seen past s (commits past) (record { table = table; key = key })) ≡ true
RemovesOne s past other = Unit {0}
