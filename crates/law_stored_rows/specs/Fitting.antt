-- Rows, changes and databases that fit their tables, so that they can be coded.
use Rattle.std.specs.Prelude.{◌≡◌, List, ◌++◌, Some, IsSomeAnd, slice_get}
use Rattle.std.specs.FinMap.{get}
use Rattle.inno_types.specs.{declared.value.Value.Value, declared.value.Column.Column, declared.value.Schema.Schema}
use Rattle.inno_db.specs.{declared.change.Change.Change, declared.change.Change.TheVariants.Create, declared.change.Change.TheVariants.Put}
use Rattle.inno_db.specs.{declared.change.Change.TheVariants.Remove, Database.Database, Database.Place, Database.key_of}
use Rattle.key_codec.specs.Keys.{IsOfKind}
use Rattle.row_codec.specs.Rows.{IsRowOf}
use Rattle.law_stored_rows.specs.Storable.{IsStorable, AreStorable}

-- A value of the kind of the table's primary column, so not NULL.
pub record IsKeyFor (schema : Schema) (key : Value) : Type 0 where
  pub column : Column
  pub primary : slice_get schema.columns schema.primary ≡ Some column
  pub of_kind : IsOfKind column.kind key

-- A row of the table's columns, with such a key.
pub record FitsTable (schema : Schema) (row : List Value) : Type 0 where
  pub columns : IsRowOf schema.columns row
  pub key : IsKeyFor schema (key_of schema row)

-- A table that is made can be stored; a row is put into a table that is there, and fits it; a key is removed from a table
-- that is there, and is one for it.
abbrev pub FitsTables : List Schema → Change → Type 0
FitsTables schemas (Create schema) = IsStorable schema
FitsTables schemas (Put table row) = IsSomeAnd (slice_get schemas table) (λ schema. FitsTable schema row)
FitsTables schemas (Remove table key) = IsSomeAnd (slice_get schemas table) (λ schema. IsKeyFor schema key)

-- the table of the place is there, the row fits it, and the place has the row's key
abbrev pub FitsAt : List Schema → Place → List Value → Type 0
FitsAt schemas place row = IsSomeAnd (slice_get schemas place.0) (λ schema. FitsTable schema row × (place.1 ≡ key_of schema row))

-- Each table can be stored, and each row fits its table and stands at its key.
pub record AreFitting (db : Database) : Type 0 where
  pub tables : AreStorable db.schemas
  pub rows : (place : Place) (row : List Value) → get db.rows place ≡ Some row → FitsAt db.schemas place row

-- At some moment the row stood at the place in a database that fits, of these tables or of the first of them.
pub record StoodWell (schemas : List Schema) (place : Place) (row : List Value) : Type 0 where
  pub db : Database
  pub fitting : AreFitting db
  pub more : List Schema
  pub tables : schemas ≡ db.schemas ++ more
  pub there : get db.rows place ≡ Some row
