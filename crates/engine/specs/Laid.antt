-- Databases that are laid down, and the worlds that hold them.
use Rattle.std.specs.Prelude.{◌≡◌, ◌<◌, ℕ, false, true, List, [], ◌∷◌, Option, Some, None, is_some}
use Rattle.std.specs.FinMap.{get}
use Rattle.inno_types.specs.declared.value.Value.{Value}
use Rattle.inno_types.specs.declared.value.Schema.{Schema}
use Rattle.inno_db.specs.Database.{Database}
use Rattle.store_api.specs.declared.moves.Move.TheVariants.{Done}
use Rattle.sql_history.specs.Counts.{rows_in, capped, most_rows}
use Rattle.row_codec.specs.Rows.{version_code}
use Rattle.entries.specs.Pairs.{value_of}
use Rattle.entries.specs.Index.{Told}
use Rattle.entries.specs.Calls.{Inserts}
use Rattle.row_versions.specs.declared.place.Place.{Place}
use Rattle.row_versions.specs.declared.version.Version.{Version}
use Rattle.row_versions.specs.Chains.{Chains, in_model, versions_at}
use Rattle.law_stored_rows.specs.Edits.{clustered_index}
use Rattle.world.specs.State.{WorldState}
use Rattle.world.specs.Stores.{StoreGoes}
use Rattle.world.specs.Indexes.{Changes}
use Rattle.row_changes.specs.Told.{HasRows}
use Rattle.row_changes.specs.Edits.{IsRowFor}
use Rattle.row_changes.specs.Keys.{IsChangingKeys}
use Rattle.law_stored_rows.specs.Tables.{what_is_there}
use Rattle.row_changes.specs.Awaited.{AwaitsNoMore, AwaitsNobody}
use Rattle.shared_lists.specs.Fitting.{CanBeCoded}
use Rattle.desks.specs.Holding.{IsFresh}
use Rattle.engine.specs.declared.opened.OpenBad.{OpenBad}
use Rattle.engine.specs.declared.opened.OpenBad.TheVariants.{TooManyRows, NoMemory}

-- a row has one version, which nobody wrote who is known here
abbrev pub version_of : Option (List Value) → List Version
version_of None = []
version_of (Some row) = record { writer = 0; row = Some row } ∷ []

-- The world holds the rows of the database, each in one version. It is yet to be opened, and nobody has joined.
pub record IsLaid (db : Database) (state : WorldState) : Type 0 where
  pub fits : CanBeCoded db
  pub chains : Chains
  pub versions : (place : Place) → versions_at place chains ≡ version_of (get db.rows (in_model place))
  pub coded : HasRows chains state
  pub schemas : state.schemas ≡ db.schemas
  pub names : state.names ≡ []
  pub past : state.past ≡ []
  pub txns : state.txns ≡ record { open_txns = []; begun = 0; next = 1 }
  pub sessions : state.sessions ≡ []
  pub nobody : AwaitsNobody state

-- a world that has been opened on this database
abbrev pub IsFreshOf : Database → WorldState → Type 0
IsFreshOf db state = (fresh : IsFresh state) × (fresh.db ≡ db)

-- it has more rows than a history may hold
abbrev pub IsTooLarge : Database → OpenBad → Type 0
IsTooLarge db (TooManyRows rows) = (rows ≡ capped (rows_in db)) × (most_rows < rows)
IsTooLarge db NoMemory = Unit {0}

-- ---- one row

-- this is the key of the row, where no record was, and now its record is
pub record PutsNewRecord (table : ℕ) (schema : Schema) (row : List Value) (old new : WorldState) (key : List ℕ) : Type 0 where
  pub row_is : IsRowFor schema row key
  pub inserts : Changes (clustered_index table) 0 None
      (λ before after answer. Inserts 0 key (version_code schema (record { row = row; writer = 0; pointer = 0; marked = false })) before after answer) old
      new Done

-- there is a record at the key of the row
pub record HasRecordThere (table : ℕ) (schema : Schema) (row : List Value) (state : WorldState) : Type 0 where
  pub key : List ℕ
  pub row_is : IsRowFor schema row key
  pub there : Told (λ pairs. is_some (value_of key pairs) ≡ true) (state.indexes (clustered_index table))

-- The keys of the table have taken the row over, and nothing else has changed.
pub record TakesKeysOver (table : ℕ) (key : List ℕ) (row : List Value) (old new : WorldState) : Type 0 where
  pub rows : (chains : Chains) → IsChangingKeys chains (what_is_there chains) old
      (record { table = table; key = key; before = None; after = Some row; which = 0; put = None })
      → HasRows chains new
  pub awaits : AwaitsNoMore old new
  pub rest : new ≡ record old { indexes = new.indexes; versions = new.versions; paged = new.paged }
  pub later : StoreGoes old.paged new.paged
