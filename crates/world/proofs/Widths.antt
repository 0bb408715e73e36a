-- How long keys and values of an index are, for who knows its table.
use Rattle.std.proofs.Common.{◌≡◌, ℕ, suc, ◌+◌, ◌*◌, ◌<◌, List, length, Some, sym, ap, ◌∙◌, arith}
use Rattle.std.specs.Prelude.{slice_get}
use Rattle.inno_types.specs.{declared.value.Value.Value, declared.value.Key.Key, declared.value.Schema.Schema}
use Rattle.inno_db.specs.{Database.key_of, Indexes.index_of}
use Rattle.store_api.specs.declared.answers.Version.{Version}
use Rattle.key_codec.proofs.Lengths.{length-key_code}
use Rattle.row_codec.specs.Rows.{IsRowOf, IsKeyOf, version_code}
use Rattle.row_codec.proofs.Stored.{length-version_code}
use Rattle.world.specs.State.{IsIndex}
use Rattle.world.specs.Widths.{width_if, width_at, entry_len, key_len, value_len, HasKeyLen, HasValueLen}

-- the key of a row's record
pub record_key_len : (schema : Schema) (row : List Value) (key : List ℕ) → IsKeyOf schema row key → length key ≡ key_len schema 0
record_key_len schema row key is =
    ap length is.spelled ∙ length-key_code is.column.kind (key_of schema row) is.present ∙ sym (ap width_if is.primary)

-- its value
pub record_value_len : (schema : Schema) (version : Version) (value : List ℕ) → IsRowOf schema.columns version.row → value ≡ version_code schema version
    → length value ≡ value_len schema 0
record_value_len schema version value fits is = ap length is ∙ length-version_code schema version fits

-- an entry in a key
pub entry_key_len : (schema : Schema) (which : ℕ) (key : Key) → slice_get schema.keys which ≡ Some key
    → key_len schema (1 + which) ≡ 1 + width_at schema key.column + width_at schema schema.primary
entry_key_len schema which key there = let next : 1 + which ≡ suc which = omega arith in ap (key_len schema) next ∙ ap (entry_len schema) there

pub entry_value_len : (schema : Schema) (which : ℕ) → value_len schema (1 + which) ≡ 1
entry_value_len schema which = let next : 1 + which ≡ suc which = omega arith in ap (value_len schema) next

module _ {schemas : List Schema} {index : ℕ} (table which : ℕ) (schema : Schema) (number : index ≡ index_of table which) (few : which < 8)
    (there : slice_get schemas table ≡ Some schema) where
  which_is : (is : IsIndex schemas index) → is.which ≡ which
  which_is is = omega (arith, number, few, is.number, is.few)

  schema_is : (is : IsIndex schemas index) → is.schema ≡ schema
  schema_is is =
      let table_is : is.table ≡ table = omega (arith, number, few, is.number, is.few) in
      let found : Some is.schema ≡ Some schema = sym is.there ∙ ap (slice_get schemas) table_is ∙ there in cc

  pub has_key_len : (key : List ℕ) → length key ≡ key_len schema which → HasKeyLen schemas index key
  has_key_len key long = record { as_said = λ is. rw (which_is is, schema_is is) long }

  pub has_value_len : (value : List ℕ) → length value ≡ value_len schema which → HasValueLen schemas index value
  has_value_len value long = record { as_said = λ is. rw (which_is is, schema_is is) long }
