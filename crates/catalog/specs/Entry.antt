-- How a table is spelled in the catalog: its schema, and then the root pages of its indexes, the clustered one first.
use Rattle.std.specs.Prelude.{◌≡◌, ℕ, ◌+◌, ◌^◌, ◌<◌, List, ◌++◌, length, All}
use Rattle.std.specs.List.{flat_map}
use Rattle.schema_codec.specs.Numbers.{u32_bytes}
use Rattle.schema_codec.specs.Schema.{schema_bytes, IsSchema}
use Rattle.catalog.specs.declared.held.Held.{Held}

abbrev pub entry_bytes : Held → List ℕ
entry_bytes held = schema_bytes held.schema ++ flat_map u32_bytes held.roots

abbrev pub IsRoot : ℕ → Type 0
IsRoot page = page < 2 ^ 32

-- as many roots as indexes
pub record IsEntry (held : Held) : Type 0 where
  pub schema : IsSchema held.schema
  pub count : length held.roots ≡ 1 + length held.schema.keys
  pub roots : All IsRoot held.roots
