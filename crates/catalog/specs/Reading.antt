-- Reading an entry from left to right: the entry and the bytes after it, or nothing where none is spelled.
use Rattle.std.specs.Prelude.{ℕ, ◌+◌, List, length, Option, Some}
use Rattle.schema_codec.specs.Reading.{◌>>=◌, u32_at, list_at, schema_at}
use Rattle.catalog.specs.declared.held.Held.{Held}

unfoldable pub entry_at : List ℕ → Option (Held × List ℕ)
entry_at bytes = do
  schema ← schema_at bytes
  roots ← list_at u32_at (1 + length schema.0.keys) schema.1
  Some (record { schema = schema.0; roots = roots.0 }, roots.1)
