-- The version that an undo record keeps.
use Rattle.std.specs.Prelude.{◌≡◌, Bool, true, false, List, Option, None, Some}
use Rattle.inno_types.specs.declared.value.Schema.{Schema}
use Rattle.store_api.specs.declared.answers.Undo.{Undo}
use Rattle.row_versions.specs.declared.kept.Kept.{Kept}
use Rattle.world.specs.Indexes.{IsVersionKept}

-- the version that the record keeps, beside its bytes, and of the record's row
pub record IsKeptOf (schemas : List Schema) (undo : Undo) (kept : Kept) : Type 0 where
  pub table : kept.table ≡ undo.table
  pub key : kept.key ≡ undo.key
  pub bytes : kept.bytes ≡ undo.value
  pub version : IsVersionKept schemas undo kept.version

abbrev pub KeepsOnly : Bool → List Schema → Undo → Option Kept → Type 0
KeepsOnly true schemas undo (Some kept) = IsKeptOf schemas undo kept
KeepsOnly true schemas undo None = ⊥
KeepsOnly false schemas undo kept = kept ≡ None
