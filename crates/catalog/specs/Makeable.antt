-- Which schemas a CREATE TABLE can make. This is the rule of its refusals (`schema_declared` in inno_db) said of the
-- schema that comes out: the same words on columns and on what can be indexed, and the length of names.
use Rattle.std.specs.Prelude.{ℕ, Bool, true, false, ◌&&◌, nat_lt, nat_le, List, length, Option, Some, None, slice_get}
use Rattle.std.specs.List.{list_all}
use Rattle.inno_types.specs.declared.value.Kind.{Kind}
use Rattle.inno_types.specs.declared.value.Kind.TheVariants.{BigInt, VarBinary}
use Rattle.inno_types.specs.declared.value.Column.{Column}
use Rattle.inno_types.specs.declared.value.Schema.{Schema}
use Rattle.inno_db.specs.declared.limits.TheConstants.{MOST_KEYS}
use Rattle.inno_db.specs.Declarations.{is_indexable, are_good_columns}

-- a name has 1 to 64 bytes
abbrev pub is_name : List ℕ → Bool
is_name name = nat_lt 0 (length name) && nat_le (length name) 64

abbrev pub are_named : Schema → Bool
are_named s = is_name s.name && (list_all (λ c. is_name c.name) s.columns && list_all (λ k. is_name k.name) s.keys)

-- a primary key's column takes no NULL
abbrev pub takes_no_null : Option Column → Bool
takes_no_null None = false
takes_no_null (Some column) = column.not_null

-- the primary key's column is there, can be indexed and takes no NULL
abbrev pub has_primary : List Column → ℕ → Bool
has_primary columns place = is_indexable (slice_get columns place) && takes_no_null (slice_get columns place)

-- the secondary keys are few, and on columns that can be indexed
abbrev pub has_good_keys : Schema → Bool
has_good_keys s = nat_le (length s.keys) MOST_KEYS && list_all (λ k. is_indexable (slice_get s.columns k.column)) s.keys

-- a VARBINARY has 255 bytes at most
abbrev pub is_narrow : Kind → Bool
is_narrow BigInt = true
is_narrow (VarBinary size) = nat_le size 255

abbrev pub is_makeable : Schema → Bool
is_makeable s =
    are_good_columns s.columns
    && (list_all (λ c. is_narrow c.kind) s.columns && (are_named s && (has_primary s.columns s.primary && has_good_keys s)))
