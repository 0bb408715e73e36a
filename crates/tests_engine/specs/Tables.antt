-- Two tables alike: CREATE TABLE (i BIGINT, a BIGINT, PRIMARY KEY (i), KEY (a)), by the names t and u.
use Rattle.std.specs.Prelude.{◌≡◌, ℕ, List, [], ◌∷◌, None, false, true}
use Rattle.inno_types.specs.declared.value.Kind.TheVariants.{BigInt}
use Rattle.inno_types.specs.declared.value.Schema.{Schema}
use Rattle.inno_types.specs.declared.stmt.DeclaredKind.TheVariants as declared
use Rattle.inno_types.specs.declared.stmt.Definition.{Definition}
use Rattle.inno_types.specs.declared.stmt.Definition.TheVariants as definition
use Rattle.inno_db.specs.Database.{Database}

-- the bytes of a, i, t and u
abbrev pub a : ℕ
a = 97

abbrev pub i : ℕ
i = 105

abbrev pub t : ℕ
t = 116

abbrev pub u : ℕ
u = 117

abbrev pub definitions : List Definition
definitions =
    definition.Column (i ∷ []) declared.BigInt None false
    ∷ definition.Column (a ∷ []) declared.BigInt None false
    ∷ definition.Primary (i ∷ [])
    ∷ definition.Key None (a ∷ [])
    ∷ []

abbrev pub table_named : ℕ → Schema
table_named name = record {
  name = name ∷ [];
  columns = record { name = i ∷ []; kind = BigInt; not_null = true } ∷ record { name = a ∷ []; kind = BigInt; not_null = false } ∷ [];
  primary = 0;
  keys = record { name = a ∷ []; column = 1 } ∷ [];
}

abbrev pub HasBoth : Database → Type 0
HasBoth db = db.schemas ≡ table_named t ∷ table_named u ∷ []
