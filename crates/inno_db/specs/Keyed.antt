-- Databases whose rows stand at their keys.
use Rattle.std.specs.Prelude.{◌≡◌, ◌<◌, List, [], ◌∷◌, length}
use Rattle.std.specs.FinMap.{entries}
use Rattle.inno_types.specs.declared.value.Value.{Value}
use Rattle.inno_types.specs.declared.value.Schema.{Schema}
use Rattle.inno_db.specs.Database.{Database, Place, key_in}

-- a row of a table that is there, at the key that it has
abbrev pub IsAtItsKey : List Schema → Place × List Value → Type 0
IsAtItsKey schemas e = (e.0.0 < length schemas) × (e.0.1 ≡ key_in schemas e.0.0 e.1)

abbrev pub AreAtTheirKeys : List Schema → List (Place × List Value) → Type 0
AreAtTheirKeys schemas [] = Unit {0}
AreAtTheirKeys schemas (e ∷ es) = IsAtItsKey schemas e × AreAtTheirKeys schemas es

-- each row of a database stands at its key
abbrev pub IsKeyed : Database → Type 0
IsKeyed db = AreAtTheirKeys db.schemas (entries db.rows)
