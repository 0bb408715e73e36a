-- The keys that the tuples of an INSERT give.
use Rattle.std.specs.Prelude.{◌≡◌, ◌⊎◌, ℕ, ◌==◌, Bool, true, false, ◌&&◌, List, [], ◌∷◌, map, filter, Option, None, Some, Ok}
use Rattle.inno_types.specs.declared.value.Value.{Value}
use Rattle.inno_types.specs.declared.value.Column.{Column}
use Rattle.inno_types.specs.declared.stmt.Filter.{Filter}
use Rattle.inno_types.specs.declared.stmt.Filter.TheVariants.{In}
use Rattle.inno_types.specs.declared.stmt.Literal.{Literal}
use Rattle.inno_types.specs.declared.stmt.Literal.TheVariants as literal
use Rattle.inno_db.specs.Names.{column_place}
use Rattle.inno_db.specs.Storing.{place_in_tuple, literal_at, row_of_tuple}

-- a value: no NULL, and no number outside 64 bits
abbrev pub is_value : Literal → Bool
is_value literal.Null = false
is_value (literal.Int n) = true
is_value literal.TooBig = false
is_value (literal.Text text) = true

-- the values that tuples give at a place
abbrev pub values_given : Option ℕ → List (List Literal) → List Literal
values_given at tuples = map (λ tuple. literal_at tuple at) (filter (λ tuple. is_value (literal_at tuple at)) tuples)

-- the condition that a row's key is one of those that the tuples give
abbrev pub has_given_key : Option (List (List ℕ)) → List (List Literal) → ℕ → Column → Filter
has_given_key names tuples primary column = In column.name false (values_given (place_in_tuple names primary column) tuples)

abbrev pub is_place : Option ℕ → ℕ → Bool
is_place None place = false
is_place (Some other) place = other == place

-- a column that takes no NULL, and is the first one of its name
abbrev pub is_plain_key : List Column → ℕ → Column → Bool
is_plain_key columns place column = column.not_null && is_place (column_place columns column.name) place

-- the row of one of the tuples
abbrev pub IsMade : List Column → Option (List (List ℕ)) → List (List Literal) → List Value → Type 0
IsMade columns names [] row = ⊥
IsMade columns names (tuple ∷ tuples) row = (row_of_tuple columns names tuple ≡ Ok row) ⊎ IsMade columns names tuples row
