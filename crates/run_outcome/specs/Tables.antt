-- The rows of a database's first tables, table by table, and the changes that put them.
use Rattle.std.specs.Prelude.{ℕ, zero, suc, List, [], ◌∷◌, ◌++◌, map}
use Rattle.inno_db.specs.declared.change.Change.{Change}
use Rattle.inno_db.specs.declared.change.Change.TheVariants.{Put}
use Rattle.inno_types.specs.declared.value.Value.{Value}
use Rattle.inno_db.specs.Database.{Database, rows_of}

abbrev pub tables_below : ℕ → Database → List (List (List Value))
tables_below zero db = []
tables_below (suc n) db = tables_below n db ++ rows_of n db ∷ []

abbrev pub puts_below : ℕ → Database → List Change
puts_below zero db = []
puts_below (suc n) db = puts_below n db ++ map (Put n) (rows_of n db)
