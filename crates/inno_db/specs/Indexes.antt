-- The numbers of indexes.
use Rattle.std.specs.Prelude.{ℕ, ◌+◌, ◌*◌}

-- the number of a table's clustered index, or of one of its keys
abbrev pub index_of : ℕ → ℕ → ℕ
index_of table which = 8 * table + which
