-- One change of one index.
use Rattle.std.specs.Prelude.{◌≡◌, ℕ, ◌+◌, ◌*◌, ◌==◌, if◌then◌else◌, List, Option, None, Some}
use Rattle.entries.specs.Pairs.{Pair, with_pair, without_key}
use Rattle.inno_db.specs.Indexes.{index_of}

-- the pairs with this value at the key, or with none there
abbrev pub with_value : List ℕ → Option (List ℕ) → List Pair → List Pair
with_value key None pairs = without_key key pairs
with_value key (Some value) pairs = with_pair key value pairs

-- the number of a table's clustered index
abbrev pub clustered_index : ℕ → ℕ
clustered_index table = 8 * table

-- the number of the index of the table's key at this place among its keys
abbrev pub key_index : ℕ → ℕ → ℕ
key_index table which = index_of table (1 + which)

-- At one index the key has this value now, or none; each other index has what it had.
abbrev pub Puts : (ℕ → List Pair) → (ℕ → List Pair) → ℕ → List ℕ → Option (List ℕ) → Type 0
Puts old new index key value = (other : ℕ) → new other ≡ (if other == index then with_value key value (old index) else old other)
