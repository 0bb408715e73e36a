-- What a page's bytes say of its place in the tree, and the pairs of a leaf.
use Rattle.std.specs.Prelude.{ℕ, zero, suc, List, [], ◌∷◌, take, drop, map, Option, None, Some, ◌==◌, if◌then◌else◌}
use Rattle.std.specs.Int.{w32, from_be_bytes}
use Rattle.entries.specs.Pairs.{Pair}
use Rattle.page_format.specs.declared.records.Found.{Found}
use Rattle.page_format.specs.declared.records.Found.TheVariants.{At, Before}
use Rattle.page_format.specs.Words.{level_of, low_of, high_of, right_of, records_of}
use Rattle.law_flat_tree.specs.Levels.{Fence, Node}
use Rattle.law_flat_tree.specs.Levels.Fence.{First, Key, Last}

-- no low fence is below all keys, and no high fence above all
abbrev pub low_fence : Option (List ℕ) → Fence
low_fence None = First
low_fence (Some key) = Key key

abbrev pub high_fence : Option (List ℕ) → Fence
high_fence None = Last
high_fence (Some key) = Key key

-- the page behind a record's key
abbrev pub child_of : ℕ → List ℕ → ℕ
child_of key_len bytes = from_be_bytes w32 (drop key_len bytes)

-- a key, and the page from there on
abbrev pub entry_of : ℕ → List ℕ → Fence × ℕ
entry_of key_len bytes = (Key (take key_len bytes), child_of key_len bytes)

-- the first child begins where the page does
abbrev pub entries_of : ℕ → Fence → List (List ℕ) → List (Fence × ℕ)
entries_of key_len low [] = []
entries_of key_len low (bytes ∷ more) = (low, child_of key_len bytes) ∷ map (entry_of key_len) more

abbrev pub node_of : ℕ → List ℕ → Node
node_of key_len bytes = record {
  low = low_fence (low_of bytes);
  high = high_fence (high_of bytes);
  right = right_of bytes;
  entries = if level_of bytes == 0 then [] else entries_of key_len (low_fence (low_of bytes)) (records_of bytes);
}

-- a record is a key and a value
abbrev pub pair_of : ℕ → List ℕ → Pair
pair_of key_len bytes = (take key_len bytes, drop key_len bytes)

abbrev pub leaf_pairs : ℕ → List ℕ → List Pair
leaf_pairs key_len bytes = map (pair_of key_len) (records_of bytes)

-- the place of the child that a search goes to: the record that begins with the key, or the last one below it
abbrev pub child_place : Found → ℕ
child_place (At i) = i
child_place (Before zero) = 0
child_place (Before (suc i)) = i
