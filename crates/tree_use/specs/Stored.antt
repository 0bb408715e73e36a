-- What a tree shows between two mini-transactions, and what holds of its pages then.
use Rattle.std.specs.Prelude.{◌≡◌, ℕ, ◌<◌, ◌≤◌, Bool, if◌then◌else◌, List, length, None, Some, is_some, IsTrue, refl}
use Rattle.std.specs.Coded.{Coded, code_by, coded×, coded_list, coded_ℕ}
use Rattle.store_api.specs.declared.moves.Move.{Move}
use Rattle.store_api.specs.declared.moves.Move.TheVariants.{At, Done, Full, TooDeep, NoMemory}
use Rattle.stored_pages.specs.declared.layout.TheConstants.{PAGE}
use Rattle.entries.specs.Pairs.{Pair, value_of, with_pair, without_key}
use Rattle.mtr.specs.Seen.{MtrState}
use Rattle.space_map.specs.Taking.{HasPageCount}
use Rattle.btree.specs.declared.tree.Tree.{Tree}
use Rattle.btree.specs.Reads.{IsIdle}
use Rattle.btree.specs.Sound.{levels_of, tree_pairs}
use Rattle.btree_split.specs.Placed.{IsPlacedTree}
use Rattle.btree_grow.specs.Grown.{free_in}

-- the pairs, how many pages of the file are free, how many levels the tree has, and how long each key and each value is
pub record Stored : Type 0 where
  pub pairs : List Pair
  pub free : ℕ
  pub levels : ℕ
  pub key_len : ℕ
  pub value_len : ℕ

abbrev pub stored_code : Coded Stored
stored_code =
    code_by (List Pair × (ℕ × (ℕ × (ℕ × ℕ))))
    (coded× (coded_list (coded× (coded_list coded_ℕ) (coded_list coded_ℕ))) (coded× coded_ℕ (coded× coded_ℕ (coded× coded_ℕ coded_ℕ))))
    (λ s. (s.pairs, (s.free, (s.levels, (s.key_len, s.value_len)))))
    (λ p. record { pairs = p.0; free = p.1.0; levels = p.1.1.0; key_len = p.1.1.1.0; value_len = p.1.1.1.1 }) (λ _. refl)

abbrev pub stored_of : Tree → (ℕ → List ℕ) → Stored
stored_of tree pages = record {
  pairs = tree_pairs tree pages;
  free = free_in pages;
  levels = length (levels_of tree pages);
  key_len = tree.key_len;
  value_len = tree.value_len;
}

-- keys and values as long as an index may have them
pub record HasWidths (tree : Tree) : Type 0 where
  pub some : 0 < tree.key_len
  pub key : tree.key_len ≤ 67
  pub value : tree.value_len ≤ 1024

-- Nothing is under way, the tree stands on its pages, and these are told; page 0 counts as many as a file may have.
pub record IsAtRest (tree : Tree) (s : MtrState) : Type 0 where
  pub told : IsTrue s.told
  pub idle : IsIdle s
  pub placed : IsPlacedTree tree s.standing
  pub counted : HasPageCount s.standing
  pub spare : PAGE ≤ s.whole

-- The key has this value now, or it isn't there, and nothing is changed; keys and values are as long as before.
pub record IsPut (key value : List ℕ) (old new : Stored) (found : Bool) : Type 0 where
  pub found_is : found ≡ is_some (value_of key old.pairs)
  pub pairs_are : new.pairs ≡ (if found then with_pair key value old.pairs else old.pairs)
  pub key_len : new.key_len ≡ old.key_len
  pub value_len : new.value_len ≡ old.value_len

-- The key is there no more; where it wasn't, nothing is changed.
pub record IsTaken (key : List ℕ) (old new : Stored) (found : Bool) : Type 0 where
  pub found_is : found ≡ is_some (value_of key old.pairs)
  pub pairs_are : new.pairs ≡ (if found then without_key key old.pairs else old.pairs)
  pub key_len : new.key_len ≡ old.key_len
  pub value_len : new.value_len ≡ old.value_len

-- The pages are at rest again, and stand as before.
pub record IsStill (tree : Tree) (old new : MtrState) : Type 0 where
  pub rest : IsAtRest tree new
  pub same : new.standing ≡ old.standing

-- the key has this value now; keys and values are as long as before
pub record IsPutIn (key value : List ℕ) (old new : Stored) : Type 0 where
  pub pairs_are : new.pairs ≡ with_pair key value old.pairs
  pub key_len : new.key_len ≡ old.key_len
  pub value_len : new.value_len ≡ old.value_len

-- The pair is there now; or it isn't, and nothing is changed: the key has a pair, which is answered; fewer pages are free than are
-- needed; the tree has eight levels, all of them full on the way of the key; or memory is lacking.
abbrev pub IsAdded : List ℕ → List ℕ → Stored → Stored → Move → Type 0
IsAdded key value old new Done = (value_of key old.pairs ≡ None) × IsPutIn key value old new
IsAdded key value old new (At there kept) = (there ≡ key) × (value_of key old.pairs ≡ Some kept) × (new ≡ old)
IsAdded key value old new (Full need free) = (free ≡ old.free) × (free < need) × (new ≡ old)
IsAdded key value old new TooDeep = (old.levels ≡ 8) × (new ≡ old)
IsAdded key value old new NoMemory = new ≡ old
IsAdded key value old new other = ⊥
