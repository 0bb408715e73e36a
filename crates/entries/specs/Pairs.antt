-- Pairs of a key and a value in the order of their keys, and what is found among them.
use Rattle.std.specs.Prelude.{◌≡◌, ℕ, ◌≤◌, Bool, true, false, List, [], ◌∷◌, length, find, Option, Some, is_some}
use Rattle.std.specs.declared.cmp.Ordering.{Ordering}
use Rattle.std.specs.declared.cmp.Ordering.TheVariants.{Less}
use Rattle.std.specs.Ordering.{nat_cmp, is_le, is_lt}
use Rattle.std.specs.Cmp.Lexicographic.{slice_cmp}
use Rattle.std.specs.List.{AllByRecursion}
use Rattle.std.specs.Map.{lookup, remove_entry}
use Rattle.std.specs.BTreeMap.{is_at, insert_entry}

-- a key and its value
abbrev pub Pair : Type 0
Pair = List ℕ × List ℕ

-- Keys are compared byte by byte.
unfoldable pub key_cmp : List ℕ → List ℕ → Ordering
key_cmp key other = slice_cmp nat_cmp key other

-- each key is below all keys behind it
abbrev pub AreRising : List Pair → Type 0
AreRising [] = Unit {0}
AreRising (pair ∷ pairs) = AllByRecursion (λ later. key_cmp pair.0 later.0 ≡ Less) pairs × AreRising pairs

-- no longer than the longest key and the longest value
pub record IsShort (pair : Pair) : Type 0 where
  pub key : length pair.0 ≤ 67
  pub value : length pair.1 ≤ 1024

-- what holds of the pairs of an index at all times
pub record AreSound (pairs : List Pair) : Type 0 where
  pub rising : AreRising pairs
  pub short : AllByRecursion IsShort pairs

-- the value of the key
abbrev pub value_of : List ℕ → List Pair → Option (List ℕ)
value_of key pairs = lookup (is_at (key_cmp key)) pairs

-- the first pair at or above the key
abbrev pub first_from : List ℕ → List Pair → Option Pair
first_from key pairs = find (λ pair. is_le (key_cmp key pair.0)) pairs

-- the first pair above the key
abbrev pub first_after : List ℕ → List Pair → Option Pair
first_after key pairs = find (λ pair. is_lt (key_cmp key pair.0)) pairs

-- the pairs with this value at the key: in place of the old one, or as a new pair in the order of keys
abbrev pub with_pair : List ℕ → List ℕ → List Pair → List Pair
with_pair key value pairs = insert_entry key_cmp pairs key value

-- the pairs of the other keys
abbrev pub without_key : List ℕ → List Pair → List Pair
without_key key pairs = remove_entry (is_at (key_cmp key)) pairs

-- The pair is the first one whose key passes: it is there, and each key that is there and passes is this one or above.
pub record IsFirstOf (test : List ℕ → Bool) (pairs : List Pair) (pair : Pair) : Type 0 where
  pub there : value_of pair.0 pairs ≡ Some pair.1
  pub passes : test pair.0 ≡ true
  pub least : (other : List ℕ) → is_some (value_of other pairs) ≡ true → test other ≡ true → is_le (key_cmp pair.0 other) ≡ true

-- no key that is there passes
abbrev pub NonePasses : (List ℕ → Bool) → List Pair → Type 0
NonePasses test pairs = (other : List ℕ) → is_some (value_of other pairs) ≡ true → test other ≡ false
