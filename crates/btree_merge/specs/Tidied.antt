-- What tidying makes of a placed tree.
use Rattle.std.specs.Prelude.{◌≡◌, ◌⊎◌, ℕ, suc, ◌<◌, List, [], length, Option, None, Some}
use Rattle.page_format.specs.Words.{records_of}
use Rattle.btree.specs.declared.tree.Tree.{Tree}
use Rattle.btree.specs.Sound.{lows_of, HoldsKey}
use Rattle.btree_merge.specs.Parents.{IsParent}
use Rattle.btree_split.specs.Halves.{child_under}
use Rattle.btree_merge.specs.Merged.{HoldsFew, CanMerge, MergesCouple}

-- The leaf of the key is the child of this parent's record of that number.
pub record IsLeafUnder (tree : Tree) (pages : ℕ → List ℕ) (key : List ℕ) (u j : ℕ) : Type 0 where
  pub parent : IsParent tree pages key u
  pub within : j < length (records_of (pages u))
  pub holds : HoldsKey tree pages key (child_under tree.key_len pages u j)

-- the child of that number is one of these two side by side
abbrev pub IsOneOf : ℕ → ℕ → Type 0
IsOneOf j i = (i ≡ j) ⊎ (suc i ≡ j)

-- the leaf under the parent holds few records, or not
abbrev pub IsSparse : Tree → (ℕ → List ℕ) → List ℕ → ℕ → Option ℕ → Type 0
IsSparse tree pages key u (Some j) = IsLeafUnder tree pages key u j × HoldsFew (pages (child_under tree.key_len pages u j))
IsSparse tree pages key u None = (j : ℕ) × IsLeafUnder tree pages key u j × (HoldsFew (pages (child_under tree.key_len pages u j)) → ⊥)

-- The child is merged with one beside it under the same parent, where it fits with one; else nothing is changed.
abbrev pub MergesBeside : Tree → ℕ → ℕ → (ℕ → List ℕ) → (ℕ → List ℕ) → Option ℕ → Type 0
MergesBeside tree u j old new (Some freed) = (i : ℕ) × IsOneOf j i × MergesCouple tree u i freed old new
MergesBeside tree u j old new None = ((i : ℕ) → IsOneOf j i → CanMerge tree old u i → ⊥) × (new ≡ old)

-- The leaf of the key doesn't hold few records, or fits with none beside it under the same parent.
pub record HasNoPartner (tree : Tree) (pages : ℕ → List ℕ) (key : List ℕ) : Type 0 where
  pub parent : ℕ
  pub place : ℕ
  pub leaf : IsLeafUnder tree pages key parent place
  pub none : HoldsFew (pages (child_under tree.key_len pages parent place)) → (i : ℕ) → IsOneOf place i → CanMerge tree pages parent i → ⊥

-- The leaf of the key is merged with one beside it under the same parent, where it holds few records and fits with one. Else nothing
-- is changed: the root is that leaf, or it has no such partner.
abbrev pub DoesTidy : Tree → List ℕ → (ℕ → List ℕ) → (ℕ → List ℕ) → Option ℕ → Type 0
DoesTidy tree key old new (Some freed) =
    (u : ℕ) × (j : ℕ) × IsLeafUnder tree old key u j × HoldsFew (old (child_under tree.key_len old u j)) × MergesBeside tree u j old new (Some freed)
DoesTidy tree key old new None = ((lows_of tree old ≡ []) ⊎ HasNoPartner tree old key) × (new ≡ old)
