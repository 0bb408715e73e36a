-- What an insert, a mini-transaction of its own, makes of a placed tree.
use Rattle.std.specs.Prelude.{◌≡◌, ℕ, ◌<◌, ◌≤◌, List, [], ◌∷◌, length, Option, IsSome, None}
use Rattle.entries.specs.Pairs.{value_of, with_pair}
use Rattle.mtr.specs.Seen.{AreDistinct}
use Rattle.btree.specs.declared.tree.Tree.{Tree}
use Rattle.btree.specs.Sound.{tree_pairs}
use Rattle.btree_change.specs.Trees.{IsCrowded}
use Rattle.btree_split.specs.Ways.{IsLowestRoom, needed}
use Rattle.btree_grow.specs.Grown.{Grows, free_in}
use Rattle.btree_grow.specs.declared.inserts.Outcome.{Outcome}
use Rattle.btree_grow.specs.declared.inserts.Outcome.TheVariants.{Added, Present, Full, TooDeep}

-- How many pages are needed: one for each page that is full at the end of the way of the key, and one more where the root is among
-- them, for what it had. Nine would make a ninth level.
pub record Needs (tree : Tree) (pages : ℕ → List ℕ) (key : List ℕ) (need : ℕ) : Type 0 where
  pub above : Option ℕ
  pub full : ℕ
  pub lowest : IsLowestRoom tree pages key above full
  pub need_is : need ≡ needed above full
  pub fits : need ≤ 8

-- pages are taken only where the leaf of the key lacks room, and then as many as are needed
abbrev pub IsTakenIfCrowded : Tree → List ℕ → (ℕ → List ℕ) → List ℕ → Type 0
IsTakenIfCrowded tree key old [] = Unit {0}
IsTakenIfCrowded tree key old (page ∷ more) = IsCrowded tree old key × Needs tree old key (length (page ∷ more)) × AreDistinct (page ∷ more)

-- The pair is there now. Or nothing is changed: the key has a pair; its leaf lacks room, and too few pages are free; or the eight
-- pages of its way all lack room, and a tree has no ninth level.
abbrev pub DoesAdd : Tree → List ℕ → List ℕ → (ℕ → List ℕ) → (ℕ → List ℕ) → Outcome → Type 0
DoesAdd tree key value old new Added =
    (value_of key (tree_pairs tree old) ≡ None)
    × (taken : List ℕ) × IsTakenIfCrowded tree key old taken × Grows tree (with_pair key value (tree_pairs tree old)) taken old new
DoesAdd tree key value old new Present = IsSome (value_of key (tree_pairs tree old)) × (new ≡ old)
DoesAdd tree key value old new (Full need free) =
    (value_of key (tree_pairs tree old) ≡ None) × IsCrowded tree old key × Needs tree old key need
    × (free ≡ free_in old) × (free < need) × (new ≡ old)
DoesAdd tree key value old new TooDeep =
    (value_of key (tree_pairs tree old) ≡ None) × IsCrowded tree old key × IsLowestRoom tree old key None 8 × (new ≡ old)
