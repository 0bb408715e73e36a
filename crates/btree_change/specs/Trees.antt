-- A tree on pages of the file, and what a change makes of its pages.
use Rattle.std.specs.Prelude.{◌≡◌, ℕ, ◌<◌, List, Bool, true, false, None, IsSome}
use Rattle.std.specs.List.{AllByRecursion}
use Rattle.stored_pages.specs.declared.layout.TheConstants.{PAGE_COUNT}
use Rattle.entries.specs.Pairs.{Pair, value_of, with_pair, without_key}
use Rattle.stored_pages.specs.Words.{u32_at}
use Rattle.law_flat_tree.specs.PageSplits.{StandsNowhere}
use Rattle.btree.specs.declared.tree.Tree.{Tree}
use Rattle.btree.specs.Sound.{IsSoundTree, levels_of, tree_pairs, HoldsKey}
use Rattle.btree_change.specs.declared.leaf_changes.Insertion.{Insertion}
use Rattle.btree_change.specs.declared.leaf_changes.Insertion.TheVariants.{Added, Present, Crowded}
use Rattle.btree_change.specs.Edits.{HasRoom}

-- The tree stands as it should, and page 0 counts each of its pages.
pub record IsWholeTree (tree : Tree) (pages : ℕ → List ℕ) : Type 0 where
  pub sound : IsSoundTree tree pages
  pub counted : AllByRecursion (AllByRecursion (λ page. page < u32_at PAGE_COUNT (pages 0))) (levels_of tree pages)

-- The tree has these pairs now, in the same pages, and no page is changed that isn't one of them.
pub record Becomes (tree : Tree) (pairs : List Pair) (old new : ℕ → List ℕ) : Type 0 where
  pub whole : IsWholeTree tree new
  pub pairs_are : tree_pairs tree new ≡ pairs
  pub levels : levels_of tree new ≡ levels_of tree old
  pub others : (page : ℕ) → StandsNowhere page (levels_of tree old) → new page ≡ old page

-- the leaf of the key takes no record more
pub record IsCrowded (tree : Tree) (pages : ℕ → List ℕ) (key : List ℕ) : Type 0 where
  pub leaf : ℕ
  pub holds : HoldsKey tree pages key leaf
  pub full : HasRoom (pages leaf) → ⊥

-- where the leaf is said to lack room, it does
abbrev pub LacksRoom : ℕ → (ℕ → List ℕ) → Insertion → Type 0
LacksRoom leaf pages Added = Unit {0}
LacksRoom leaf pages Present = Unit {0}
LacksRoom leaf pages Crowded = HasRoom (pages leaf) → ⊥

-- The pair is there now; or the key has a pair, or the leaf of the key lacks room, and nothing is changed.
abbrev pub DoesInsert : Tree → List ℕ → List ℕ → (ℕ → List ℕ) → (ℕ → List ℕ) → Insertion → Type 0
DoesInsert tree key value old new Added =
    (value_of key (tree_pairs tree old) ≡ None) × Becomes tree (with_pair key value (tree_pairs tree old)) old new
DoesInsert tree key value old new Present = IsSome (value_of key (tree_pairs tree old)) × (new ≡ old)
DoesInsert tree key value old new Crowded = (value_of key (tree_pairs tree old) ≡ None) × IsCrowded tree old key × (new ≡ old)

-- The key has this value now, or it has no pair, and nothing is changed.
abbrev pub DoesReplace : Tree → List ℕ → List ℕ → (ℕ → List ℕ) → (ℕ → List ℕ) → Bool → Type 0
DoesReplace tree key value old new true =
    IsSome (value_of key (tree_pairs tree old)) × Becomes tree (with_pair key value (tree_pairs tree old)) old new
DoesReplace tree key value old new false = (value_of key (tree_pairs tree old) ≡ None) × (new ≡ old)

-- The key has no pair any more, or it had none, and nothing is changed.
abbrev pub DoesRemove : Tree → List ℕ → (ℕ → List ℕ) → (ℕ → List ℕ) → Bool → Type 0
DoesRemove tree key old new true =
    IsSome (value_of key (tree_pairs tree old)) × Becomes tree (without_key key (tree_pairs tree old)) old new
DoesRemove tree key old new false = (value_of key (tree_pairs tree old) ≡ None) × (new ≡ old)
