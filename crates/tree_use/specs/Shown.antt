-- What contracts see of an index in a tree.
use Rattle.std.specs.Prelude.{◌≡◌, ℕ, false, [], Option, None, Some, IfSome, IsSome}
use Rattle.entries.specs.Pairs.{Pair}
use Rattle.entries.specs.Index.{Paged, Index}
use Rattle.btree.specs.declared.tree.Tree.{Tree}
use Rattle.tree_use.specs.Stored.{Stored}

-- No page of it breaks a rule, no latch stands in a way, and each call ends.
abbrev pub paged_of : Stored → Paged
paged_of stored = record {
  faults = 0;
  levels = stored.levels;
  key_len = stored.key_len;
  value_len = stored.value_len;
  is_crowded = false;
  breaks = λ page rule. false;
  stops = λ by actor. false;
  to_go = λ actor. [];
}

-- the index with these places of actors, and the actor that is awaited
abbrev pub index_of : Stored → (ℕ → Option Pair) → Option ℕ → Index
index_of stored place awaited = record { pairs = Some stored.pairs; place = place; awaited = awaited; paged = Some (paged_of stored) }

-- It has no pairs, keys and values as long as the tree's, and no actor has a place or is awaited.
pub record IsEmptyOf (tree : Tree) (index : Index) : Type 0 where
  pub pairs : index.pairs ≡ Some []
  pub place : (actor : ℕ) → index.place actor ≡ None
  pub awaited : index.awaited ≡ None
  pub widths : IfSome index.paged (λ p. (p.key_len ≡ tree.key_len) × (p.value_len ≡ tree.value_len))
  pub in_pages : IsSome index.paged
