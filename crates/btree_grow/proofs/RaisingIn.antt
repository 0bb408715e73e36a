-- A root that was looked at, a page that was taken, and what is put on both.
use Rattle.std.proofs.Common.{◌≡◌, ℕ, suc, ◌≤◌, List, [], ◌∷◌, true, subst, arith}
use Rattle.std.specs.Prelude.{IsTrue, None}
use Rattle.page_format.specs.Words.{level_of}
use Rattle.mtr.specs.Seen.{MtrState, is_in, IsShown}
use Rattle.mtr.specs.Calls.{Consults}
use Rattle.btree.specs.declared.tree.Tree.{Tree}
use Rattle.btree_split.specs.Placed.{IsPlacedTree}
use Rattle.btree_split.specs.Ways.{IsLowestRoom}
use Rattle.btree_grow.specs.Raised.{RaisesTree}
use Rattle.btree_grow.specs.Going.{GoesOn}
use Rattle.btree_grow.specs.Taken.{TakesPage}
use Rattle.btree_grow.specs.Grown.{HasGrown}
use Rattle.btree_grow.specs.Raising.{IsRaiseReady}
use Rattle.btree_grow.proofs.Going.{on_then, looked_on}
use Rattle.btree_grow.proofs.RaiseTree.{raise_ready, has_raised}

module _ (tree : Tree) (number level : ℕ) (a b c : MtrState) (looked : Consults (tree.root ∷ []) a b) (on : GoesOn 1 b c)
    (takes : IsTrue c.told → TakesPage number b.seen c.seen) (good : IsTrue a.told → IsPlacedTree tree a.seen)
    (level_is : IsTrue a.told → level ≡ suc (level_of (a.seen tree.root))) where
  told_a : IsTrue c.told → IsTrue a.told
  told_a told = looked.goes.told (on.goes.told told)

  taken : IsTrue c.told → TakesPage number a.seen c.seen
  taken told = subst (λ (f : ℕ → List ℕ). TakesPage number f c.seen) (looked.same (on.goes.told told)).seen (takes told)

  pub ready : (bytes : List ℕ) → (IsTrue a.told → IsShown (a.seen tree.root) bytes) → IsTrue c.told → IsRaiseReady tree.root number level bytes c.seen
  ready bytes shown told =
      raise_ready tree a.seen c.seen number (good (told_a told)) (taken told) level (level_is (told_a told)) bytes (shown (told_a told))

  module _ (d : MtrState) (put : GoesOn 0 c d) where
    pub whole_on : GoesOn 2 a d
    whole_on = on_then 2 0 2 a c d (omega arith) (on_then 1 1 2 a b c (omega arith) (looked_on tree.root a b looked) on) put

    pub root_known : is_in tree.root b.visited ≡ true → is_in tree.root d.visited ≡ true
    root_known is = put.stay tree.root (on.stay tree.root is)

    pub raised : tree.key_len ≤ 80 → (IsTrue d.told → RaisesTree tree number c.seen d.seen) → IsTrue d.told
        → (key : List ℕ) (full : ℕ) → IsLowestRoom tree a.seen key None full → HasGrown tree key 1 full tree.root a.seen d.seen
    raised short raises told key full lowest =
        let told_c = put.goes.told told in
        has_raised tree a.seen c.seen number (good (told_a told_c)) (taken told_c) d.seen (raises told) short key full lowest
