-- Inserts from the descent to the end of their mini-transaction.
use Rattle.std.proofs.Common.{◌≡◌, ◌≢◌, ℕ, suc, ◌+◌, ◌≤◌, List, [], ◌∷◌, length, length-append, refl, sym, ◌∙◌, ap, subst, arith}
use Rattle.std.specs.Prelude.{Option, None, Some}
use Rattle.entries.specs.Pairs.{value_of, with_pair}
use Rattle.mtr.specs.Seen.{MtrState, AreDistinct}
use Rattle.mtr.specs.Calls.{GivesUp}
use Rattle.mtr.proofs.Consulting.{goes_then}
use Rattle.btree.specs.declared.tree.Tree.{Tree}
use Rattle.btree.specs.Sound.{levels_of, HoldsKey, tree_pairs}
use Rattle.btree_change.specs.Trees.{DoesInsert, IsCrowded, Becomes}
use Rattle.btree_change.specs.Calls.{Ends, IsLeafFor}
use Rattle.btree_change.specs.declared.leaf_changes.Insertion.TheVariants as insertion
use Rattle.btree_split.specs.Placed.{IsPlacedTree}
use Rattle.btree_split.specs.Ways.{EndsFull, IsLowestRoom, needed}
use Rattle.btree_grow.specs.Grown.{Grows, HasGrown}
use Rattle.btree_grow.proofs.Below.{leaf_holds}
use Rattle.btree_grow.proofs.RaiseTree.{way_long}
use Rattle.btree_grow.specs.declared.inserts.Outcome.TheVariants.{Added}
use Rattle.btree_grow.specs.Adding.{Needs, IsTakenIfCrowded, DoesAdd}
use Rattle.btree_grow.proofs.AddedPair.{grows_none, grows_then}

pub ends_after : (a b c : MtrState) → GivesUp a b → Ends b c → Ends a c
ends_after a b c given ends = record { goes = goes_then a b c given.goes ends.goes; idle = ends.idle }

-- ---- what was added

module _ (tree : Tree) (key value : List ℕ) (o n : ℕ → List ℕ) where
  pub added_alone : (leaf : ℕ) → IsPlacedTree tree o → HoldsKey tree o key leaf → ((r : ℕ) → r ≢ leaf → n r ≡ o r)
      → DoesInsert tree key value o n insertion.Added → DoesAdd tree key value o n Added
  added_alone leaf placed holds elsewhere does = (
    does.0,
    [],
    tt,
    grows_then tree key leaf o n (with_pair key value (tree_pairs tree o)) placed holds does.1 elsewhere o (tree_pairs tree o) [] (grows_none tree o placed),
  )

  module _ (absent : value_of key (tree_pairs tree o) ≡ None) (crowded : IsCrowded tree o key) (placed : IsPlacedTree tree o) (above : Option ℕ)
      (full : ℕ) (lowest : IsLowestRoom tree o key above full) (low : above ≡ None → full ≤ 7) where
    -- a tree has at most eight levels
    need_fits : (over : Option ℕ) → (over ≡ None → full ≤ 7) → EndsFull o lowest.way over full → needed over full ≤ 8
    need_fits None few ends = omega (arith, few refl)
    need_fits (Some page) few ends =
        let long = way_long tree o key (levels_of tree o) lowest.way lowest.leads in
        let parts : length lowest.way ≡ length ends.0 + suc (length ends.1) = ap length ends.2 ∙ length-append ends.0 (page ∷ ends.1) in
        omega (
          arith,
          long,
          parts,
          ends.5,
          placed.whole.sound.stands.numbered.0.0,
          placed.whole.sound.each.0.0.fields.depth,
        )

    needs : (need : ℕ) → need ≡ needed above full → Needs tree o key need
    needs need is = record {
      above = above;
      full = full;
      lowest = lowest;
      need_is = is;
      fits = let fits = need_fits above low lowest.ends in omega (arith, fits, is);
    }

    taken_if : (taken : List ℕ) → length taken ≡ needed above full → AreDistinct taken → IsTakenIfCrowded tree key o taken
    taken_if [] many distinct = tt
    taken_if (page ∷ more) many distinct = (crowded, needs (length (page ∷ more)) many, distinct)

    pub added_grown : (leaf : ℕ) (b : ℕ → List ℕ) → HasGrown tree key (needed above full) 0 leaf o b
        → Becomes tree (with_pair key value (tree_pairs tree b)) b n → ((r : ℕ) → r ≢ leaf → n r ≡ b r) → DoesAdd tree key value o n Added
    added_grown leaf b grown becomes elsewhere = (
      absent,
      grown.taken,
      taken_if grown.taken grown.many grown.distinct,
      subst (λ pairs. Grows tree (with_pair key value pairs) grown.taken o n) grown.grows.pairs_are
          (grows_then tree key leaf b n (with_pair key value (tree_pairs tree b)) grown.above.placed (leaf_holds tree key 0 leaf b grown.above refl) becomes
          elsewhere o (tree_pairs tree o) grown.taken grown.grows),
    )

-- ---- the leaf that has room

-- the leaf of a key, once its tree has grown
pub grown_leaf : (tree : Tree) (key : List ℕ) (k leaf : ℕ) (a b : ℕ → List ℕ) → HasGrown tree key k 0 leaf a b → IsLeafFor tree key leaf b
grown_leaf tree key k leaf a b grown = record { whole = grown.above.placed.whole; holds = leaf_holds tree key 0 leaf b grown.above refl }

-- ---- from what is seen to what stands

pub moved : (D : (ℕ → List ℕ) → (ℕ → List ℕ) → Type 0) (b a c d : ℕ → List ℕ) → b ≡ a → d ≡ c → D b c → D a d
moved D b a c d before after is = subst (λ f. D f d) before (subst (λ f. D b f) (sym after) is)
