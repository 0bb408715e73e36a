-- A record that is put into the leaf that a search reached, or taken from it.
use Rattle.std.proofs.Common.{◌≡◌, map, ◌≢◌, ◌⊎◌, inl, inr, ℕ, true, false, eqb, List, [], ◌∷◌, ◌++◌, length, insert, remove, sym, ◌∙◌, ap, subst, arith}
use Rattle.std.specs.List.{AllByRecursion}
use Rattle.std.proofs.lemmas.Bool.Decides.{eqb_tells}
use Rattle.std.specs.Prelude.{slice_set, is_some, None}
use Rattle.entries.specs.Pairs.{Pair, value_of, with_pair, without_key}
use Rattle.page_format.specs.Words.{level_of, records_of}
use Rattle.page_format.specs.Found.{IsFound}
use Rattle.page_format.specs.declared.records.Found.TheVariants.{At, Before}
use Rattle.page_format.proofs.Edited.{same_byte}
use Rattle.law_flat_tree.specs.Levels.{Node, IsRow, AreLevels}
use Rattle.law_flat_tree.specs.Levels.Fence.{First, Last}
use Rattle.law_flat_tree.specs.Leaves.{IsLeaf, IsFrom, IsUnder, AreLeaves, IsEdited}
use Rattle.law_flat_tree.specs.Descents.{Holds, IsWay, IsAsDeep, AreAllInner, end_of, leaves_of}
use Rattle.law_flat_tree.specs.Pages.{low_fence, high_fence, pair_of, node_of, leaf_pairs}
use Rattle.law_flat_tree.specs.Trees.{nodes, pairs_in, levels_from, AreNumbered, IsTree, IsEmptyRoot, all_pairs, ChangesRecords}
use Rattle.law_flat_tree.proofs.Descents.{way_holds, root_holds}
use Rattle.law_flat_tree.proofs.Edits.{put_edits, removal_edits, value_read}
use Rattle.law_flat_tree.proofs.Pages.{kept_leaf, put_record, replace_record, remove_record, record_there, record_absent}

pub top_row : (node : ℕ → Node) (root : ℕ) (lows : List (List ℕ)) → AreLevels node (levels_from root lows) → IsRow node First (root ∷ []) Last 0
top_row node root [] stand = stand
top_row node root (low ∷ lows) stand = stand.0.up

pub bottom_row : (node : ℕ → Node) (level : List ℕ) (lows : List (List ℕ)) → AreLevels node (level ∷ lows) → IsRow node First (leaves_of (level ∷ lows)) Last 0
bottom_row node level [] stand = stand
bottom_row node level (low ∷ lows) stand = bottom_row node low lows stand.1

-- a search ends at the leaf that holds its key
pub leaf_found : (n : ℕ) (pages : ℕ → List ℕ) (root : ℕ) (lows : List (List ℕ)) (key : List ℕ) (way : List ℕ) → IsTree n pages root lows
    → IsAsDeep way (levels_from root lows) → IsWay (nodes n pages) key root way
    → Holds (nodes n pages) (leaves_of (levels_from root lows)) key (end_of root way)
leaf_found n pages root lows key way tree deep is_way =
    way_holds (nodes n pages) lows (root ∷ []) key root way tree.levels tree.inner deep
    (root_holds (nodes n pages) root key (top_row (nodes n pages) root lows tree.levels)) is_way

in_row : (P : ℕ → Type 0) (xs ys : List ℕ) (p : ℕ) → AllByRecursion P (xs ++ p ∷ ys) → P p
in_row P [] ys p all = all.0
in_row P (x ∷ xs) ys p all = in_row P xs ys p all.1

-- what holds of the changed page and of each other page holds of all
of_all : (P : ℕ → Type 0) (p : ℕ) → P p → ((q : ℕ) → q ≢ p → P q) → (q : ℕ) → P q
of_all P p here others q = go (eqb_tells q p) where
  go : ((eqb q p ≡ true) × (q ≡ p)) ⊎ ((eqb q p ≡ false) × (q ≢ p)) → P q
  go (inl same) = subst P (sym same.1) here
  go (inr other) = others q other.1

each_page : (P Q : ℕ → Type 0) → ((q : ℕ) → P q → Q q) → (xs : List ℕ) → AllByRecursion P xs → AllByRecursion Q xs
each_page P Q on [] all = tt
each_page P Q on (x ∷ xs) all = (on x all.0, each_page P Q on xs all.1)

module _ (n : ℕ) (old new : ℕ → List ℕ) (root : ℕ) (lows : List (List ℕ)) (p : ℕ)
    (tree : IsTree n old root lows) (leaf : level_of (old p) ≡ 0) (changes : ChangesRecords p old new) where
  -- each page has its place as before
  same_nodes : nodes n new ≡ nodes n old
  same_nodes =
      let same = of_all (λ q. nodes n new q ≡ nodes n old q) p (kept_leaf n (old p) (new p) changes.kept leaf) (λ q ne. ap (node_of n) (changes.others q ne)) in
      λ j q. same q j

  same_level : (q : ℕ) → level_of (new q) ≡ level_of (old q)
  same_level =
      of_all (λ q. level_of (new q) ≡ level_of (old q)) p (same_byte (new p) (old p) 21 22 (omega arith) changes.kept.head)
      (λ q ne. ap level_of (changes.others q ne))

  numbered_still : (levels : List (List ℕ)) → AreNumbered old levels → AreNumbered new levels
  numbered_still [] numbered = tt
  numbered_still (level ∷ levels) numbered = (
    each_page (λ q. level_of (old q) ≡ length levels) (λ q. level_of (new q) ≡ length levels)
        (λ q is. same_level q ∙ is) level numbered.0,
    numbered_still levels numbered.1,
  )

  still_tree : AreLeaves (nodes n old) (pairs_in n new) (leaves_of (levels_from root lows)) → IsTree n new root lows
  still_tree leaves = record {
    levels = subst (λ node. AreLevels node (levels_from root lows)) (sym same_nodes) tree.levels;
    inner = subst (λ node. AreAllInner node (levels_from root lows)) (sym same_nodes) tree.inner;
    leaves = subst (λ node. AreLeaves node (pairs_in n new) (leaves_of (levels_from root lows))) (sym same_nodes) leaves;
    numbered = numbered_still (levels_from root lows) tree.numbered;
  }

-- the lowest level has number 0
pub leaves_numbered : (pages : ℕ → List ℕ) (level : List ℕ) (lows : List (List ℕ)) → AreNumbered pages (level ∷ lows)
    → AllByRecursion (λ q. level_of (pages q) ≡ 0) (leaves_of (level ∷ lows))
leaves_numbered pages level [] numbered = numbered.0
leaves_numbered pages level (low ∷ lows) numbered = leaves_numbered pages low lows numbered.1

is_leaf : (n : ℕ) (pages : ℕ → List ℕ) (root : ℕ) (lows : List (List ℕ)) (key : List ℕ) (p : ℕ) → IsTree n pages root lows
    → Holds (nodes n pages) (leaves_of (levels_from root lows)) key p → level_of (pages p) ≡ 0
is_leaf n pages root lows key p tree holds =
    in_row (λ q. level_of (pages q) ≡ 0) holds.xs holds.ys p
    (subst (λ l. AllByRecursion (λ q. level_of (pages q) ≡ 0) l) holds.whole (leaves_numbered pages (root ∷ []) lows tree.numbered))

pub inserts : (old new : ℕ → List ℕ) (root : ℕ) (lows : List (List ℕ)) (key value : List ℕ) (p i : ℕ) → IsTree (length key) old root lows
    → Holds (nodes (length key) old) (leaves_of (levels_from root lows)) key p
    → IsFound (records_of (old p)) key (Before i) → records_of (new p) ≡ insert (records_of (old p)) i (key ++ value) → ChangesRecords p old new
    → IsTree (length key) new root lows × (all_pairs (length key) new root lows ≡ with_pair key value (all_pairs (length key) old root lows))
inserts old new root lows key value p i tree holds found records changes =
    let n = length key in
    let edited : IsEdited (with_pair key value) p (pairs_in n old) (pairs_in n new) = record {
      here = put_record (old p) (new p) key value i found records;
      others = λ q ne. ap (leaf_pairs n) (changes.others q ne);
    } in
    let done =
    put_edits (nodes n old) (pairs_in n old) (pairs_in n new) (leaves_of (levels_from root lows)) key p
    (bottom_row (nodes n old) (root ∷ []) lows tree.levels) tree.leaves holds value edited in
    (still_tree n old new root lows p tree (is_leaf n old root lows key p tree holds) changes done.1, done.0)

pub removes : (old new : ℕ → List ℕ) (root : ℕ) (lows : List (List ℕ)) (key : List ℕ) (p i : ℕ) → IsTree (length key) old root lows
    → Holds (nodes (length key) old) (leaves_of (levels_from root lows)) key p
    → IsFound (records_of (old p)) key (At i) → records_of (new p) ≡ remove (records_of (old p)) i → ChangesRecords p old new
    → IsTree (length key) new root lows × (all_pairs (length key) new root lows ≡ without_key key (all_pairs (length key) old root lows))
removes old new root lows key p i tree holds found records changes =
    let n = length key in
    let edited : IsEdited (without_key key) p (pairs_in n old) (pairs_in n new) = record {
      here = remove_record (old p) (new p) key i found records;
      others = λ q ne. ap (leaf_pairs n) (changes.others q ne);
    } in
    let done =
    removal_edits (nodes n old) (pairs_in n old) (pairs_in n new) (leaves_of (levels_from root lows)) key p
    (bottom_row (nodes n old) (root ∷ []) lows tree.levels) tree.leaves holds edited in
    (still_tree n old new root lows p tree (is_leaf n old root lows key p tree holds) changes done.1, done.0)

pub replaces : (old new : ℕ → List ℕ) (root : ℕ) (lows : List (List ℕ)) (key value : List ℕ) (p i : ℕ) → IsTree (length key) old root lows
    → Holds (nodes (length key) old) (leaves_of (levels_from root lows)) key p
    → IsFound (records_of (old p)) key (At i) → records_of (new p) ≡ slice_set (records_of (old p)) i (key ++ value) → ChangesRecords p old new
    → IsTree (length key) new root lows × (all_pairs (length key) new root lows ≡ with_pair key value (all_pairs (length key) old root lows))
replaces old new root lows key value p i tree holds found records changes =
    let n = length key in
    let edited : IsEdited (with_pair key value) p (pairs_in n old) (pairs_in n new) = record {
      here = replace_record (old p) (new p) key value i found records;
      others = λ q ne. ap (leaf_pairs n) (changes.others q ne);
    } in
    let done =
    put_edits (nodes n old) (pairs_in n old) (pairs_in n new) (leaves_of (levels_from root lows)) key p
    (bottom_row (nodes n old) (root ∷ []) lows tree.levels) tree.leaves holds value edited in
    (still_tree n old new root lows p tree (is_leaf n old root lows key p tree holds) changes done.1, done.0)

-- ---- what the leaf of a key tells

pub leaf_in : (node : ℕ → Node) (held : ℕ → List Pair) (xs ys : List ℕ) (p : ℕ) → AreLeaves node held (xs ++ p ∷ ys) → IsLeaf (node p) (held p)
leaf_in node held [] ys p leaves = leaves.0
leaf_in node held (x ∷ xs) ys p leaves = leaf_in node held xs ys p leaves.1

pub held_leaf : (n : ℕ) (pages : ℕ → List ℕ) (root : ℕ) (lows : List (List ℕ)) (key : List ℕ) (p : ℕ) → IsTree n pages root lows
    → Holds (nodes n pages) (leaves_of (levels_from root lows)) key p → IsLeaf (nodes n pages p) (pairs_in n pages p)
held_leaf n pages root lows key p tree holds =
    leaf_in (nodes n pages) (pairs_in n pages) holds.xs holds.ys p (subst (λ l. AreLeaves (nodes n pages) (pairs_in n pages) l) holds.whole tree.leaves)

module _ (pages : ℕ → List ℕ) (root : ℕ) (lows : List (List ℕ)) (key : List ℕ) (p : ℕ) (tree : IsTree (length key) pages root lows)
    (holds : Holds (nodes (length key) pages) (leaves_of (levels_from root lows)) key p) where
  told_here : value_of key (all_pairs (length key) pages root lows) ≡ value_of key (leaf_pairs (length key) (pages p))
  told_here =
      let n = length key in
      value_read (nodes n pages) (pairs_in n pages) (pairs_in n pages) (leaves_of (levels_from root lows)) key p
      (bottom_row (nodes n pages) (root ∷ []) lows tree.levels) tree.leaves holds

  pub key_there : (i : ℕ) → IsFound (records_of (pages p)) key (At i) → is_some (value_of key (all_pairs (length key) pages root lows)) ≡ true
  key_there i found = ap is_some told_here ∙ record_there (pages p) key i found

  pub key_absent : (i : ℕ) → IsFound (records_of (pages p)) key (Before i) → value_of key (all_pairs (length key) pages root lows) ≡ None
  key_absent i found = told_here ∙ record_absent (pages p) key i found (held_leaf (length key) pages root lows key p tree holds).rising

-- an empty leaf alone is a tree
pub empty_tree : (n : ℕ) (pages : ℕ → List ℕ) (root : ℕ) → IsEmptyRoot (pages root) → IsTree n pages root [] × (all_pairs n pages root [] ≡ [])
empty_tree n pages root empty =
    let low_is : (nodes n pages root).low ≡ First = ap low_fence empty.low in
    let high_is : (nodes n pages root).high ≡ Last = ap high_fence empty.high in
    let none : pairs_in n pages root ≡ [] = ap (map (pair_of n)) empty.records in (
      record {
        levels = (low_is, empty.right, high_is);
        inner = tt;
        leaves = (
          subst (λ l. IsLeaf (nodes n pages root) l) (sym none) (record {
            room = record { key = []; from = subst (λ f. IsFrom f []) (sym low_is) tt; under = subst (λ f. IsUnder f []) (sym high_is) tt };
            from = tt;
            under = tt;
            rising = tt;
          }),
          tt,
        );
        numbered = ((empty.level, tt), tt);
      },
      ap (λ l. l ++ []) none,
    )
