-- The pairs of a tree rise, and are as long as its keys and values.
use Rattle.std.proofs.Common.{◌≡◌, ◌≢◌, ℕ, zero, suc, ◌+◌, ◌-◌, ◌*◌, ◌≤◌, min, List, [], ◌∷◌, ◌++◌, length, take, drop, map, sym, ◌∙◌, ap, refl, arith}
use Rattle.std.specs.Prelude.{None}
use Rattle.std.specs.List.{flat_map, AllByRecursion}
use Rattle.std.specs.declared.cmp.Ordering.{Ordering}
use Rattle.std.specs.declared.cmp.Ordering.TheVariants.{Less, Equal, Greater}
use Rattle.std.proofs.lemmas.List.{length-take, length-drop, append_assoc}
use Rattle.entries.specs.Pairs.{Pair, key_cmp, value_of, IsShort, AreSound}
use Rattle.entries.proofs.Order.{same_key}
use Rattle.law_flat_tree.proofs.Reading as reading
use Rattle.page_format.specs.Words.{count_of, record_len_of, pieces}
use Rattle.law_flat_tree.specs.Descents.{leaves_of}
use Rattle.law_flat_tree.specs.Pages.{leaf_pairs, pair_of}
use Rattle.law_flat_tree.specs.Trees.{pairs_in}
use Rattle.law_flat_tree.proofs.Leaves.{both}
use Rattle.btree.specs.declared.tree.Tree.{Tree}
use Rattle.btree.specs.Sound.{IsSoundTree, levels_of, lows_of, tree_pairs, HoldsKey}
use Rattle.btree.specs.Walks.{IsReadableLeaf}
use Rattle.btree.specs.Layout.{width_of}
use Rattle.btree.proofs.Passed.{leaf_readable}
use Rattle.tree_use.specs.Stored.{HasWidths}

-- a piece is no longer than its size
short_piece : (n size v : ℕ) (bytes : List ℕ) → size ≡ n + v → n ≤ 67 → v ≤ 1024 → IsShort (pair_of n (take size bytes))
short_piece n size v bytes is key value =
    let front : length (take n (take size bytes)) ≡ min n (length (take size bytes)) = length-take n (take size bytes) in
    let whole : length (take size bytes) ≡ min size (length bytes) = length-take size bytes in
    let behind : length (drop n (take size bytes)) ≡ length (take size bytes) - n = length-drop n (take size bytes) in
    record { key = omega (arith, front, key); value = omega (arith, behind, whole, is, value) }

short_pieces : (n size k v : ℕ) (bytes : List ℕ) → size ≡ n + v → n ≤ 67 → v ≤ 1024 → AllByRecursion IsShort (map (pair_of n) (pieces size k bytes))
short_pieces n size zero v bytes is key value = tt
short_pieces n size (suc k) v bytes is key value = (short_piece n size v bytes is key value, short_pieces n size k v (drop size bytes) is key value)

module _ (tree : Tree) (pages : ℕ → List ℕ) (widths : HasWidths tree) (sound : IsSoundTree tree pages) where
  short_leaf : (page : ℕ) → IsReadableLeaf tree (pages page) → AllByRecursion IsShort (leaf_pairs tree.key_len (pages page))
  short_leaf page readable =
      short_pieces tree.key_len (record_len_of (pages page)) (count_of (pages page)) tree.value_len (drop 208 (pages page))
      (readable.laid_out.width ∙ ap (width_of tree) readable.leaf) widths.key widths.value

  short_leaves : (xs ys : List ℕ) → leaves_of (levels_of tree pages) ≡ xs ++ ys → AllByRecursion IsShort (flat_map (pairs_in tree.key_len pages) ys)
  short_leaves xs [] whole = tt
  short_leaves xs (page ∷ ys) whole =
      both IsShort (leaf_pairs tree.key_len (pages page)) (flat_map (pairs_in tree.key_len pages) ys)
      (short_leaf page (leaf_readable tree pages sound xs ys page whole))
      (short_leaves (xs ++ page ∷ []) ys (whole ∙ sym (append_assoc xs (page ∷ []) ys)))

  pub tree_sound : AreSound (tree_pairs tree pages)
  tree_sound = record {
    rising = reading.pairs_rise tree.key_len pages tree.root (lows_of tree pages) sound.stands;
    short = short_leaves [] (leaves_of (levels_of tree pages)) refl;
  }

-- ---- a key of another length

exact_piece : (n size v : ℕ) (bytes : List ℕ) → size ≡ n + v → size ≤ length bytes → length (take n (take size bytes)) ≡ n
exact_piece n size v bytes is much =
    let front : length (take n (take size bytes)) ≡ min n (length (take size bytes)) = length-take n (take size bytes) in
    let whole : length (take size bytes) ≡ min size (length bytes) = length-take size bytes in
    omega (arith, front, whole, is, much)

exact_pieces : (n size k v : ℕ) (bytes : List ℕ) → size ≡ n + v → k * size ≤ length bytes
    → AllByRecursion (λ pair. length pair.0 ≡ n) (map (pair_of n) (pieces size k bytes))
exact_pieces n size zero v bytes is much = tt
exact_pieces n size (suc k) v bytes is much =
    let left : length (drop size bytes) ≡ length bytes - size = length-drop size bytes in
    let all : size + k * size ≤ length bytes = omega (arith, much) in
    (exact_piece n size v bytes is (omega (arith, all)), exact_pieces n size k v (drop size bytes) is (omega (arith, left, all)))

pub no_other_width : (n : ℕ) (key : List ℕ) (pairs : List Pair) → length key ≢ n → AllByRecursion (λ pair. length pair.0 ≡ n) pairs → value_of key pairs ≡ None
no_other_width n key [] other widths = refl
no_other_width n key (pair ∷ pairs) other widths = go (no_other_width n key pairs other widths.1) (key_cmp key pair.0) refl where
  go : value_of key pairs ≡ None → (order : Ordering) → key_cmp key pair.0 ≡ order → value_of key (pair ∷ pairs) ≡ None
  go none Less is = rw is none
  go none Greater is = rw is none
  go none Equal is = absurd (other (ap length (same_key key pair.0 is) ∙ widths.0))

module _ (tree : Tree) (pages : ℕ → List ℕ) (sound : IsSoundTree tree pages) (key : List ℕ) (leaf : ℕ) (holds : HoldsKey tree pages key leaf) where
  pub lacks_width : length key ≢ tree.key_len → length (pages leaf) ≡ 4096 → value_of key (tree_pairs tree pages) ≡ None
  lacks_width other size =
      let readable = leaf_readable tree pages sound holds.xs holds.ys leaf holds.whole in
      let inside : 208 + count_of (pages leaf) * record_len_of (pages leaf) ≤ 4096 = readable.laid_out.inside in
      let behind : length (drop 208 (pages leaf)) ≡ length (pages leaf) - 208 = length-drop 208 (pages leaf) in
      reading.value_read tree.key_len pages tree.root (lows_of tree pages) key leaf sound.stands holds
      ∙ no_other_width tree.key_len key (leaf_pairs tree.key_len (pages leaf)) other
      (exact_pieces tree.key_len (record_len_of (pages leaf)) (count_of (pages leaf)) tree.value_len (drop 208 (pages leaf))
      (readable.laid_out.width ∙ ap (width_of tree) readable.leaf) (omega (arith, inside, behind, size)))
