-- A page that is an empty leaf, as the words of a page say it.
use Rattle.std.proofs.Common.{◌≡◌, ℕ, ◌+◌, ◌-◌, ◌*◌, ◌<◌, min, List, [], length, take, drop, get_or, None, refl, sym, ◌∙◌, ap, subst, arith}
use Rattle.std.proofs.lemmas.List.{get_or-drop, get_or-take, length-take, length-drop, drop-drop}
use Rattle.page_format.specs.Words.{level_of, count_of, record_len_of, records_of, fence, pieces}
use Rattle.page_format.specs.Shape.{AreZeros, IsFence, HasTreeFields}
use Rattle.mtr.proofs.Behind.{drop-behind, u32-behind, byte-behind}
use Rattle.law_flat_tree.specs.Trees.{IsEmptyRoot}
use Rattle.btree.specs.declared.tree.Tree.{Tree}
use Rattle.btree.proofs.Shown.{u16-behind}
use Rattle.tree_use.specs.Stored.{HasWidths}
use Rattle.tree_use.specs.Beginning.{IsEmptyLeaf}

zeros_dropped : (n : ℕ) (l : List ℕ) → AreZeros l → AreZeros (drop n l)
zeros_dropped n l all = λ k d within.
    let left : length (drop n l) ≡ length l - n = length-drop n l in
    get_or-drop n l k d ∙ all (n + k) d (omega (arith, within, left))

zeros_taken : (n : ℕ) (l : List ℕ) → AreZeros l → AreZeros (take n l)
zeros_taken n l all = λ k d within.
    let left : length (take n l) ≡ min n (length l) = length-take n l in
    get_or-take n l k d (omega (arith, within, left)) ∙ all k d (omega (arith, within, left))

no_fence : (len : ℕ) (bytes : List ℕ) → len ≡ 255 → AreZeros bytes → IsFence len bytes
no_fence len bytes none zeros = subst (λ n. IsFence n bytes) (sym none) (record { fits = omega arith; padded = zeros })

none_of : (len : ℕ) (bytes : List ℕ) → len ≡ 255 → fence len bytes ≡ None
none_of len bytes none = ap (λ n. fence n bytes) none

module _ (tree : Tree) (bytes : List ℕ) (empty : IsEmptyLeaf tree bytes) where
  far : (n : ℕ) → AreZeros (drop (36 + n) bytes)
  far n = subst AreZeros (drop-drop n 36 bytes) (zeros_dropped n (drop 36 bytes) empty.rest)

  pub leaf_fields : HasWidths tree → HasTreeFields bytes
  leaf_fields widths =
      let some : 0 < tree.key_len = widths.some in
      let level : level_of bytes ≡ 0 = empty.level in
      let width : record_len_of bytes ≡ tree.key_len + tree.value_len = empty.width in
      let end : 208 + count_of bytes * record_len_of bytes ≡ 208 = rw empty.count (omega arith) in
      record {
        level = empty.kind ∙ rw level refl;
        depth = omega (arith, level);
        width = omega (arith, width, some);
        inside = rw empty.count (omega arith);
        low = no_fence (get_or bytes 34 0) (take 80 (drop 36 bytes)) empty.low (zeros_taken 80 (drop 36 bytes) empty.rest);
        high = no_fence (get_or bytes 35 0) (take 80 (drop 116 bytes)) empty.high (zeros_taken 80 (drop 116 bytes) (far 80));
        gap = zeros_taken 12 (drop 196 bytes) (far 160);
        rest = subst (λ n. AreZeros (drop n bytes)) (sym end) (far 172);
      }

  pub leaf_records : records_of bytes ≡ []
  leaf_records = ap (λ n. pieces (record_len_of bytes) n (drop 208 bytes)) empty.count

  pub empty_root : IsEmptyRoot bytes
  empty_root = record {
    level = empty.level;
    low = none_of (get_or bytes 34 0) (take 80 (drop 36 bytes)) empty.low;
    high = none_of (get_or bytes 35 0) (take 80 (drop 116 bytes)) empty.high;
    right = empty.right;
    records = leaf_records;
  }

-- what shows the page tells of the page
pub leaf_shown : (tree : Tree) (a b : List ℕ) → drop 20 a ≡ drop 20 b → IsEmptyLeaf tree a → IsEmptyLeaf tree b
leaf_shown tree a b same is = record {
  kind = sym (byte-behind 20 a b (omega arith) same) ∙ is.kind;
  level = sym (byte-behind 21 a b (omega arith) same) ∙ is.level;
  count = sym (u16-behind 22 a b (omega arith) same) ∙ is.count;
  index = sym (u32-behind 24 a b (omega arith) same) ∙ is.index;
  right = sym (u32-behind 28 a b (omega arith) same) ∙ is.right;
  width = sym (u16-behind 32 a b (omega arith) same) ∙ is.width;
  low = sym (byte-behind 34 a b (omega arith) same) ∙ is.low;
  high = sym (byte-behind 35 a b (omega arith) same) ∙ is.high;
  rest = subst AreZeros (drop-behind 36 a b (omega arith) same) is.rest;
}
