-- The bytes of an empty leaf, written at byte 20 of a page of zeros.
use Rattle.std.proofs.Common.{◌≡◌, ℕ, ◌+◌, ◌*◌, ◌^◌, ◌<◌, ◌==◌, List, ◌++◌, length, take, drop, replicate, refl, sym, ap, ◌∙◌, subst, arith}
use Rattle.std.specs.Prelude.{slice_index, if◌then◌else◌}
use Rattle.std.specs.Int.{w16, w32, from_be_bytes}
use Rattle.std.proofs.lemmas.List.{get_or-append-add, length-take-le, drop_at, drop-drop, length-replicate}
use Rattle.std.proofs.lemmas.List.Elements.{All-replicate, All-drop, All-take}
use Rattle.std.proofs.lemmas.Nat.{from_be_bytes-to_be_bytes_2, from_be_bytes-to_be_bytes_4}
use Rattle.page_format.specs.Words.{kind_of, level_of, count_of, index_of, right_of, record_len_of, fence, pieces}
use Rattle.stored_pages.specs.Words.{u16_at, u32_at}
use Rattle.page_format.specs.Shape.{AreZeros, IsFence}
use Rattle.mtr.specs.Seen.{with_bytes}
use Rattle.catalog.specs.Creating.{leaf_head, IsEmptyLeaf}

module _ (index width : ℕ) (zeros : List ℕ) (size : length zeros ≡ 4096) (all : AreZeros zeros) where
  abbrev leaf : List ℕ
  leaf = with_bytes 20 (leaf_head index width) zeros

  abbrev back : List ℕ
  back = leaf_head index width ++ drop 36 zeros

  front : length (take 20 zeros) ≡ 20
  front = length-take-le 20 zeros (omega (arith, size))

  behind : (k : ℕ) → drop (20 + k) leaf ≡ drop k back
  behind k = sym (drop-drop k 20 leaf) ∙ ap (drop k) (drop_at (take 20 zeros) back 20 front)

  byte : (k : ℕ) → slice_index leaf (20 + k) ≡ slice_index back k
  byte k = ap (λ (n : ℕ). slice_index leaf (n + k)) (sym front) ∙ get_or-append-add (take 20 zeros) back k 0

  past : (k : ℕ) → drop (36 + k) leaf ≡ drop k (drop 36 zeros)
  past k = ap (λ (n : ℕ). drop n leaf) {x = 36 + k} {y = 20 + (16 + k)} (omega arith) ∙ behind (16 + k) ∙ sym (drop-drop k 16 back)

  zeros_past : (k : ℕ) → AreZeros (drop (36 + k) leaf)
  zeros_past k = subst AreZeros (sym (past k)) (All-drop (λ byte. byte ≡ 0) k (drop 36 zeros) (All-drop (λ byte. byte ≡ 0) 36 zeros all))

  kind : kind_of leaf ≡ 3
  kind = byte 0

  level : level_of leaf ≡ 0
  level = byte 1

  count : count_of leaf ≡ 0
  unfolding u16_at
  count = ap (λ (l : List ℕ). from_be_bytes w16 (take 2 l)) (behind 2)

  index_is : index < 2 ^ 32 → index_of leaf ≡ index
  unfolding u32_at
  index_is small = ap (λ (l : List ℕ). from_be_bytes w32 (take 4 l)) (behind 4) ∙ from_be_bytes-to_be_bytes_4 index small

  right : right_of leaf ≡ 0
  unfolding u32_at
  right = ap (λ (l : List ℕ). from_be_bytes w32 (take 4 l)) (behind 8)

  width_is : width < 2 ^ 16 → record_len_of leaf ≡ width
  unfolding u16_at
  width_is small = ap (λ (l : List ℕ). from_be_bytes w16 (take 2 l)) (behind 12) ∙ from_be_bytes-to_be_bytes_2 width small

  low_len : slice_index leaf 34 ≡ 255
  low_len = byte 14

  high_len : slice_index leaf 35 ≡ 255
  high_len = byte 15

  no_fence : (len : ℕ) (bytes : List ℕ) → len ≡ 255 → AreZeros bytes → IsFence len bytes
  no_fence len bytes is none = subst (λ (n : ℕ). IsFence n bytes) (sym is) (record { fits = omega arith; padded = none })

  empty : (n : ℕ) → n ≡ 0 → n * record_len_of leaf ≡ 0
  empty n is = ap (λ (m : ℕ). m * record_len_of leaf) is ∙ omega arith

  pub is_leaf : index < 2 ^ 32 → width < 2 ^ 16 → 0 < width → IsEmptyLeaf index width leaf
  is_leaf small narrow some =
      let none = empty (count_of leaf) count in
      record {
        fields = record {
          level = kind ∙ ap (λ (n : ℕ). if n == 0 then 3 else 4) (sym level);
          depth = omega (arith, level);
          width = omega (arith, width_is narrow, some);
          inside = omega (arith, none);
          low = no_fence (slice_index leaf 34) (take 80 (drop 36 leaf)) low_len (All-take (λ byte. byte ≡ 0) 80 (drop 36 leaf) (zeros_past 0));
          high = no_fence (slice_index leaf 35) (take 80 (drop 116 leaf)) high_len (All-take (λ byte. byte ≡ 0) 80 (drop 116 leaf) (zeros_past 80));
          gap = All-take (λ byte. byte ≡ 0) 12 (drop 196 leaf) (zeros_past 160);
          rest = subst (λ (n : ℕ). AreZeros (drop n leaf)) {x = 208} (omega (arith, none)) (zeros_past 172);
        };
        kind = kind;
        level = level;
        index_is = index_is small;
        right = right;
        width = width_is narrow;
        low = ap (λ (n : ℕ). fence n (take 80 (drop 36 leaf))) low_len;
        high = ap (λ (n : ℕ). fence n (take 80 (drop 116 leaf))) high_len;
        records = ap (λ (n : ℕ). pieces (record_len_of leaf) n (drop 208 leaf)) count;
      }

-- the zeros are so many, which are not to be written out
on_zeros : (index width n : ℕ) (page : List ℕ) → n ≡ 4096 → page ≡ replicate n 0 → index < 2 ^ 32 → width < 2 ^ 16 → 0 < width → IsEmptyLeaf index width (with_bytes 20 (leaf_head index width) page)
on_zeros index width n page many is small narrow some =
    subst (λ (z : List ℕ). IsEmptyLeaf index width (with_bytes 20 (leaf_head index width) z)) (sym is)
    (is_leaf index width (replicate n 0) (length-replicate {A = ℕ} n 0 ∙ many) (All-replicate (λ byte. byte ≡ 0) n 0 refl) small narrow some)

pub leaf_on_zeros : (index width : ℕ) (page : List ℕ) → page ≡ replicate 4096 0 → index < 2 ^ 32 → width < 2 ^ 16 → 0 < width → IsEmptyLeaf index width (with_bytes 20 (leaf_head index width) page)
leaf_on_zeros index width page is small narrow some = on_zeros index width 4096 page refl is small narrow some
