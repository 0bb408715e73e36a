-- A page that passes the check, as a page of the tree, and as a leaf.
use Rattle.std.proofs.Common.{◌≡◌, ◌≢◌, ℕ, suc, ◌-◌, ◌<◌, true, List, [], ◌∷◌, length, take, map, get_or, refl, sym, ◌∙◌, ap, subst, arith}
use Rattle.std.specs.Prelude.{Option, None, Some, MatchBool}
use Rattle.std.specs.Ordering.{nat_cmp, is_le}
use Rattle.std.specs.Cmp.Lexicographic.{slice_cmp}
use Rattle.std.specs.declared.cmp.Ordering.{Ordering}
use Rattle.std.specs.declared.cmp.Ordering.TheVariants.{Less, Equal, Greater}
use Rattle.std.specs.List.{AllByRecursion}
use Rattle.entries.specs.Pairs.{Pair, key_cmp}
use Rattle.entries.specs.Pairs as pairs
use Rattle.entries.proofs.Order.{key_cmp_is, key_itself, lower_from, below_all}
use Rattle.page_format.specs.Words.{low_of, high_of, records_of}
use Rattle.page_format.specs.Fences.{DoFencesRise, BeginsInside, EndsInside}
use Rattle.page_format.specs.Shape.{AreRising, HasTreeFields, HasPlainFields, HasFields, HasTreeOrder, HasOrder}
use Rattle.law_flat_tree.specs.Levels.{Fence}
use Rattle.law_flat_tree.specs.Leaves.{IsUnder, IsFrom, HasRoom, IsLeaf}
use Rattle.law_flat_tree.specs.Pages.{low_fence, high_fence, pair_of, node_of, leaf_pairs}
use Rattle.law_flat_tree.proofs.Fences.{under_lower, from_higher}
use Rattle.btree.specs.declared.tree.Tree.{Tree}
use Rattle.btree.specs.Sound.{IsTreePage}
use Rattle.tree_check.specs.Nodes.{IsFenceOf, IsNode}

pub tree_page : (tree : Tree) (pages : ℕ → List ℕ) (page level : ℕ) → page ≢ 0 → page < 65536 → HasFields (pages page) → IsNode tree level (pages page)
    → IsTreePage tree pages page
tree_page tree pages page level some within fields node = record {
  some = some;
  within = within;
  fields = subst (λ b. MatchBool b (HasTreeFields (pages page)) (HasPlainFields (pages page))) node.stands.kind fields;
  index = node.stands.index;
  width = node.lengths.width;
  rising = node.rising;
}

-- ---- between the fences

pub room_of : (n : ℕ) (low high : Option (List ℕ)) → 0 < n → IsFenceOf n high → DoFencesRise low high → HasRoom (low_fence low) (high_fence high)
room_of n None None some long rise = record { key = []; from = tt; under = tt }
room_of n None (Some []) some long rise = absurd (omega (arith, some, long))
room_of n None (Some (x ∷ xs)) some long rise = record { key = []; from = tt; under = key_cmp_is [] (x ∷ xs) }
room_of n (Some low) None some long rise = record { key = low; from = ap is_le (key_itself low); under = tt }
room_of n (Some low) (Some high) some long rise = record { key = low; from = ap is_le (key_itself low); under = key_cmp_is low high ∙ rise }

not_below : (low key : List ℕ) → slice_cmp nat_cmp key low ≢ Less → is_le (key_cmp low key) ≡ true
not_below low key apart = go (key_cmp low key) refl where
  go : (o : Ordering) → o ≡ key_cmp low key → is_le o ≡ true
  go Less is = refl
  go Equal is = refl
  go Greater is = absurd (apart (sym (key_cmp_is key low) ∙ lower_from low key (sym is)))

first_from : (n : ℕ) (low : Option (List ℕ)) (rs : List (List ℕ)) → IsFenceOf n low → BeginsInside low rs → 0 < length rs
    → IsFrom (low_fence low) (take n (get_or rs 0 []))
first_from n None rs long begins some = tt
first_from n (Some low) rs long begins some =
    not_below low (take n (get_or rs 0 [])) (subst (λ k. slice_cmp nat_cmp (take k (get_or rs 0 [])) low ≢ Less) long (begins some))

last_under : (n : ℕ) (high : Option (List ℕ)) (rs : List (List ℕ)) → IsFenceOf n high → EndsInside high rs → 0 < length rs
    → IsUnder (high_fence high) (take n (get_or rs (length rs - 1) []))
last_under n None rs long ends some = tt
last_under n (Some high) rs long ends some =
    key_cmp_is (take n (get_or rs (length rs - 1) [])) high
    ∙ subst (λ k. slice_cmp nat_cmp (take k (get_or rs (length rs - 1) [])) high ≡ Less) long (ends some)

-- ---- all keys

all_from : (n : ℕ) (low : Fence) (rs : List (List ℕ)) → AreRising (map (take n) rs) → (0 < length rs → IsFrom low (take n (get_or rs 0 [])))
    → AllByRecursion (λ (pair : Pair). IsFrom low pair.0) (map (pair_of n) rs)
all_from n low [] rising first = tt
all_from n low (r ∷ []) rising first = (first (omega arith), tt)
all_from n low (r ∷ s ∷ rs) rising first =
    let here = first (omega arith) in
    (here, all_from n low (s ∷ rs) rising.1 (λ _. from_higher low (take n r) (take n s) (key_cmp_is (take n r) (take n s) ∙ rising.0) here))

same_last : (r s : List ℕ) (rs : List (List ℕ)) → get_or (r ∷ s ∷ rs) (length (r ∷ s ∷ rs) - 1) [] ≡ get_or (s ∷ rs) (length (s ∷ rs) - 1) []
same_last r s rs =
    let one : suc (suc (length rs)) - 1 ≡ suc (length rs) = omega arith in
    let other : suc (length rs) - 1 ≡ length rs = omega arith in
    ap (λ k. get_or (r ∷ s ∷ rs) k []) one ∙ ap (λ k. get_or (s ∷ rs) k []) (sym other)

all_under : (n : ℕ) (high : Fence) (rs : List (List ℕ)) → AreRising (map (take n) rs)
    → (0 < length rs → IsUnder high (take n (get_or rs (length rs - 1) []))) → AllByRecursion (λ (pair : Pair). IsUnder high pair.0) (map (pair_of n) rs)
all_under n high [] rising last = tt
all_under n high (r ∷ []) rising last = (last (omega arith), tt)
all_under n high (r ∷ s ∷ rs) rising last =
    let rest = all_under n high (s ∷ rs) rising.1 (λ _. subst (λ k. IsUnder high (take n k)) (same_last r s rs) (last (omega arith))) in
    (under_lower high (take n r) (take n s) (key_cmp_is (take n r) (take n s) ∙ rising.0) rest.0, rest)

all_later : (n : ℕ) (key : List ℕ) (rs : List (List ℕ)) → AreRising (map (take n) rs) → (0 < length rs → key_cmp key (take n (get_or rs 0 [])) ≡ Less)
    → AllByRecursion (λ (later : Pair). key_cmp key later.0 ≡ Less) (map (pair_of n) rs)
all_later n key [] rising first = tt
all_later n key (r ∷ []) rising first = (first (omega arith), tt)
all_later n key (r ∷ s ∷ rs) rising first =
    let here = first (omega arith) in
    (here, all_later n key (s ∷ rs) rising.1 (λ _. below_all key (take n r) (take n s) here (key_cmp_is (take n r) (take n s) ∙ rising.0)))

pairs_rise : (n : ℕ) (rs : List (List ℕ)) → AreRising (map (take n) rs) → pairs.AreRising (map (pair_of n) rs)
pairs_rise n [] rising = tt
pairs_rise n (r ∷ []) rising = (tt, tt)
pairs_rise n (r ∷ s ∷ rs) rising =
    (all_later n (take n r) (s ∷ rs) rising.1 (λ _. key_cmp_is (take n r) (take n s) ∙ rising.0), pairs_rise n (s ∷ rs) rising.1)

pub leaf_page : (tree : Tree) (bytes : List ℕ) → 0 < tree.key_len → HasOrder bytes → IsNode tree 0 bytes
    → IsLeaf (node_of tree.key_len bytes) (leaf_pairs tree.key_len bytes)
leaf_page tree bytes some order node =
    let n = tree.key_len in
    let rs = records_of bytes in
    let is : HasTreeOrder bytes = subst (λ b. MatchBool b (HasTreeOrder bytes) (Unit {0})) node.stands.kind order in
    record {
      room = room_of n (low_of bytes) (high_of bytes) some node.lengths.high is.fences;
      from = all_from n (low_fence (low_of bytes)) rs node.rising (first_from n (low_of bytes) rs node.lengths.low is.first);
      under = all_under n (high_fence (high_of bytes)) rs node.rising (last_under n (high_of bytes) rs node.lengths.high is.last);
      rising = pairs_rise n rs node.rising;
    }
