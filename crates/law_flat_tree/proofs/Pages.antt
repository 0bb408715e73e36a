-- What an edit of a leaf's records is to its pairs.
use Rattle.std.proofs.Common.{◌≡◌, ℕ, Bool, true, false, if◌then◌else◌, ◌==◌, slice_index, zero, suc, ◌<◌, ◌≤◌, List, [], ◌∷◌, ◌++◌, length, take, drop}
use Rattle.std.proofs.Common.{map, get_or, set, slice_index_or, insert, remove, refl, sym, ◌∙◌, ap, subst, arith, None}
use Rattle.std.specs.Prelude.{is_some}
use Rattle.std.specs.declared.cmp.Ordering.TheVariants.{Less, Equal, Greater}
use Rattle.std.specs.Ordering.{nat_cmp}
use Rattle.std.specs.List.{AllByRecursion}
use Rattle.std.specs.Cmp.Lexicographic.{slice_cmp}
use Rattle.std.proofs.lemmas.List.{map-append, map-set, get_or-map, take-map, take-append-drop}
use Rattle.std.proofs.lemmas.List.Elements.{recursion_from_All}
use Rattle.std.proofs.Math.Seq.{take-append_seam, drop-append_seam}
use Rattle.entries.specs.Pairs.{Pair, key_cmp, AreRising, value_of, with_pair, without_key}
use Rattle.entries.specs.Places.{StandsAt, IsGapAt}
use Rattle.entries.proofs.Order.{key_cmp_is, key_itself, lower_from, higher_from}
use Rattle.entries.proofs.Edits.{insert_gap, set_stands, remove_stands, found_at, value_gap}
use Rattle.page_format.specs.Words.{low_of, high_of, right_of, level_of, records_of}
use Rattle.page_format.specs.Found.{IsFound}
use Rattle.page_format.specs.Changes.{KeepsFields}
use Rattle.page_format.proofs.Edited.{same_byte, middle_byte, middle_part}
use Rattle.page_format.specs.Words.{fence}
use Rattle.stored_pages.specs.Words.{u32_at}
use Rattle.std.specs.Int.{w32, from_be_bytes}
use Rattle.page_format.specs.declared.records.Found.TheVariants.{At, Before}
use Rattle.law_flat_tree.specs.Levels.{Fence, AreHalves}
use Rattle.law_flat_tree.specs.Levels.Fence.{Key}
use Rattle.law_flat_tree.specs.PageSplits.{IsLowerPart, IsUpperPart}
use Rattle.law_flat_tree.specs.Pages.{low_fence, high_fence, child_of, entry_of, entries_of, node_of, pair_of, leaf_pairs}

-- a record that begins below the key
pub higher : (key r : List ℕ) → slice_cmp nat_cmp (take (length key) r) key ≡ Less → key_cmp key (take (length key) r) ≡ Greater
higher key r less = higher_from (take (length key) r) key (key_cmp_is (take (length key) r) key ∙ less)

pub lower : (key r : List ℕ) → slice_cmp nat_cmp (take (length key) r) key ≡ Greater → key_cmp key (take (length key) r) ≡ Less
lower key r greater = lower_from (take (length key) r) key (key_cmp_is (take (length key) r) key ∙ greater)

abbrev pub Below : List ℕ → List ℕ → Type 0
Below key r = slice_cmp nat_cmp (take (length key) r) key ≡ Less

pub gap : (key : List ℕ) (rs : List (List ℕ)) (i : ℕ) → AllByRecursion (Below key) (take i rs) → i ≤ length rs
    → (i < length rs → slice_cmp nat_cmp (take (length key) (slice_index_or rs i [])) key ≡ Greater) → IsGapAt key (map (pair_of (length key)) rs) i
gap key [] zero below within here = tt
gap key [] (suc i) below within here = absurd (omega (arith, within))
gap key (r ∷ rs) zero below within here = lower key r (here (omega arith))
gap key (r ∷ rs) (suc i) below within here = (higher key r below.0, gap key rs i below.1 (omega (arith, within)) (λ lt. here (omega (arith, lt))))

pub stands : (key : List ℕ) (rs : List (List ℕ)) (i : ℕ) → AllByRecursion (Below key) (take i rs) → i < length rs
    → take (length key) (slice_index_or rs i []) ≡ key → StandsAt key (map (pair_of (length key)) rs) i
stands key [] i below within here = absurd (omega (arith, within))
stands key (r ∷ rs) zero below within here = subst (λ k. key_cmp key k ≡ Equal) (sym here) (key_itself key)
stands key (r ∷ rs) (suc i) below within here = (higher key r below.0, stands key rs i below.1 (omega (arith, within)) here)

map-drop : {X Y : Type 0} (f : X → Y) (n : ℕ) (xs : List X) → map f (drop n xs) ≡ drop n (map f xs)
map-drop f zero xs = refl
map-drop f (suc n) [] = refl
map-drop f (suc n) (x ∷ xs) = map-drop f n xs

pub map-insert : {X Y : Type 0} (f : X → Y) (xs : List X) (i : ℕ) (x : X) → map f (insert xs i x) ≡ insert (map f xs) i (f x)
map-insert f xs i x =
    map-append f (take i xs) (x ∷ drop i xs) ∙ ap (λ l. l ++ f x ∷ map f (drop i xs)) (sym (take-map f i xs)) ∙ ap (λ l. take i (map f xs) ++ f x ∷ l)
    (map-drop f i xs)

pub map-remove : {X Y : Type 0} (f : X → Y) (xs : List X) (i : ℕ) → map f (remove xs i) ≡ remove (map f xs) i
map-remove f xs i =
    map-append f (take i xs) (drop (suc i) xs) ∙ ap (λ l. l ++ map f (drop (suc i) xs)) (sym (take-map f i xs)) ∙ ap (λ l. take i (map f xs) ++ l)
    (map-drop f (suc i) xs)

pair_spelled : (key value : List ℕ) → pair_of (length key) (key ++ value) ≡ (key, value)
pair_spelled key value = ap (λ k. (k, drop (length key) (key ++ value))) (take-append_seam key value) ∙ ap (λ v. (key, v)) (drop-append_seam key value)

-- a record is put where the key was not found
pub put_record : (old new key value : List ℕ) (i : ℕ) → IsFound (records_of old) key (Before i) → records_of new ≡ insert (records_of old) i (key ++ value)
    → leaf_pairs (length key) new ≡ with_pair key value (leaf_pairs (length key) old)
put_record old new key value i found is =
    ap (map (pair_of (length key))) is
    ∙ map-insert (pair_of (length key)) (records_of old) i (key ++ value)
    ∙ ap (λ p. insert (leaf_pairs (length key) old) i p) (pair_spelled key value)
    ∙ insert_gap key value (leaf_pairs (length key) old) i (gap key (records_of old) i
    (recursion_from_All (Below key) (take i (records_of old)) found.0) found.1 found.2)

-- the record that begins with the key goes
pub remove_record : (old new key : List ℕ) (i : ℕ) → IsFound (records_of old) key (At i) → records_of new ≡ remove (records_of old) i
    → leaf_pairs (length key) new ≡ without_key key (leaf_pairs (length key) old)
remove_record old new key i found is =
    ap (map (pair_of (length key))) is
    ∙ map-remove (pair_of (length key)) (records_of old) i
    ∙ remove_stands key (leaf_pairs (length key) old) i (stands key (records_of old) i
    (recursion_from_All (Below key) (take i (records_of old)) found.0) found.1 found.2)

-- the record that begins with the key gets another value
pub replace_record : (old new key value : List ℕ) (i : ℕ) → IsFound (records_of old) key (At i)
    → records_of new ≡ set (records_of old) i (key ++ value) → leaf_pairs (length key) new ≡ with_pair key value (leaf_pairs (length key) old)
replace_record old new key value i found is =
    let n = length key in
    let there : get_or (leaf_pairs n old) i ([], []) ≡ pair_of n (get_or (records_of old) i []) =
    get_or-map (pair_of n) (records_of old) i [] ([], []) found.1 in
    let same : (get_or (leaf_pairs n old) i ([], [])).0 ≡ key = ap (λ (pair : Pair). pair.0) there ∙ found.2 in
    ap (map (pair_of n)) is
    ∙ map-set (pair_of n) (records_of old) i (key ++ value)
    ∙ ap (λ p. set (leaf_pairs n old) i p) (pair_spelled key value)
    ∙ ap (λ k. set (leaf_pairs n old) i (k, value)) (sym same)
    ∙ set_stands key value (leaf_pairs n old) i ([], []) (stands key (records_of old) i
    (recursion_from_All (Below key) (take i (records_of old)) found.0) found.1 found.2)

-- the record that begins with the key has its pair
pub record_there : (bytes key : List ℕ) (i : ℕ) → IsFound (records_of bytes) key (At i) → is_some (value_of key (leaf_pairs (length key) bytes)) ≡ true
record_there bytes key i found =
    (found_at key (leaf_pairs (length key) bytes) i (stands key (records_of bytes) i
    (recursion_from_All (Below key) (take i (records_of bytes)) found.0) found.1 found.2)).there

pub record_absent : (bytes key : List ℕ) (i : ℕ) → IsFound (records_of bytes) key (Before i) → AreRising (leaf_pairs (length key) bytes)
    → value_of key (leaf_pairs (length key) bytes) ≡ None
record_absent bytes key i found rising =
    value_gap key (leaf_pairs (length key) bytes) i rising (gap key (records_of bytes) i
    (recursion_from_All (Below key) (take i (records_of bytes)) found.0) found.1 found.2)

-- ---- the place in the tree

-- an edit of a leaf's records keeps its place in the tree
pub kept_right : (old new : List ℕ) → KeepsFields old new → right_of new ≡ right_of old
unfolding u32_at
kept_right old new keeps = ap (from_be_bytes w32) (middle_part old new 4 4 (omega arith) keeps)

pub kept_low : (old new : List ℕ) → KeepsFields old new → low_of new ≡ low_of old
kept_low old new keeps =
    let len : slice_index new 34 ≡ slice_index old 34 = middle_byte old new 10 (omega arith) keeps in
    let bytes : take 80 (drop 36 new) ≡ take 80 (drop 36 old) = middle_part old new 12 80 (omega arith) keeps in
    λ j. fence (len j) (bytes j)

pub kept_high : (old new : List ℕ) → KeepsFields old new → high_of new ≡ high_of old
kept_high old new keeps =
    let len : slice_index new 35 ≡ slice_index old 35 = middle_byte old new 11 (omega arith) keeps in
    let bytes : take 80 (drop 116 new) ≡ take 80 (drop 116 old) = middle_part old new 92 80 (omega arith) keeps in
    λ j. fence (len j) (bytes j)

pub kept_leaf : (key_len : ℕ) (old new : List ℕ) → KeepsFields old new → level_of old ≡ 0 → node_of key_len new ≡ node_of key_len old
kept_leaf key_len old new keeps leaf =
    let level : level_of new ≡ 0 = same_byte new old 21 22 (omega arith) keeps.head ∙ leaf in
    let before : (node_of key_len old).entries ≡ [] = rw leaf refl in
    let after : (node_of key_len new).entries ≡ [] = rw level refl in
    let entries = after ∙ sym before in
    λ j. record {
      low = low_fence (kept_low old new keeps j);
      high = high_fence
          (kept_high old new keeps j);
      right = kept_right old new keeps j;
      entries = entries j;
    }

-- ---- a page that is split

tail_shared : (n : ℕ) (key : List ℕ) (rs : List (List ℕ)) (i : ℕ) → i < length rs → key ≡ take n (slice_index_or rs i [])
    → map (entry_of n) (take i rs) ++ entries_of n (Key key) (drop i rs) ≡ map (entry_of n) rs
tail_shared n key [] i within is = absurd (omega (arith, within))
tail_shared n key (r ∷ rs) zero within is = ap (λ k. (Key k, child_of n r) ∷ map (entry_of n) rs) is
tail_shared n key (r ∷ rs) (suc i) within is = ap (λ l. entry_of n r ∷ l) (tail_shared n key rs i (omega (arith, within)) is)

shared_entries : (n : ℕ) (low : Fence) (key : List ℕ) (rs : List (List ℕ)) (i : ℕ) → 0 < i → i < length rs → key ≡ take n (slice_index_or rs i [])
    → entries_of n low (take i rs) ++ entries_of n (Key key) (drop i rs) ≡ entries_of n low rs
shared_entries n low key [] i some within is = absurd (omega (arith, within))
shared_entries n low key (r ∷ rs) zero some within is = absurd (omega (arith, some))
shared_entries n low key (r ∷ rs) (suc i) some within is = ap (λ l. (low, child_of n r) ∷ l) (tail_shared n key rs i (omega (arith, within)) is)

by_level : (leaf : Bool) (xs ys zs : List (Fence × ℕ)) → xs ++ ys ≡ zs → (if leaf then [] else xs) ++ (if leaf then [] else ys) ≡ (if leaf then [] else zs)
by_level true xs ys zs same = refl
by_level false xs ys zs same = same

module _ (n : ℕ) (old lower upper : List ℕ) (i : ℕ) (key : List ℕ) (number : ℕ)
    (below : IsLowerPart old i key number lower) (above : IsUpperPart old i key upper) where
  pub lower_entries : (node_of n lower).entries ≡ (if level_of old == 0 then [] else entries_of n (low_fence (low_of old)) (take i (records_of old)))
  lower_entries = λ j. if below.level j == 0 then [] else entries_of n (low_fence (below.low j)) (below.records j)

  pub upper_entries : (node_of n upper).entries ≡ (if level_of old == 0 then [] else entries_of n (Key key) (drop i (records_of old)))
  upper_entries = λ j. if above.level j == 0 then [] else entries_of n (low_fence (above.low j)) (above.records j)

  pub halves_of : 0 < i → i < length (records_of old) → key ≡ take n (slice_index_or (records_of old) i [])
      → AreHalves (node_of n old) (node_of n lower) (node_of n upper) number (Key key)
  halves_of some within is = record {
    lower_low = ap low_fence below.low;
    lower_high = ap high_fence below.high;
    lower_right = below.right;
    upper_low = ap low_fence above.low;
    upper_high = ap high_fence above.high;
    upper_right = above.right;
    shared =
        ap (λ l. l ++ (node_of n upper).entries) lower_entries
        ∙ ap (λ l. (if level_of old == 0 then [] else entries_of n (low_fence (low_of old)) (take i (records_of old))) ++ l) upper_entries
        ∙ by_level (level_of old == 0) (entries_of n (low_fence (low_of old)) (take i (records_of old))) (entries_of n (Key key) (drop i (records_of old)))
        (entries_of n (low_fence (low_of old)) (records_of old))
        (shared_entries n (low_fence (low_of old)) key (records_of old) i some within is);
  }

  -- and its pairs are shared
  pub shared_pairs : leaf_pairs n lower ++ leaf_pairs n upper ≡ leaf_pairs n old
  shared_pairs =
      ap (λ l. map (pair_of n) l ++ leaf_pairs n upper) below.records
      ∙ ap (λ l. map (pair_of n) (take i (records_of old)) ++ map (pair_of n) l) above.records
      ∙ sym (map-append (pair_of n) (take i (records_of old)) (drop i (records_of old)))
      ∙ ap (map (pair_of n)) (take-append-drop i (records_of old))
