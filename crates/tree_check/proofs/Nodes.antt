-- Fences, keys that rise, and a leaf as its records tell it.
use Rattle.std.proofs.Common.{◌≡◌, ◌≢◌, ◌⊎◌, inl, inr, ℕ, zero, suc, ◌+◌, ◌-◌, ◌<◌, ◌≤◌, ◌==◌, ◌||◌, Bool, true, false, if◌then◌else◌}
use Rattle.std.proofs.Common.{List, [], ◌∷◌, length, take, drop, map, replicate, get_or, eqb, refl, sym, ◌∙◌, ap, subst, arith}
use Rattle.std.specs.Prelude.{None, Some, MatchBool, slice_index}
use Rattle.std.specs.Ordering.{nat_cmp, is_lt}
use Rattle.std.specs.Cmp.Lexicographic.{slice_cmp}
use Rattle.std.specs.declared.cmp.Ordering.{Ordering}
use Rattle.std.specs.declared.cmp.Ordering.TheVariants.{Less, Equal, Greater}
use Rattle.std.proofs.lemmas.Bool.{false≢true, ne_eqb}
use Rattle.std.proofs.lemmas.Bool.Decides.{eqb_tells}
use Rattle.std.proofs.lemmas.List.{length-take-le, length-drop, take-take}
use Rattle.page_format.specs.Words.{level_of, count_of, record_len_of, low_of, high_of, fence, pieces, records_of}
use Rattle.page_format.specs.Shape.{AreZeros, AreRising, HasTreeFields, IsFence}
use Rattle.page_format.proofs.Pieces.{AreWide, wide-pieces}
use Rattle.std.specs.List.{AllByRecursion}
use Rattle.std.proofs.lemmas.List.Elements.{recursion_from_All, All-replicate}
use Rattle.btree_split.specs.Placed.{least_key, BeginsLow}
use Rattle.btree.specs.declared.tree.Tree.{Tree}
use Rattle.btree.specs.Layout.{width_of, IsLaidOut}
use Rattle.tree_check.specs.Nodes.{IsFenceOf, HasLengths}

pub not_header : {page : ℕ} → 20 < page → page ≢ 0
not_header beyond none = omega (arith, beyond, none)

-- ---- fences

fence_by : (b : Bool) (len key_len : ℕ) (part : List ℕ) → length part ≡ 80 → (b ≡ false → len ≤ 80) → (r : Bool) → r ≡ (b || (len == key_len))
    → MatchBool r (IsFenceOf key_len (if b then None else Some (take len part))) (IsFenceOf key_len (if b then None else Some (take len part)) → ⊥)
fence_by true len key_len part size fits true is = tt
fence_by true len key_len part size fits false is = absurd (false≢true is)
fence_by false len key_len part size fits r is = go r (eqb_tells len key_len) is where
  long : length (take len part) ≡ len
  long = length-take-le len part (omega (arith, fits refl, size))

  go : (r : Bool) → ((eqb len key_len ≡ true) × (len ≡ key_len)) ⊎ ((eqb len key_len ≡ false) × (len ≢ key_len)) → r ≡ (len == key_len)
      → MatchBool r (length (take len part) ≡ key_len) (length (take len part) ≡ key_len → ⊥)
  go true (inl same) told = long ∙ same.1
  go true (inr other) told = absurd (false≢true (sym other.0 ∙ sym told))
  go false (inl same) told = absurd (false≢true (told ∙ same.0))
  go false (inr other) told = λ same. other.1 (sym long ∙ same)

pub fence_told : (len key_len at : ℕ) (bytes part : List ℕ) → length bytes ≡ 4096 → at + 80 ≤ 4096 → part ≡ take 80 (drop at bytes)
    → IsFence len part → (r : Bool)
    → r ≡ ((len == 255) || (len == key_len)) → MatchBool r (IsFenceOf key_len (fence len part)) (IsFenceOf key_len (fence len part) → ⊥)
fence_told len key_len at bytes part size inside part_is is r told =
    fence_by (len == 255) len key_len part
    (ap length part_is ∙ length-take-le 80 (drop at bytes) (omega (arith, inside, length-drop at bytes, size)))
    (λ there. subst (λ n. n ≤ 80) (ap (λ (b : Bool). if b then 0 else len) there) is.fits) r told

-- ---- keys that rise

pub start : (n : ℕ) (rs : List (List ℕ)) → AreRising (map (take n) (take 1 rs))
start n [] = tt
start n (r ∷ rs) = tt

more : (n k : ℕ) (rs : List (List ℕ)) → suc k < length rs → AreRising (map (take n) (take (suc k) rs))
    → slice_cmp nat_cmp (take n (get_or rs k [])) (take n (get_or rs (suc k) [])) ≡ Less → AreRising (map (take n) (take (suc (suc k)) rs))
more n k [] within rising less = absurd (omega (arith, within))
more n k (r ∷ []) within rising less = absurd (omega (arith, within))
more n zero (r ∷ s ∷ rs) within rising less = (less, tt)
more n (suc k) (r ∷ s ∷ rs) within rising less = (rising.0, more n k (s ∷ rs) (omega (arith, within)) rising.1 less)

at_pair : (n k : ℕ) (rs : List (List ℕ)) → suc k < length rs → AreRising (map (take n) rs)
    → slice_cmp nat_cmp (take n (get_or rs k [])) (take n (get_or rs (suc k) [])) ≡ Less
at_pair n k [] within rising = absurd (omega (arith, within))
at_pair n k (r ∷ []) within rising = absurd (omega (arith, within))
at_pair n zero (r ∷ s ∷ rs) within rising = rising.0
at_pair n (suc k) (r ∷ s ∷ rs) within rising = at_pair n k (s ∷ rs) (omega (arith, within)) rising.1

pub one_more : (n i : ℕ) (rs : List (List ℕ)) → 0 < i → i < length rs → AreRising (map (take n) (take i rs))
    → slice_cmp nat_cmp (take n (get_or rs (i - 1) [])) (take n (get_or rs i [])) ≡ Less → AreRising (map (take n) (take (i + 1) rs))
one_more n zero rs some within rising less = absurd (omega (arith, some))
one_more n (suc k) rs some within rising less =
    let back : suc k - 1 ≡ k = omega arith in
    let next : suc (suc k) ≡ suc k + 1 = omega arith in
    subst (λ m. AreRising (map (take n) (take m rs))) next
    (more n k rs within rising (subst (λ m. slice_cmp nat_cmp (take n (get_or rs m [])) (take n (get_or rs (suc k) [])) ≡ Less) back less))

pub falls : (n i : ℕ) (rs : List (List ℕ)) → 0 < i → i < length rs → AreRising (map (take n) rs)
    → slice_cmp nat_cmp (take n (get_or rs (i - 1) [])) (take n (get_or rs i [])) ≡ Less
falls n zero rs some within rising = absurd (omega (arith, some))
falls n (suc k) rs some within rising =
    let back : k ≡ suc k - 1 = omega arith in
    subst (λ m. slice_cmp nat_cmp (take n (get_or rs m [])) (take n (get_or rs (suc k) [])) ≡ Less) back (at_pair n k rs within rising)

pub is_less : (o : Ordering) → is_lt o ≡ true → o ≡ Less
is_less Less is = refl
is_less Equal is = absurd (false≢true is)
is_less Greater is = absurd (false≢true is)

-- ---- all lengths

module _ (tree : Tree) (bytes : List ℕ) (size : length bytes ≡ 4096) (fields : HasTreeFields bytes) where
  low_told : (r : Bool) → r ≡ ((slice_index bytes 34 == 255) || (slice_index bytes 34 == tree.key_len))
      → MatchBool r (IsFenceOf tree.key_len (low_of bytes)) (IsFenceOf tree.key_len (low_of bytes) → ⊥)
  low_told r told = fence_told (slice_index bytes 34) tree.key_len 36 bytes (take 80 (drop 36 bytes)) size (omega arith) refl fields.low r told

  high_told : (r : Bool) → r ≡ ((slice_index bytes 35 == 255) || (slice_index bytes 35 == tree.key_len))
      → MatchBool r (IsFenceOf tree.key_len (high_of bytes)) (IsFenceOf tree.key_len (high_of bytes) → ⊥)
  high_told r told = fence_told (slice_index bytes 35) tree.key_len 116 bytes (take 80 (drop 116 bytes)) size (omega arith) refl fields.high r told

  pub low_wrong : false ≡ ((slice_index bytes 34 == 255) || (slice_index bytes 34 == tree.key_len)) → HasLengths tree bytes → ⊥
  low_wrong told lengths = low_told false told lengths.low

  pub lengths_told : record_len_of bytes ≡ width_of tree (level_of bytes)
      → true ≡ ((slice_index bytes 34 == 255) || (slice_index bytes 34 == tree.key_len))
      → (r : Bool) → r ≡ ((slice_index bytes 35 == 255) || (slice_index bytes 35 == tree.key_len))
      → MatchBool r (HasLengths tree bytes) (HasLengths tree bytes → ⊥)
  lengths_told width low true high = record { width = width; low = low_told true low; high = high_told true high }
  lengths_told width low false high = λ lengths. high_told false high lengths.high

-- the bytes of a fence that is there
pub fence_shown : (len at k : ℕ) (bytes : List ℕ) → len ≢ 255 → IsFence len (take 80 (drop at bytes)) → k ≡ len
    → fence len (take 80 (drop at bytes)) ≡ Some (take k (drop at bytes))
fence_shown len at k bytes there is k_is =
    let plain : (len == 255) ≡ false = ne_eqb len 255 there in
    let short : len ≤ 80 = subst (λ n. n ≤ 80) (ap (λ (b : Bool). if b then 0 else len) plain) is.fits in
    ap (λ (b : Bool). if b then None else Some (take len (take 80 (drop at bytes)))) plain
    ∙ ap Some (take-take len 80 (drop at bytes) short) ∙ ap (λ n. Some (take n (drop at bytes))) (sym k_is)

-- ---- the least key

all_zero : (bytes : List ℕ) → AllByRecursion (λ byte. byte ≡ 0) bytes → bytes ≡ replicate (length bytes) 0
all_zero [] all = refl
all_zero (byte ∷ bytes) all = (λ j. all.0 j ∷ all_zero bytes all.1 j)

first_long : (n width count : ℕ) (bytes : List ℕ) → 0 < count → n ≤ width → AreWide width (pieces width count bytes)
    → length (take n (get_or (pieces width count bytes) 0 [])) ≡ n
first_long n width zero bytes some fits wide = absurd (omega (arith, some))
first_long n width (suc count) bytes some fits wide = length-take-le n (take width bytes) (omega (arith, fits, wide.0))

pub no_low_told : (tree : Tree) (bytes first : List ℕ) → length bytes ≡ 4096 → IsLaidOut tree bytes → (level_of bytes ≢ 0 → 0 < count_of bytes)
    → level_of bytes ≢ 0 → first ≡ take tree.key_len (get_or (records_of bytes) 0 []) → low_of bytes ≡ None → (r : Bool)
    → MatchBool r (AreZeros first) (AreZeros first → ⊥) → MatchBool r (BeginsLow tree.key_len bytes) (BeginsLow tree.key_len bytes → ⊥)
no_low_told tree bytes first size laid some inner first_is none r told = go r told where
  key : List ℕ
  key = take tree.key_len (get_or (records_of bytes) 0 [])

  long : length key ≡ tree.key_len
  long =
      first_long tree.key_len (record_len_of bytes) (count_of bytes) (drop 208 bytes) (some inner) (omega (arith, laid.width))
      (wide-pieces (record_len_of bytes) (count_of bytes) (drop 208 bytes) (omega (arith, laid.inside, length-drop 208 bytes, size)))

  go : (r : Bool) → MatchBool r (AreZeros first) (AreZeros first → ⊥) → MatchBool r (BeginsLow tree.key_len bytes) (BeginsLow tree.key_len bytes → ⊥)
  go true zeros = λ _.
      all_zero key (recursion_from_All (λ byte. byte ≡ 0) key (subst AreZeros first_is zeros)) ∙ ap (λ n. replicate n 0) long
      ∙ ap (least_key tree.key_len) (sym none)
  go false others = λ begins.
      others (subst AreZeros (sym first_is) (subst AreZeros (sym (begins inner ∙ ap (least_key tree.key_len) none))
      (All-replicate (λ byte. byte ≡ 0) tree.key_len 0 refl)))
