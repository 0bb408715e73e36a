-- Records and keys of a page that is split, with the record in its parent.
use Rattle.std.proofs.Common.{◌≡◌, ℕ, zero, suc, ◌<◌, true, List, [], ◌∷◌, ◌++◌}
use Rattle.std.proofs.Common.{length, take, drop, map, get_or, insert, refl, sym, ◌∙◌, ap, subst, arith}
use Rattle.std.specs.declared.cmp.Ordering.{Ordering}
use Rattle.std.specs.declared.cmp.Ordering.TheVariants.{Less, Equal, Greater}
use Rattle.std.specs.Ordering.{is_le}
use Rattle.std.specs.Int.{w32, from_be_bytes}
use Rattle.std.proofs.lemmas.Bool.{false≢true}
use Rattle.std.proofs.lemmas.List.{take-map}
use Rattle.entries.specs.Pairs.{key_cmp}
use Rattle.entries.proofs.Order.{key_cmp_is, same_key, below_all}
use Rattle.page_format.specs.Shape.{AreRising}
use Rattle.page_format.specs.Words.{index_of}
use Rattle.stored_pages.specs.Words.{u32_at}
use Rattle.page_format.specs.Changes.{KeepsFields}
use Rattle.page_format.proofs.Edited.{middle_part}
use Rattle.page_format.proofs.Pieces.{AreWide}
use Rattle.page_format.proofs.Orders.{rising_take, rising_drop}
use Rattle.law_flat_tree.specs.Levels.{Fence}
use Rattle.law_flat_tree.specs.Pages.{child_of, entry_of, entries_of}
use Rattle.law_tree_changes.specs.Splits.{later}

-- ---- entries and records

pub wide_at : (w : ℕ) (rs : List (List ℕ)) (i : ℕ) → AreWide w rs → i < length rs → length (get_or rs i []) ≡ w
wide_at w [] i wide within = absurd (omega (arith, within))
wide_at w (x ∷ xs) zero wide within = wide.0
wide_at w (x ∷ xs) (suc i) wide within = wide_at w xs i wide.1 (omega (arith, within))

pub same_index : (old new : List ℕ) → KeepsFields old new → index_of new ≡ index_of old
unfolding u32_at
same_index old new keeps = ap (from_be_bytes w32) (middle_part old new 0 4 (omega arith) keeps)

-- a list, cut at a place
pub cut_at : {A : Type 0} (xs : List A) (j : ℕ) (d : A) → j < length xs → xs ≡ take j xs ++ get_or xs j d ∷ drop (suc j) xs
cut_at [] j d within = absurd (omega (arith, within))
cut_at (x ∷ xs) zero d within = refl
cut_at (x ∷ xs) (suc j) d within = ap (λ l. x ∷ l) (cut_at xs j d (omega (arith, within)))

pub length-entries : (n : ℕ) (low : Fence) (rs : List (List ℕ)) → length (entries_of n low rs) ≡ length rs
length-entries n low [] = refl
length-entries n low (r ∷ rs) = ap suc (mapped rs) where
  mapped : (ss : List (List ℕ)) → length (map (entry_of n) ss) ≡ length ss
  mapped [] = refl
  mapped (s ∷ ss) = ap suc (mapped ss)

-- an entry names the child of its record
pub named_child : (n : ℕ) (low : Fence) (rs : List (List ℕ)) (j : ℕ) → j < length rs → (get_or (entries_of n low rs) j (low, 0)).1 ≡ child_of n (get_or rs j [])
named_child n low [] j within = absurd (omega (arith, within))
named_child n low (r ∷ rs) zero within = refl
named_child n low (r ∷ rs) (suc j) within = mapped rs j (omega (arith, within)) where
  mapped : (ss : List (List ℕ)) (k : ℕ) → k < length ss → (get_or (map (entry_of n) ss) k (low, 0)).1 ≡ child_of n (get_or ss k [])
  mapped [] k inside = absurd (omega (arith, inside))
  mapped (s ∷ ss) zero inside = refl
  mapped (s ∷ ss) (suc k) inside = mapped ss k (omega (arith, inside))

-- ---- keys that rise

-- a key at or below one that is below another
pub le_less : (one other third : List ℕ) → is_le (key_cmp one other) ≡ true → key_cmp other third ≡ Less → key_cmp one third ≡ Less
le_less one other third le less = go (key_cmp one other) refl where
  go : (o : Ordering) → o ≡ key_cmp one other → key_cmp one third ≡ Less
  go Less is = below_all one other third (sym is) less
  go Equal is = subst (λ k. key_cmp k third ≡ Less) (sym (same_key one other (sym is))) less
  go Greater is = absurd (false≢true (ap is_le is ∙ le))

-- the first of keys that rise is below each one behind it
pub first_below : (n : ℕ) (rs : List (List ℕ)) (i : ℕ) → AreRising (map (take n) rs) → 0 < i → i < length rs
    → key_cmp (take n (get_or rs 0 [])) (take n (get_or rs i [])) ≡ Less
first_below n [] i rising some within = absurd (omega (arith, within))
first_below n (r ∷ rs) zero rising some within = absurd (omega (arith, some))
first_below n (r ∷ []) (suc i) rising some within = absurd (omega (arith, within))
first_below n (r ∷ s ∷ ss) (suc zero) rising some within = key_cmp_is (take n r) (take n s) ∙ rising.0
first_below n (r ∷ s ∷ ss) (suc (suc i)) rising some within =
    below_all (take n r) (take n s) (take n (get_or (s ∷ ss) (suc i) [])) (key_cmp_is (take n r) (take n s) ∙ rising.0)
    (first_below n (s ∷ ss) (suc i) rising.1 (omega arith) (omega (arith, within)))

-- where the keys behind the first rise, and the first one is below the second, all do
all_rise : (n : ℕ) (rs : List (List ℕ)) → AreRising (map (take n) (later rs))
    → (1 < length rs → key_cmp (take n (get_or rs 0 [])) (take n (get_or rs 1 [])) ≡ Less)
    → AreRising (map (take n) rs)
all_rise n [] tail first = tt
all_rise n (r ∷ []) tail first = tt
all_rise n (r ∷ s ∷ ss) tail first = (sym (key_cmp_is (take n r) (take n s)) ∙ first (omega arith), tail)

pub take_rise : (n i : ℕ) (rs : List (List ℕ)) → AreRising (map (take n) rs) → AreRising (map (take n) (take i rs))
take_rise n i rs rising = subst (λ l. AreRising l) (take-map (take n) i rs) (rising_take i (map (take n) rs) rising)

map-drop : (n i : ℕ) (rs : List (List ℕ)) → map (take n) (drop i rs) ≡ drop i (map (take n) rs)
map-drop n zero rs = refl
map-drop n (suc i) [] = refl
map-drop n (suc i) (r ∷ rs) = map-drop n i rs

pub drop_rise : (n i : ℕ) (rs : List (List ℕ)) → AreRising (map (take n) rs) → AreRising (map (take n) (drop i rs))
drop_rise n i rs rising = subst (λ l. AreRising l) (sym (map-drop n i rs)) (rising_drop i (map (take n) rs) rising)

-- a record that is put behind the first one
pub first_stays : (rs : List (List ℕ)) (j : ℕ) (x : List ℕ) → 0 < length rs → get_or (insert rs (suc j) x) 0 [] ≡ get_or rs 0 []
first_stays [] j x some = absurd (omega (arith, some))
first_stays (r ∷ rs) j x some = refl

-- the first record of each half
pub first_kept : (rs : List (List ℕ)) (i : ℕ) → 0 < i → get_or (take i rs) 0 [] ≡ get_or rs 0 []
first_kept rs zero some = absurd (omega (arith, some))
first_kept [] (suc i) some = refl
first_kept (r ∷ rs) (suc i) some = refl

pub first_dropped : (rs : List (List ℕ)) (i : ℕ) → get_or (drop i rs) 0 [] ≡ get_or rs i []
first_dropped rs zero = refl
first_dropped [] (suc i) = refl
first_dropped (r ∷ rs) (suc i) = first_dropped rs i

-- the parent's keys rise with the new one
pub parent_rises : (n j : ℕ) (rs : List (List ℕ)) (x : List ℕ) → AreRising (map (take n) rs) → j < length rs
    → AreRising (map (take n) (later (insert rs (suc j) x))) → (j ≡ 0 → key_cmp (take n (get_or rs 0 [])) (take n x) ≡ Less)
    → AreRising (map (take n) (insert rs (suc j) x))
parent_rises n j [] x rising within tail first = absurd (omega (arith, within))
parent_rises n zero (r ∷ rs) x rising within tail first = all_rise n (r ∷ x ∷ rs) tail (λ _. first refl)
parent_rises n (suc j) (r ∷ []) x rising within tail first = absurd (omega (arith, within))
parent_rises n (suc j) (r ∷ s ∷ ss) x rising within tail first = (rising.0, tail)
