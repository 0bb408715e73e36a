-- Entries of a parent, and levels with one page less.
use Rattle.std.proofs.Common.{◌≡◌, ◌≢◌, ◌⊎◌, inl, inr, ℕ, zero, suc, ◌<◌, true, false, Bool, if◌then◌else◌, List, [], ◌∷◌, ◌++◌}
use Rattle.std.proofs.Common.{length, take, drop, map, get_or, remove, eqb, refl, sym, ap, subst, arith}
use Rattle.std.specs.List.{AllByRecursion}
use Rattle.std.specs.Int.{w32, from_be_bytes}
use Rattle.std.proofs.lemmas.Bool.Decides.{eqb_tells}
use Rattle.page_format.specs.Changes.{KeepsFields}
use Rattle.page_format.specs.Words.{index_of}
use Rattle.stored_pages.specs.Words.{u32_at}
use Rattle.page_format.proofs.Edited.{middle_part}
use Rattle.law_flat_tree.specs.Levels.{Fence}
use Rattle.law_flat_tree.specs.Descents.{BeginsAt}
use Rattle.law_flat_tree.specs.Pages.{child_of, entry_of, entries_of}
use Rattle.law_flat_tree.proofs.Apart.{one_more}

-- what holds of one page and of each other page holds of all
pub of_all : (P : ℕ → Type 0) (p : ℕ) → P p → ((q : ℕ) → q ≢ p → P q) → (q : ℕ) → P q
of_all P p here others q = go (eqb_tells q p) where
  go : ((eqb q p ≡ true) × (q ≡ p)) ⊎ ((eqb q p ≡ false) × (q ≢ p)) → P q
  go (inl same) = subst P (sym same.1) here
  go (inr other) = others q other.1

-- a list, cut at two places side by side
pub cut_two : {A : Type 0} (xs : List A) (j : ℕ) (d : A) → suc j < length xs
    → xs ≡ take j xs ++ get_or xs j d ∷ get_or xs (suc j) d ∷ drop (suc (suc j)) xs
cut_two [] j d within = absurd (omega (arith, within))
cut_two (x ∷ []) j d within = absurd (omega (arith, within))
cut_two (x ∷ y ∷ xs) zero d within = refl
cut_two (x ∷ y ∷ xs) (suc j) d within = ap (λ l. x ∷ l) (cut_two (y ∷ xs) j d (omega (arith, within)))

pub cut_one : {A : Type 0} (xs : List A) (j : ℕ) (d : A) → j < length xs → xs ≡ take j xs ++ get_or xs j d ∷ drop (suc j) xs
cut_one [] j d within = absurd (omega (arith, within))
cut_one (x ∷ xs) zero d within = refl
cut_one (x ∷ xs) (suc j) d within = ap (λ l. x ∷ l) (cut_one xs j d (omega (arith, within)))

pub length-entries : (n : ℕ) (low : Fence) (rs : List (List ℕ)) → length (entries_of n low rs) ≡ length rs
length-entries n low [] = refl
length-entries n low (r ∷ rs) = ap suc (mapped rs) where
  mapped : (ss : List (List ℕ)) → length (map (entry_of n) ss) ≡ length ss
  mapped [] = refl
  mapped (s ∷ ss) = ap suc (mapped ss)

-- an entry names the child of its record
pub named_child : (n : ℕ) (low : Fence) (rs : List (List ℕ)) (j : ℕ) → j < length rs → (get_or (entries_of n low rs) j (low, 0)).1 ≡ child_of n (get_or rs j [])
named_child n low [] j within = absurd (omega (arith, within))
named_child n low (r ∷ rs) zero within = refl
named_child n low (r ∷ rs) (suc j) within = mapped rs j (omega (arith, within)) where
  mapped : (ss : List (List ℕ)) (k : ℕ) → k < length ss → (get_or (map (entry_of n) ss) k (low, 0)).1 ≡ child_of n (get_or ss k [])
  mapped [] k inside = absurd (omega (arith, inside))
  mapped (s ∷ ss) zero inside = refl
  mapped (s ∷ ss) (suc k) inside = mapped ss k (omega (arith, inside))

-- an inner page has records, and they are its entries
pub has_entries : (n : ℕ) (low : Fence) (leaf : Bool) (rs : List (List ℕ)) → BeginsAt low (if leaf then [] else entries_of n low rs)
    → ((if leaf then [] else entries_of n low rs) ≡ entries_of n low rs) × (0 < length rs)
has_entries n low true rs begins = absurd begins
has_entries n low false [] begins = absurd begins
has_entries n low false (r ∷ rs) begins = (refl, omega arith)

-- the first record stays where a later one goes
pub first_left : (rs : List (List ℕ)) (j : ℕ) → get_or (remove rs (suc j)) 0 [] ≡ get_or rs 0 []
first_left [] j = refl
first_left (r ∷ rs) j = refl

pub same_index : (old new : List ℕ) → KeepsFields old new → index_of new ≡ index_of old
unfolding u32_at
same_index old new keeps = ap (from_be_bytes w32) (middle_part old new 0 4 (omega arith) keeps)

-- one page more, or one less, on one level
pub with_page : (P : ℕ → Type 0) (tops : List (List ℕ)) (upper xs ys : List ℕ) (under : List (List ℕ)) (p q : ℕ) → P q
    → AllByRecursion (AllByRecursion P) (tops ++ upper ∷ (xs ++ p ∷ ys) ∷ under)
    → AllByRecursion (AllByRecursion P) (tops ++ upper ∷ (xs ++ p ∷ q ∷ ys) ∷ under)
with_page P [] upper xs ys under p q new all = (all.0, (one_more P xs ys p q new all.1.0, all.1.1))
with_page P (top ∷ tops) upper xs ys under p q new all = (all.0, with_page P tops upper xs ys under p q new all.1)

one_less : (P : ℕ → Type 0) (xs ys : List ℕ) (p q : ℕ) → AllByRecursion P (xs ++ p ∷ q ∷ ys) → AllByRecursion P (xs ++ p ∷ ys)
one_less P [] ys p q all = (all.0, all.1.1)
one_less P (x ∷ xs) ys p q all = (all.0, one_less P xs ys p q all.1)

pub without_page : (P : ℕ → Type 0) (tops : List (List ℕ)) (upper xs ys : List ℕ) (under : List (List ℕ)) (p q : ℕ)
    → AllByRecursion (AllByRecursion P) (tops ++ upper ∷ (xs ++ p ∷ q ∷ ys) ∷ under)
    → AllByRecursion (AllByRecursion P) (tops ++ upper ∷ (xs ++ p ∷ ys) ∷ under)
without_page P [] upper xs ys under p q all = (all.0, (one_less P xs ys p q all.1.0, all.1.1))
without_page P (top ∷ tops) upper xs ys under p q all = (all.0, without_page P tops upper xs ys under p q all.1)

-- a row whose front ends with a page that isn't this one
pub both_sides : (P : ℕ → Type 0) (xs ys : List ℕ) (p : ℕ) → AllByRecursion P (xs ++ p ∷ []) → AllByRecursion P ys → AllByRecursion P (xs ++ p ∷ ys)
both_sides P [] ys p front back = (front.0, back)
both_sides P (x ∷ xs) ys p front back = (front.0, both_sides P xs ys p front.1 back)

-- levels in front and behind
pub on_all : (P : List ℕ → Type 0) (tops rest : List (List ℕ)) → AllByRecursion P tops → AllByRecursion P rest → AllByRecursion P (tops ++ rest)
on_all P [] rest front back = back
on_all P (top ∷ tops) rest front back = (front.0, on_all P tops rest front.1 back)
