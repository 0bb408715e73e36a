-- Where a row goes among rows whose keys rise, and which one a key removes.
use Rattle.std.proofs.Common.{◌≡◌, ◌∙◌, ap, sym, subst, refl, ℕ, zero, suc, ◌+◌, ◌<◌, ◌≤◌, ◌⊎◌, Bool, List, [], ◌∷◌, ◌++◌, length, get_or, set, take, drop, true, false, not, cond, inl, inr, arith}
use Rattle.std.specs.Prelude.{filter, insert, remove}
use Rattle.std.specs.List.{AllByRecursion, AllWithin, HoldsAt}
use Rattle.std.specs.List.Sorted.{IsNonDecreasingBy, IsPartitionPoint}
use Rattle.std.specs.Ordering.{ordering_index, ordering_reverse, is_eq}
use Rattle.std.specs.declared.cmp.Ordering.{Ordering}
use Rattle.std.specs.declared.cmp.Ordering.TheVariants.{Less, Equal, Greater}
use Rattle.std.specs.Cmp.{IsTotalOrder, nat_cmp_total, int_cmp_total, on_total, then_total}
use Rattle.std.specs.Cmp.Lexicographic.{nat_list_cmp_total}
use Rattle.std.specs.FinMap.Entries.{by_order}
use Rattle.inno_types.specs.declared.value.Value.{Value}
use Rattle.inno_types.specs.declared.value.Schema.{Schema}
use Rattle.inno_db.specs.Database.{value_cmp, key_of, rank_of, number_of, text_of}
use Rattle.inno_db.specs.Keeping.{AreRising, with_row, without_key}

pub value_cmp_total : IsTotalOrder value_cmp
value_cmp_total = then_total (on_total rank_of nat_cmp_total) (then_total (on_total number_of int_cmp_total) (on_total text_of nat_list_cmp_total))

flipped : (a b : Value) (o : Ordering) → value_cmp a b ≡ o → value_cmp b a ≡ ordering_reverse o
flipped a b o is = value_cmp_total.antisymm b a ∙ ap ordering_reverse is

-- two keys that are equal compare alike with any other
alike : (a b c : Value) → value_cmp a b ≡ Equal → value_cmp c a ≡ value_cmp c b
alike a b c is = value_cmp_total.antisymm c a ∙ ap ordering_reverse (value_cmp_total.congr a b c is) ∙ sym (value_cmp_total.antisymm c b)

at_all : {A : Type 0} (P : A → Type 0) (xs : List A) (i : ℕ) (d : A) → AllByRecursion P xs → i < length xs → P (get_or xs i d)
at_all P [] i d all within = absurd (omega (arith, within))
at_all P (x ∷ xs) zero d all within = all.0
at_all P (x ∷ xs) (suc i) d all within = at_all P xs i d all.1 (omega (arith, within))

rising_at : (schema : Schema) (rows : List (List Value)) (i j : ℕ) (d : List Value) → AreRising schema rows → i < j → j < length rows
    → value_cmp (key_of schema (get_or rows i d)) (key_of schema (get_or rows j d)) ≡ Less
rising_at schema [] i j d rising less within = absurd (omega (arith, within))
rising_at schema (r ∷ rows) i zero d rising less within = absurd (omega (arith, less))
rising_at schema (r ∷ rows) zero (suc j) d rising less within =
    at_all (λ after. value_cmp (key_of schema r) (key_of schema after) ≡ Less) rows j d rising.0 (omega (arith, within))
rising_at schema (r ∷ rows) (suc i) (suc j) d rising less within = rising_at schema rows i j d rising.1 (omega (arith, less)) (omega (arith, within))

most : (o : Ordering) → ordering_index o ≤ 2
most Less = omega arith
most Equal = omega arith
most Greater = omega arith

-- of two keys the lower one compares no higher with a third
no_higher : (a b k : Value) → value_cmp a b ≡ Less → ordering_index (value_cmp a k) ≤ ordering_index (value_cmp b k)
no_higher a b k less = go (value_cmp b k) refl where
  go : (o : Ordering) → o ≡ value_cmp b k → ordering_index (value_cmp a k) ≤ ordering_index (value_cmp b k)
  go Less is =
      let a_is : ordering_index (value_cmp a k) ≡ 0 = ap ordering_index (value_cmp_total.trans a b k less (sym is)) in
      omega (arith, a_is)
  go Equal is =
      let a_is : ordering_index (value_cmp a k) ≡ 0 = ap ordering_index (sym (alike b k a (sym is)) ∙ less) in
      omega (arith, a_is)
  go Greater is = subst (λ o. ordering_index (value_cmp a k) ≤ ordering_index o) is (most (value_cmp a k))

same_or_less : (i j : ℕ) → i ≤ j → (i ≡ j) ⊎ (i < j)
same_or_less zero zero h = inl refl
same_or_less zero (suc j) h = inr (omega arith)
same_or_less (suc i) zero h = absurd (omega (arith, h))
same_or_less (suc i) (suc j) h = go (same_or_less i j (omega (arith, h))) where
  go : ((i ≡ j) ⊎ (i < j)) → (suc i ≡ suc j) ⊎ (suc i < suc j)
  go (inl same) = inl (ap suc same)
  go (inr less) = inr (omega (arith, less))

-- as a search by halves asks it
pub non_decreasing : (schema : Schema) (key : Value) (rows : List (List Value)) → AreRising schema rows
    → IsNonDecreasingBy (λ row. ordering_index (value_cmp (key_of schema row) key)) rows
non_decreasing schema key rows rising i j d order within = go (same_or_less i j order) where
  go : ((i ≡ j) ⊎ (i < j)) → ordering_index (value_cmp (key_of schema (get_or rows i d)) key) ≤ ordering_index (value_cmp (key_of schema (get_or rows j d)) key)
  go (inl same) =
      let same_index : ordering_index (value_cmp (key_of schema (get_or rows i d)) key) ≡ ordering_index (value_cmp (key_of schema (get_or rows j d)) key) =
      ap (λ n. ordering_index (value_cmp (key_of schema (get_or rows n d)) key)) same in
      omega (arith, same_index)
  go (inr less) = no_higher (key_of schema (get_or rows i d)) (key_of schema (get_or rows j d)) key (rising_at schema rows i j d rising less within)

-- the row of a key goes above each row before it
above_front : (schema : Schema) (key : Value) (r : List Value) (rows : List (List Value)) (i : ℕ) → AreRising schema (r ∷ rows) → i < length rows
    → HoldsAt (λ row. value_cmp (key_of schema row) key ≡ Equal) rows i → value_cmp key (key_of schema r) ≡ Greater
above_front schema key r rows i rising within is =
    let less = at_all (λ after. value_cmp (key_of schema r) (key_of schema after) ≡ Less) rows i [] rising.0 within in
    flipped (key_of schema r) key Less (sym (alike (key_of schema (get_or rows i [])) key (key_of schema r) (is [])) ∙ less)

-- a row of that key is there
pub with_there : (schema : Schema) (row : List Value) (rows : List (List Value)) (i : ℕ) → AreRising schema rows → i < length rows
    → HoldsAt (λ there. value_cmp (key_of schema there) (key_of schema row) ≡ Equal) rows i → set rows i row ≡ with_row schema row rows
with_there schema row [] i rising within is = absurd (omega (arith, within))
with_there schema row (r ∷ rows) zero rising within is =
    ap (λ o. by_order o (row ∷ r ∷ rows) (row ∷ rows) (r ∷ with_row schema row rows)) (sym (flipped (key_of schema r) (key_of schema row) Equal (is [])))
with_there schema row (r ∷ rows) (suc i) rising within is =
    let inside : i < length rows = omega (arith, within) in
    ap (λ l. r ∷ l) (with_there schema row rows i rising.1 inside is)
    ∙ ap (λ o. by_order o (row ∷ r ∷ rows) (row ∷ rows) (r ∷ with_row schema row rows)) (sym (above_front schema (key_of schema row) r rows i rising inside is))

-- no row of that key is there
pub with_before : (schema : Schema) (row : List Value) (rows : List (List Value)) (i : ℕ) → i ≤ length rows
    → AllWithin (λ there. value_cmp (key_of schema there) (key_of schema row) ≡ Less) rows 0 i
    → AllWithin (λ there. value_cmp (key_of schema there) (key_of schema row) ≡ Greater) rows i (length rows) → insert rows i row ≡ with_row schema row rows
with_before schema row [] zero within before after = refl
with_before schema row [] (suc i) within before after = absurd (omega (arith, within))
with_before schema row (r ∷ rows) zero within before after =
    ap (λ o. by_order o (row ∷ r ∷ rows) (row ∷ rows) (r ∷ with_row schema row rows))
    (sym (flipped (key_of schema r) (key_of schema row) Greater (after 0 [] (omega arith) (omega arith))))
with_before schema row (r ∷ rows) (suc i) within before after =
    ap (λ l. r ∷ l) (with_before schema row rows i (omega (arith, within)) (λ k d from to. before (suc k) d (omega arith) (omega (arith, to)))
    (λ k d from to. after (suc k) d (omega (arith, from)) (omega (arith, to))))
    ∙ ap (λ o. by_order o (row ∷ r ∷ rows) (row ∷ rows) (r ∷ with_row schema row rows))
    (sym (flipped (key_of schema r) (key_of schema row) Less (before 0 [] (omega arith) (omega arith))))

-- rows of other keys are left
left_of : (schema : Schema) (key : Value) (rows : List (List Value)) → AllByRecursion (λ row. is_eq (value_cmp key (key_of schema row)) ≡ false) rows
    → without_key schema key rows ≡ rows
left_of schema key [] others = refl
left_of schema key (r ∷ rows) others =
    ap (λ b. cond (not b) (r ∷ without_key schema key rows) (without_key schema key rows)) others.0 ∙ ap (λ l. r ∷ l) (left_of schema key rows others.1)

apart_after : (schema : Schema) (key : Value) (r : List Value) (rows : List (List Value)) → value_cmp (key_of schema r) key ≡ Equal
    → AllByRecursion (λ after. value_cmp (key_of schema r) (key_of schema after) ≡ Less) rows → AllByRecursion (λ row. is_eq (value_cmp key (key_of schema row)) ≡ false) rows
apart_after schema key r [] is above = tt
apart_after schema key r (s ∷ rows) is above =
    (ap is_eq (sym (value_cmp_total.congr (key_of schema r) key (key_of schema s) is) ∙ above.0), apart_after schema key r rows is above.1)

-- the row of a key goes
pub without_there : (schema : Schema) (key : Value) (rows : List (List Value)) (i : ℕ) → AreRising schema rows → i < length rows
    → HoldsAt (λ row. value_cmp (key_of schema row) key ≡ Equal) rows i → remove rows i ≡ without_key schema key rows
without_there schema key [] i rising within is = absurd (omega (arith, within))
without_there schema key (r ∷ rows) zero rising within is =
    sym (left_of schema key rows (apart_after schema key r rows (is []) rising.0))
    ∙ ap (λ o. cond (not (is_eq o)) (r ∷ without_key schema key rows) (without_key schema key rows)) (sym (flipped (key_of schema r) key Equal (is [])))
without_there schema key (r ∷ rows) (suc i) rising within is =
    let inside : i < length rows = omega (arith, within) in
    ap (λ l. r ∷ l) (without_there schema key rows i rising.1 inside is)
    ∙ ap (λ o. cond (not (is_eq o)) (r ∷ without_key schema key rows) (without_key schema key rows)) (sym (above_front schema key r rows i rising inside is))

apart_by : (schema : Schema) (key : Value) (rows : List (List Value)) (i : ℕ) → i ≤ length rows → AllWithin (λ row. value_cmp (key_of schema row) key ≡ Less) rows 0 i
    → AllWithin (λ row. value_cmp (key_of schema row) key ≡ Greater) rows i (length rows) → AllByRecursion (λ row. is_eq (value_cmp key (key_of schema row)) ≡ false) rows
apart_by schema key [] i within before after = tt
apart_by schema key (r ∷ rows) zero within before after = (
  ap is_eq (flipped (key_of schema r) key Greater (after 0 [] (omega arith) (omega arith))),
  apart_by schema key rows zero (omega arith) (λ k d from to. absurd (omega (arith, to))) (λ k d from to. after (suc k) d (omega arith) (omega (arith, to))),
)
apart_by schema key (r ∷ rows) (suc i) within before after = (
  ap is_eq (flipped (key_of schema r) key Less (before 0 [] (omega arith) (omega arith))),
  apart_by schema key rows i (omega (arith, within)) (λ k d from to. before (suc k) d (omega arith) (omega (arith, to)))
      (λ k d from to. after (suc k) d (omega (arith, from)) (omega (arith, to))),
)

-- a key without a row removes none
pub without_none : (schema : Schema) (key : Value) (rows : List (List Value)) (i : ℕ) → i ≤ length rows → AllWithin (λ row. value_cmp (key_of schema row) key ≡ Less) rows 0 i
    → AllWithin (λ row. value_cmp (key_of schema row) key ≡ Greater) rows i (length rows) → rows ≡ without_key schema key rows
without_none schema key rows i within before after = sym (left_of schema key rows (apart_by schema key rows i within before after))

-- what a search by halves for a key finds in a slice of these rows
module _ (schema : Schema) (rows slice : List (List Value)) (is : slice ≡ rows) (rising : AreRising schema rows) (i : ℕ) where
  abbrev pub IsThere : Value → List (List Value) → Type 0
  IsThere key l = (i < length l) × HoldsAt (λ row. value_cmp (key_of schema row) key ≡ Equal) l i

  abbrev pub IsBefore : Value → List (List Value) → Type 0
  IsBefore key l =
      (i ≤ length l)
      × (IsNonDecreasingBy (λ row. ordering_index (value_cmp (key_of schema row) key)) l
      → IsPartitionPoint (λ row. value_cmp (key_of schema row) key ≡ Less) (λ row. value_cmp (key_of schema row) key ≡ Greater) l i)

  pub put_there : (row : List Value) (key : Value) → key ≡ key_of schema row → IsThere key slice → set rows i row ≡ with_row schema row rows
  put_there row key key_is h =
      let there : IsThere (key_of schema row) rows = subst (λ k. IsThere k rows) key_is (subst (IsThere key) is h) in
      with_there schema row rows i rising there.0 there.1

  pub put_before : (row : List Value) (key : Value) → key ≡ key_of schema row → IsBefore key slice → insert rows i row ≡ with_row schema row rows
  put_before row key key_is h =
      let before : IsBefore (key_of schema row) rows = subst (λ k. IsBefore k rows) key_is (subst (IsBefore key) is h) in
      let parts = before.1 (non_decreasing schema (key_of schema row) rows rising) in
      with_before schema row rows i before.0 parts.0 parts.1

  pub remove_there : (other key : Value) → other ≡ key → IsThere other slice → remove rows i ≡ without_key schema key rows
  remove_there other key key_is h =
      let there : IsThere key rows = subst (λ k. IsThere k rows) key_is (subst (IsThere other) is h) in
      without_there schema key rows i rising there.0 there.1

  pub remove_none : (other key : Value) → other ≡ key → IsBefore other slice → rows ≡ without_key schema key rows
  remove_none other key key_is h =
      let before : IsBefore key rows = subst (λ k. IsBefore k rows) key_is (subst (IsBefore other) is h) in
      let parts = before.1 (non_decreasing schema key rows rising) in
      without_none schema key rows i before.0 parts.0 parts.1
