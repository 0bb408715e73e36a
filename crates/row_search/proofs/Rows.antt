-- Rows that were found: what stays when the search comes further, when one more is found, and once they are in order.
use Rattle.std.proofs.Common.{◌≡◌, ◌≢◌, ◌∙◌, sym, ap, subst, refl, ⊎_elim, ℕ, suc, ◌+◌, ◌≤◌, Bool, true, false, cond, not, List, [], ◌∷◌, ◌++◌, length}
use Rattle.std.proofs.Common.{Option, None, Some, arith, slice_index_or}
use Rattle.std.proofs.{lemmas.Bool.cases_Bool, lemmas.List.Elements.recursion_from_All, lemmas.List.Elements.All-from_recursion}
use Rattle.std.proofs.{lemmas.List.Sorted.All-permutation, lemmas.List.Sorted.sum_by-IsPermutation, lemmas.List.Sums.sum_by-cons}
use Rattle.std.proofs.{lemmas.List.Sums.sum_by_push, lemmas.Bool.cond_both}
use Rattle.std.specs.{List.AllByRecursion, List.Sorted.IsPermutation, List.Sorted.IsSortedBy, Ordering.is_lt, declared.cmp.Ordering.TheVariants.Less}
use Rattle.inno_types.specs.{declared.value.Value.Value, declared.value.Schema.Schema}
use Rattle.inno_db.specs.Database.{key_of}
use Rattle.entries.specs.Pairs.{key_cmp}
use Rattle.entries.proofs.Order.{key_cmp_total}
use Rattle.law_stored_rows.specs.Entries.{is_same_value}
use Rattle.law_stored_rows.proofs.Values.{same_value, value_itself, one_key}
use Rattle.sql_plan.specs.Visits.{kind_at}
use Rattle.row_search.specs.{declared.found.FoundRow.FoundRow, FoundRows.IsSeenRow, FoundRows.times_found, FoundRows.once_if, FoundRows.RiseByKey}
use Rattle.row_search.specs.{FoundRows.AreFound}
use Rattle.row_search.proofs.{KeyOrder.lt_less, KeyOrder.le_is, KeyOrder.le_apart, Keys.IsHome}

all_push : {X : Type 0} (P : X → Type 0) (xs : List X) (x : X) → AllByRecursion P xs → P x → AllByRecursion P (xs ++ x ∷ [])
all_push P [] x all here = (here, tt)
all_push P (y ∷ xs) x all here = (all.0, all_push P xs x all.1 here)

pub all_each : {X : Type 0} (P Q : X → Type 0) → ((x : X) → P x → Q x) → (xs : List X) → AllByRecursion P xs → AllByRecursion Q xs
all_each P Q f [] all = all
all_each P Q f (x ∷ xs) all = (f x all.0, all_each P Q f xs all.1)

pub once_passes : (p : List Value → Bool) (row : List Value) → 1 ≤ once_if p (Some row) → p row ≡ true
once_passes p row some = cond_both (p row) 1 0 (λ n. 1 ≤ n → p row ≡ true) (λ passes one. passes) (λ fails one. absurd (omega arith)) some

module _ (schema : Schema) where
  pub counted : (value : Value) (found : FoundRow) (rows : List FoundRow)
      → times_found schema value (found ∷ rows) ≡ cond (is_same_value value (key_of schema found.row)) 1 0 + times_found schema value rows
  counted value found rows = sum_by-cons (λ (f : FoundRow). cond (is_same_value value (key_of schema f.row)) 1 0) found rows

  once_more : (value : Value) (found : FoundRow) (rows : List FoundRow) → value ≡ key_of schema found.row
      → times_found schema value (found ∷ rows) ≡ 1 + times_found schema value rows
  once_more value found rows same =
      counted value found rows
      ∙ ap (λ b. cond b 1 0 + times_found schema value rows) (ap (is_same_value value) (sym same) ∙ value_itself value)

  module _ (row_at : Value → Option (List Value)) where
    same_once : (p q : List Value → Bool) (found : Option (List Value)) → ((row : List Value) → found ≡ Some row → p row ≡ q row)
        → once_if p found ≡ once_if q found
    same_once p q None h = refl
    same_once p q (Some row) h = ap (λ b. cond b 1 0) (h row refl)

    -- nothing more has passed
    pub found_same : {which : ℕ} {rows : List FoundRow} (p q : List Value → Bool)
        → ((value : Value) (row : List Value) → row_at value ≡ Some row → p row ≡ q row) → AreFound schema which row_at p rows
        → AreFound schema which row_at q rows
    found_same p q h is = record { seen = is.seen; once = λ value. is.once value ∙ same_once p q (row_at value) (h value); order = is.order }

    -- ---- each row that was found passes

    pub found_pass : {which : ℕ} (p : List Value → Bool) (rows : List FoundRow) → AreFound schema which row_at p rows
        → AllByRecursion (λ found. (p found.row ≡ true) × IsSeenRow schema row_at found) rows
    found_pass p rows is = passes_each rows is.seen (λ value. omega arith) where
      passes_each : (some : List FoundRow) → AllByRecursion (IsSeenRow schema row_at) some
          → ((value : Value) → times_found schema value some ≤ times_found schema value rows)
          → AllByRecursion (λ found. (p found.row ≡ true) × IsSeenRow schema row_at found) some
      passes_each [] seen within = tt
      passes_each (found ∷ some) seen within =
          let value = key_of schema found.row in
          let one : 1 ≤ times_found schema value rows = omega (arith, once_more value found some refl, within value) in (
            (once_passes p found.row (subst (λ o. 1 ≤ once_if p o) seen.0.seen (subst (λ n. 1 ≤ n) (is.once value) one)), seen.0),
            passes_each some seen.1 (λ other. omega (arith, counted other found some, within other)),
          )

    -- ---- one more is found

    rise_push : (rows : List FoundRow) (found : FoundRow) → RiseByKey rows → AllByRecursion (λ earlier. key_cmp earlier.key found.key ≡ Less) rows
        → RiseByKey (rows ++ found ∷ [])
    rise_push [] found rise below = (tt, tt)
    rise_push (first ∷ rows) found rise below =
        (all_push (λ (later : FoundRow). key_cmp first.key later.key ≡ Less) rows found rise.0 below.0, rise_push rows found rise.1 below.1)

    pub found_push : {which : ℕ} (p q : List Value → Bool) (rows : List FoundRow) (found : FoundRow) → AreFound schema which row_at p rows
        → IsSeenRow schema row_at found → p found.row ≡ false → q found.row ≡ true
        → ((value : Value) (row : List Value) → row_at value ≡ Some row → is_same_value value (key_of schema found.row) ≡ false → p row ≡ q row)
        → (which ≡ 0 → AllByRecursion (λ earlier. key_cmp earlier.key found.key ≡ Less) rows) → AreFound schema which row_at q (rows ++ found ∷ [])
    found_push p q rows found is seen before passes others below =
        record {
          seen = all_push (IsSeenRow schema row_at) rows found is.seen seen;
          once = λ value. ⊎_elim (here value) (elsewhere value) (cases_Bool (is_same_value value (key_of schema found.row)));
          order = λ e. rise_push rows found (is.order e) (below e);
        }
      where
        pushed : (value : Value) (b : Bool) → is_same_value value (key_of schema found.row) ≡ b
            → times_found schema value (rows ++ found ∷ []) ≡ times_found schema value rows + cond b 1 0
        pushed value b is_b =
            sum_by_push (λ (f : FoundRow). cond (is_same_value value (key_of schema f.row)) 1 0) rows found
            ∙ ap (λ t. times_found schema value rows + cond t 1 0) is_b

        here : (value : Value) → is_same_value value (key_of schema found.row) ≡ true → times_found schema value (rows ++ found ∷ []) ≡ once_if q (row_at value)
        here value same =
            let there : row_at value ≡ Some found.row = ap row_at (same_value value (key_of schema found.row) same) ∙ seen.seen in
            let none : times_found schema value rows ≡ 0 = is.once value ∙ (ap (once_if p) there ∙ ap (λ b. cond b 1 0) before) in
            let one : once_if q (row_at value) ≡ 1 = ap (once_if q) there ∙ ap (λ b. cond b 1 0) passes in
            omega (arith, pushed value true same)

        elsewhere : (value : Value) → is_same_value value (key_of schema found.row) ≡ false
            → times_found schema value (rows ++ found ∷ []) ≡ once_if q (row_at value)
        elsewhere value apart =
            let again : times_found schema value rows ≡ once_if q (row_at value) =
            is.once value ∙ same_once p q (row_at value) (λ row there. others value row there apart) in
            omega (arith, pushed value false apart)

    -- ---- in order

    pub permuted : {which : ℕ} (p : List Value → Bool) (rows sorted : List FoundRow) → which ≢ 0 → IsPermutation rows sorted
        → AreFound schema which row_at p rows → AreFound schema which row_at p sorted
    permuted p rows sorted keyed same is =
        record {
          seen =
              recursion_from_All (IsSeenRow schema row_at) sorted
              (All-permutation (IsSeenRow schema row_at) rows sorted same (All-from_recursion (IsSeenRow schema row_at) rows is.seen));
          once = λ value. sum_by-IsPermutation (λ (f : FoundRow). cond (is_same_value value (key_of schema f.row)) 1 0) rows sorted same ∙ is.once value;
          order = λ zero. absurd (keyed zero);
        }

    abbrev comes_before : FoundRow → FoundRow → Bool
    comes_before a b = is_lt (key_cmp a.key b.key)

    one_later : (k : ℕ) → suc k + 1 ≡ suc (k + 1)
    one_later k = omega arith

    -- the rest is in order, too
    tail_up : (first : FoundRow) (rows : List FoundRow) → IsSortedBy comes_before (first ∷ rows) → IsSortedBy comes_before rows
    tail_up first rows up = λ k d low high.
        subst (λ n. comes_before (slice_index_or (first ∷ rows) n d) (slice_index_or rows k d) ≡ false) (one_later k)
        (up (suc k) d (omega arith) (let e : length (first ∷ rows) ≡ suc (length rows) = refl in omega arith))

    module _ (homes : (value : Value) (row : List Value) → row_at value ≡ Some row → IsHome schema value row) where
      -- two rows in a row have different keys
      apart : (a b : FoundRow) (rows : List FoundRow) → IsSeenRow schema row_at a → IsSeenRow schema row_at b
          → ((value : Value) → times_found schema value (a ∷ b ∷ rows) ≤ 1) → a.key ≢ b.key
      apart a b rows sa sb once same =
          let value = key_of schema a.row in
          let one : value ≡ key_of schema b.row =
          one_key (kind_at schema.columns schema.primary) value (key_of schema b.row) (homes value a.row sa.seen).has_key
          (homes (key_of schema b.row) b.row sb.seen).has_key (sym sa.key_is ∙ (same ∙ sb.key_is)) in
          omega (arith, once_more value a (b ∷ rows) refl, once_more value b rows one, once value)

      rising : (rows : List FoundRow) → AllByRecursion (IsSeenRow schema row_at) rows → ((value : Value) → times_found schema value rows ≤ 1)
          → IsSortedBy comes_before rows → RiseByKey rows
      rising [] seen once up = tt
      rising (a ∷ []) seen once up = (tt, tt)
      rising (a ∷ b ∷ rows) seen once up =
          let later = rising (b ∷ rows) seen.1 (λ value. omega (arith, counted value a (b ∷ rows), once value)) (tail_up a (b ∷ rows) up) in
          let first : key_cmp a.key b.key ≡ Less =
          lt_less (key_cmp a.key b.key) (le_apart a.key b.key (apart a b rows seen.0 seen.1.0 once)
          ∙ (le_is key_cmp key_cmp_total b.key a.key ∙ ap not (up 0 a (omega arith) (omega arith)))) in (
            (
              first,
              all_each (λ (f : FoundRow). key_cmp b.key f.key ≡ Less) (λ f. key_cmp a.key f.key ≡ Less)
                  (λ f less. key_cmp_total.trans a.key b.key f.key first less) rows later.0,
            ),
            later,
          )

      at_most_once : (p : List Value → Bool) (found : Option (List Value)) → once_if p found ≤ 1
      at_most_once p None = omega arith
      at_most_once p (Some row) = cond_both (p row) 1 0 (λ n. n ≤ 1) (λ passes. omega arith) (λ fails. omega arith)

      pub rises : {which : ℕ} (p : List Value → Bool) (rows : List FoundRow) → AreFound schema which row_at p rows
          → IsSortedBy (λ (a b : FoundRow). is_lt (key_cmp a.key b.key)) rows → RiseByKey rows
      rises p rows is up = rising rows is.seen (λ value. subst (λ n. n ≤ 1) (sym (is.once value)) (at_most_once p (row_at value))) up
