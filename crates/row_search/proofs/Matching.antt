-- Of two searches that see the same rows, those found that meet a condition are the same, where both ranges hold them.
use Rattle.std.proofs.Common.{◌≡◌, ◌∙◌, sym, ap, subst, refl, ⊎_elim, ℕ, ◌+◌, ◌≤◌, Bool, true, false, cond, ◌&&◌, T, List, [], ◌∷◌, map, Option, None, Some}
use Rattle.std.proofs.Common.{arith}
use Rattle.std.specs.{Prelude.filter, Prelude.MatchOption, List.AllByRecursion, Ordering.is_lt, Ordering.is_eq, FinMap.find, FinMap.is_sorted}
use Rattle.std.specs.{FinMap.Entries.below_all, FinMap.Entries.same_entries, declared.cmp.Ordering.TheVariants.Less}
use Rattle.std.proofs.lemmas.Bool.{cond_both, cases_Bool}
use Rattle.inno_types.specs.{declared.value.Value.Value, declared.value.Schema.Schema, declared.stmt.Filter.Filter, Ranges.is_within}
use Rattle.inno_db.specs.{Database.key_of, Database.value_cmp, Conditions.matches, Conditions.truth_of, Conditions.is_true, declared.truth.Truth.Truth}
use Rattle.inno_db.specs.{declared.truth.Truth.TheVariants.True}
use Rattle.entries.specs.Pairs.{key_cmp}
use Rattle.law_stored_rows.specs.Entries.{is_same_value}
use Rattle.law_stored_rows.proofs.{Values.value_total, Values.same_value, FirstPlaces.keys_order}
use Rattle.sql_plan.specs.{declared.choice.Plan.Plan, Visits.kind_at, Visits.primary_key, Visits.index_key, Covers.CoversMatches}
use Rattle.row_search.specs.{declared.found.FoundRow.FoundRow, FoundRows.IsSeenRow, FoundRows.times_found, FoundRows.once_if, FoundRows.RiseByKey}
use Rattle.row_search.specs.{FoundRows.AreFound}
use Rattle.row_search.proofs.{Rows.counted, Rows.once_passes, Keys.IsHome, Keys.fits_in, Others.bits_in}

-- the rows behind their primary values
abbrev placed : Schema → List FoundRow → List (Value × List Value)
placed schema rows = map (λ (f : FoundRow). (key_of schema f.row, f.row)) rows

abbrev found_at : Schema → Value → List FoundRow → Option (List Value)
found_at schema value rows = find value_cmp value (placed schema rows)

abbrev pub found_rows : List FoundRow → List (List Value)
found_rows rows = map (λ (f : FoundRow). f.row) rows

abbrev passing : (List Value → Bool) → List FoundRow → List FoundRow
passing m rows = filter (λ (f : FoundRow). m f.row) rows

abbrev kept_if : (List Value → Bool) → Option (List Value) → Option (List Value)
kept_if p None = None
kept_if p (Some row) = cond (p row) (Some row) None

rows_back : (schema : Schema) (rows : List FoundRow) → map (λ (e : Value × List Value). e.1) (placed schema rows) ≡ found_rows rows
rows_back schema [] = refl
rows_back schema (f ∷ rows) = ap (λ (later : List (List Value)). f.row ∷ later) (rows_back schema rows)

module _ (schema : Schema) (row_at : Value → Option (List Value)) where
  -- what stands in the list at a value is what is seen there, and was counted
  abbrev Counted : Value → List FoundRow → Option (List Value) → Type 0
  Counted value rows found =
      MatchOption found (times_found schema value rows ≡ 0) (λ row. (row_at value ≡ Some row) × (1 ≤ times_found schema value rows))

  stands : (value : Value) (rows : List FoundRow) → AllByRecursion (IsSeenRow schema row_at) rows → Counted value rows (found_at schema value rows)
  stands value [] seen = refl
  stands value (f ∷ rows) seen = go (is_same_value value (key_of schema f.row)) refl (found_at schema value rows) (stands value rows seen.1) where
    go : (b : Bool) → is_same_value value (key_of schema f.row) ≡ b → (o : Option (List Value)) → Counted value rows o
        → Counted value (f ∷ rows) (cond b (Some f.row) o)
    go true same o later = (
      ap row_at (same_value value (key_of schema f.row) same) ∙ seen.0.seen,
      omega (arith, counted schema value f rows ∙ ap (λ b. cond b 1 0 + times_found schema value rows) same),
    )
    go false apart None later = counted schema value f rows ∙ (ap (λ b. cond b 1 0 + times_found schema value rows) apart ∙ omega arith)
    go false apart (Some row) later = (later.0, omega (arith, counted schema value f rows, later.1))

  -- the rows that pass a test, by what stands at each value
  find_passing : (m : List Value → Bool) (value : Value) (rows : List FoundRow) → AllByRecursion (IsSeenRow schema row_at) rows
      → found_at schema value (passing m rows) ≡ kept_if m (found_at schema value rows)
  find_passing m value [] seen = refl
  find_passing m value (f ∷ rows) seen = go (m f.row) (is_same_value value (key_of schema f.row)) refl refl (find_passing m value rows seen.1) where
    go : (passes same : Bool) → m f.row ≡ passes → is_same_value value (key_of schema f.row) ≡ same
        → found_at schema value (passing m rows) ≡ kept_if m (found_at schema value rows)
        → found_at schema value (cond passes (f ∷ passing m rows) (passing m rows)) ≡ kept_if m (cond same (Some f.row) (found_at schema value rows))
    go true true p s rest = rw (s, p)
    go true false p s rest = rw s rest
    go false false p s rest = rest
    go false true p s rest = rest ∙ (gone (found_at schema value rows) refl ∙ sym (ap (λ b. cond b (Some f.row) None) p)) where
      gone : (o : Option (List Value)) → found_at schema value rows ≡ o → kept_if m o ≡ None
      gone None is = refl
      gone (Some row) is =
          let here : row_at value ≡ Some f.row = ap row_at (same_value value (key_of schema f.row) s) ∙ seen.0.seen in
          let same_row : row ≡ f.row = cc (here, (subst (Counted value rows) is (stands value rows seen.1)).0) in
          ap (λ b. cond b (Some row) None) (ap m same_row ∙ p)

  found_is : (which : ℕ) (p : List Value → Bool) (rows : List FoundRow) (value : Value) → AreFound schema which row_at p rows
      → found_at schema value rows ≡ kept_if p (row_at value)
  found_is which p rows value is = go (found_at schema value rows) (stands value rows is.seen) where
    none_of : (o : Option (List Value)) → once_if p o ≡ 0 → None ≡ kept_if p o
    none_of None z = refl
    none_of (Some row) z =
        cond_both (p row) 1 0 (λ n. n ≡ 0 → None ≡ kept_if p (Some row)) (λ passes z. absurd (omega arith))
        (λ fails z. sym (ap (λ b. cond b (Some row) None) fails)) z

    go : (o : Option (List Value)) → Counted value rows o → o ≡ kept_if p (row_at value)
    go None zero = none_of (row_at value) (sym (is.once value) ∙ zero)
    go (Some row) both =
        let passes : p row ≡ true =
        once_passes p row (subst (λ o. 1 ≤ once_if p o) both.0 (subst (λ n. 1 ≤ n) (is.once value) both.1)) in
        rw (both.0, passes)

  -- ---- in order

  module _ (homes : (value : Value) (row : List Value) → row_at value ≡ Some row → IsHome schema value row) where
    less_by_value : (a b : FoundRow) → IsSeenRow schema row_at a → IsSeenRow schema row_at b → key_cmp a.key b.key ≡ Less
        → is_lt (value_cmp (key_of schema a.row) (key_of schema b.row)) ≡ true
    less_by_value a b sa sb less =
        let ha = (homes (key_of schema a.row) a.row sa.seen).has_key in
        let hb = (homes (key_of schema b.row) b.row sb.seen).has_key in
        let keys : key_cmp (primary_key schema a.row) (primary_key schema b.row) ≡ Less = rw (sa.key_is, sb.key_is) at less in
        ap is_lt (sym (keys_order (kind_at schema.columns schema.primary) (key_of schema a.row) (key_of schema b.row) ha hb) ∙ keys)

    both_hold : (a b : Bool) → T a → T b → T (a && b)
    both_hold true b p q = q
    both_hold false b p q = p

    below : (m : List Value → Bool) (f : FoundRow) (rows : List FoundRow) → IsSeenRow schema row_at f → AllByRecursion (IsSeenRow schema row_at) rows
        → AllByRecursion (λ (later : FoundRow). key_cmp f.key later.key ≡ Less) rows
        → T (below_all value_cmp (key_of schema f.row) (placed schema (passing m rows)))
    below m f [] seen all less = tt
    below m f (g ∷ rows) seen all less =
        let rest = below m f rows seen all.1 less.1 in
        cond_both (m g.row) (g ∷ passing m rows) (passing m rows) (λ gs. T (below_all value_cmp (key_of schema f.row) (placed schema gs)))
        (λ passes. both_hold (is_lt (value_cmp (key_of schema f.row) (key_of schema g.row)))
        (below_all value_cmp (key_of schema f.row) (placed schema (passing m rows))) (rw (less_by_value f g seen all.0 less.0) tt) rest) (λ fails. rest)

    sorted : (m : List Value → Bool) (rows : List FoundRow) → AllByRecursion (IsSeenRow schema row_at) rows → RiseByKey rows
        → T (is_sorted value_cmp (placed schema (passing m rows)))
    sorted m [] seen rise = tt
    sorted m (f ∷ rows) seen rise =
        let rest = sorted m rows seen.1 rise.1 in
        cond_both (m f.row) (f ∷ passing m rows) (passing m rows) (λ fs. T (is_sorted value_cmp (placed schema fs)))
        (λ passes. both_hold (below_all value_cmp (key_of schema f.row) (placed schema (passing m rows)))
        (is_sorted value_cmp (placed schema (passing m rows))) (below m f rows seen.0 seen.1 rise.0) rest) (λ fails. rest)

    twice_kept : (m p q : List Value → Bool) (o : Option (List Value)) → ((row : List Value) → o ≡ Some row → m row ≡ true → p row ≡ q row)
        → kept_if m (kept_if p o) ≡ kept_if m (kept_if q o)
    twice_kept m p q None h = refl
    twice_kept m p q (Some row) h =
        ⊎_elim (λ passes. ap (λ c. kept_if m (cond c (Some row) None)) (h row refl passes)) (λ fails. none (p row) fails ∙ sym (none (q row) fails))
        (cases_Bool (m row))
      where
        none : (b : Bool) → m row ≡ false → kept_if m (cond b (Some row) None) ≡ None
        none true fails = ap (λ c. cond c (Some row) None) fails
        none false fails = refl

    pub same_matching : (m p q : List Value → Bool) (which other : ℕ) (xs ys : List FoundRow) → AreFound schema which row_at p xs → RiseByKey xs
        → AreFound schema other row_at q ys → RiseByKey ys
        → ((value : Value) (row : List Value) → row_at value ≡ Some row → m row ≡ true → p row ≡ q row)
        → found_rows (passing m xs) ≡ found_rows (passing m ys)
    same_matching m p q which other xs ys found rise also up alike =
        let same : placed schema (passing m xs) ≡ placed schema (passing m ys) =
        same_entries value_cmp value_total (λ x y e. same_value x y (ap is_eq e)) (placed schema (passing m xs)) (placed schema (passing m ys))
        (sorted m xs found.seen rise) (sorted m ys also.seen up)
        (λ value. find_passing m value xs found.seen
        ∙ (ap (kept_if m) (found_is which p xs value found)
        ∙ (twice_kept m p q (row_at value) (alike value)
        ∙ (sym (ap (kept_if m) (found_is other q ys value also)) ∙ sym (find_passing m value ys also.seen))))) in
        sym (rows_back schema (passing m xs)) ∙ (ap (map (λ (e : Value × List Value). e.1)) same ∙ rows_back schema (passing m ys))

    true_is : (t : Truth) → is_true t ≡ true → t ≡ True
    true_is True e = refl
    true_is other e = cc

    pub matches_found : (filter_by : Filter) (plan : Plan) (which : ℕ) (xs all : List FoundRow) → CoversMatches schema filter_by plan
        → AreFound schema plan.which row_at (λ row. is_within plan.range (index_key schema plan.which row)) xs → RiseByKey xs → AreFound schema which row_at
        (λ row. true) all → RiseByKey all
        → found_rows (passing (matches schema.columns (Some filter_by)) xs) ≡ found_rows (passing (matches schema.columns (Some filter_by)) all)
    matches_found filter_by plan which xs all covers found rise whole up =
        same_matching (matches schema.columns (Some filter_by)) (λ row. is_within plan.range (index_key schema plan.which row)) (λ row. true)
        plan.which which xs all found rise whole up
        (λ value row seen met.
        let h = homes value row seen in
        covers row (record { fits = λ place column there. (fits_in schema.columns row place column h.at.fits there, bits_in row place h.at.bits) })
        (true_is (truth_of schema.columns row filter_by) met))
