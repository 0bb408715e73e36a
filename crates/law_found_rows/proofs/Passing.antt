-- A database with those rows alone that pass a test.
use Rattle.std.proofs.Common.{◌≡◌, ◌∙◌, sym, ap, subst, refl, ℕ, Bool, true, false, cond, ◌&&◌, T, List, [], ◌∷◌, map, Option, None, Some, arith}
use Rattle.std.proofs.lemmas.Bool.Decides.{nat_tests}
use Rattle.std.specs.Prelude.{filter, ◌==◌}
use Rattle.std.specs.FinMap.{get, find, is_sorted, entries, entries_sorted, get-entries, from_sorted, entries-from_sorted}
use Rattle.std.specs.{Ordering.is_lt, Ordering.is_eq, Ordering.eq_by_cmp, FinMap.Entries.below_all, declared.cmp.Ordering.Ordering}
use Rattle.std.specs.{declared.cmp.Ordering.TheVariants.Less, declared.cmp.Ordering.TheVariants.Equal, declared.cmp.Ordering.TheVariants.Greater}
use Rattle.inno_types.specs.declared.value.Value.{Value}
use Rattle.inno_db.specs.Database.{Database, Place, RowMap, place_cmp, rows_of}
use Rattle.law_past_agreement.proofs.Walk.{same_places}

both : (a b : Bool) → T a → T b → T (a && b)
both true b p q = q
both false b p q = p

first : (a b : Bool) → T (a && b) → T a
first true b p = tt
first false b p = p

second : (a b : Bool) → T (a && b) → T b
second true b p = p
second false b p = absurd p

equal : (r : Ordering) → is_eq r ≡ true → r ≡ Equal
equal Less is = cc
equal Equal is = refl
equal Greater is = cc

less_apart : (r : Ordering) → T (is_lt r) → is_eq r ≡ false
less_apart Less is = refl
less_apart Equal is = absurd is
less_apart Greater is = absurd is

-- nothing is found below the first key
none_below : (place : Place) (es : List (Place × List Value)) → T (below_all place_cmp place es) → find place_cmp place es ≡ None
none_below place [] below = refl
none_below place (e ∷ es) below =
    ap (λ b. cond b (Some e.1) (find place_cmp place es))
    (less_apart (place_cmp place e.0) (first (is_lt (place_cmp place e.0)) (below_all place_cmp place es) below))
    ∙ none_below place es (second (is_lt (place_cmp place e.0)) (below_all place_cmp place es) below)

-- the row, if it passes
abbrev pub kept_if : (List Value → Bool) → Option (List Value) → Option (List Value)
kept_if passes None = None
kept_if passes (Some row) = cond (passes row) (Some row) None

abbrev of_table : ℕ → List (Place × List Value) → List (Place × List Value)
of_table n es = filter (λ (e : Place × List Value). e.0.0 == n) es

abbrev rows : List (Place × List Value) → List (List Value)
rows es = map (λ (e : Place × List Value). e.1) es

module _ (passes : List Value → Bool) where
  abbrev passing : List (Place × List Value) → List (Place × List Value)
  passing es = filter (λ (e : Place × List Value). passes e.1) es

  below_passing : (low : Place) (es : List (Place × List Value)) → T (below_all place_cmp low es) → T (below_all place_cmp low (passing es))
  below_passing low [] below = tt
  below_passing low (e ∷ es) below = go (passes e.1) (below_passing low es (second (is_lt (place_cmp low e.0)) (below_all place_cmp low es) below)) where
    go : (b : Bool) → T (below_all place_cmp low (passing es)) → T (below_all place_cmp low (cond b (e ∷ passing es) (passing es)))
    go true rest =
        both (is_lt (place_cmp low e.0)) (below_all place_cmp low (passing es)) (first (is_lt (place_cmp low e.0)) (below_all place_cmp low es) below) rest
    go false rest = rest

  sorted_passing : (es : List (Place × List Value)) → T (is_sorted place_cmp es) → T (is_sorted place_cmp (passing es))
  sorted_passing [] sorted = tt
  sorted_passing (e ∷ es) sorted =
      go (passes e.1) (below_passing e.0 es (first (below_all place_cmp e.0 es) (is_sorted place_cmp es) sorted))
      (sorted_passing es (second (below_all place_cmp e.0 es) (is_sorted place_cmp es) sorted)) where
        go : (b : Bool) → T (below_all place_cmp e.0 (passing es)) → T (is_sorted place_cmp (passing es))
            → T (is_sorted place_cmp (cond b (e ∷ passing es) (passing es)))
        go true below rest = both (below_all place_cmp e.0 (passing es)) (is_sorted place_cmp (passing es)) below rest
        go false below rest = rest

  find_passing : (place : Place) (es : List (Place × List Value)) → T (is_sorted place_cmp es)
      → find place_cmp place (passing es) ≡ kept_if passes (find place_cmp place es)
  find_passing place [] sorted = refl
  find_passing place (e ∷ es) sorted =
      grind (arith, gone, find_passing place es (second (below_all place_cmp e.0 es) (is_sorted place_cmp es) sorted)) where
        gone : eq_by_cmp place_cmp place e.0 ≡ true → find place_cmp place es ≡ None
        gone same =
            none_below place es (subst (λ (p : Place). T (below_all place_cmp p es)) (sym (same_places place e.0 (equal (place_cmp place e.0) same)))
            (first (below_all place_cmp e.0 es) (is_sorted place_cmp es) sorted))

  rows_passing : (n : ℕ) (es : List (Place × List Value))
      → map (λ (e : Place × List Value). e.1) (filter (λ (e : Place × List Value). e.0.0 == n) (passing es)) ≡ filter passes
      (map (λ (e : Place × List Value). e.1) (filter (λ (e : Place × List Value). e.0.0 == n) es))
  rows_passing n [] = refl
  rows_passing n (e ∷ es) = grind (arith, nat_tests, rows_passing n es)

  -- the map of the rows that pass
  pub passing_map : RowMap → RowMap
  passing_map m = from_sorted {R = place_cmp} (passing (entries m))

  entries-passing : (m : RowMap) → entries (passing_map m) ≡ passing (entries m)
  unfolding passing_map
  entries-passing m = entries-from_sorted place_cmp (passing (entries m)) (sorted_passing (entries m) (entries_sorted m))

  pub get-passing : (m : RowMap) (place : Place) → get (passing_map m) place ≡ kept_if passes (get m place)
  get-passing m place =
      get-entries (passing_map m) place
      ∙ (ap (find place_cmp place) (entries-passing m)
      ∙ (find_passing place (entries m) (entries_sorted m)
      ∙ ap (kept_if passes) (sym (get-entries m place))))

  pub rows_of-passing : (n : ℕ) (db : Database) → rows_of n (record db { rows = passing_map db.rows }) ≡ filter passes (rows_of n db)
  rows_of-passing n db =
      ap (λ (es : List (Place × List Value)). map (λ (e : Place × List Value). e.1) (filter (λ (e : Place × List Value). e.0.0 == n) es))
      (entries-passing db.rows)
      ∙ rows_passing n (entries db.rows)
