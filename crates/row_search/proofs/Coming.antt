-- What was found as the search comes from pair to pair.
use Rattle.std.proofs.Common.{◌≡◌, ◌≢◌, ◌∙◌, sym, ap, subst, refl, ⊎_elim, ℕ, ◌≤◌, Bool, true, false, ◌&&◌, not, List, [], ◌∷◌, ◌++◌, length, Option, Some}
use Rattle.std.specs.{List.AllByRecursion, Ordering.is_le, Ordering.is_lt, declared.cmp.Ordering.TheVariants.Less, declared.cmp.Ordering.TheVariants.Equal}
use Rattle.std.proofs.lemmas.Bool.{true≢false, cases_Bool, both_ways, and_parts, and_from, true_from_ne_false}
use Rattle.inno_types.specs.{declared.value.Value.Value, declared.value.Schema.Schema, Ranges.is_from, Ranges.is_up_to, Ranges.is_within}
use Rattle.inno_db.specs.Database.{key_of}
use Rattle.key_codec.specs.Keys.{HasKey, key_code}
use Rattle.entries.specs.Pairs.{Pair, key_cmp, IsFirstOf, NonePasses}
use Rattle.entries.proofs.Order.{key_cmp_total, key_itself}
use Rattle.law_stored_rows.specs.Entries.{is_same_value}
use Rattle.law_stored_rows.proofs.Values.{value_itself, one_key}
use Rattle.sql_plan.specs.Visits.{kind_at, index_key}
use Rattle.row_search.specs.{declared.found.FoundRow.FoundRow, declared.scan.Scan.Scan, FoundRows.IsSeenRow, FoundRows.AreFound, Tables.HaveKeys}
use Rattle.row_search.specs.{Searches.IsComing, Searches.IsSeenAt, Ranges.primary_part, Ranges.lies_in, Ranges.lies_up_to, Ranges.lies_below}
use Rattle.row_search.proofs.{KeyOrder.not_lt, KeyOrder.le_not, KeyOrder.lt_less, KeyOrder.le_apart, KeyOrder.up_to_below, Keys.IsHome, Keys.one_place}
use Rattle.row_search.proofs.{Keys.part_is, Rows.all_each, Rows.found_same, Rows.found_pass, Rows.found_push}

-- of two tests the second is alike wherever the first one holds
under : (a b c : Bool) → (a ≡ true → b ≡ c) → (a && b) ≡ (a && c)
under true b c h = h refl
under false b c h = refl

pub never : (a b : Bool) → (a ≡ true → b ≡ false) → (a && b) ≡ false
never true b h = h refl
never false b h = refl

always : (a b : Bool) → (a ≡ true → b ≡ true) → (a && b) ≡ a
always true b h = h refl
always false b h = refl

-- the row lies in the range, and its key is before those that pass
abbrev pub lies_before : Schema → Scan → (List ℕ → Bool) → List Value → Bool
lies_before schema scan passes row = lies_in schema scan row && not (passes (index_key schema scan.which row))

module _ (schema : Schema) (scan : Scan) where
  abbrev key_in : List Value → List ℕ
  key_in row = index_key schema scan.which row

  pub bounds_of : (row : List Value) → lies_in schema scan row ≡ true
      → (is_from scan.range.low (key_in row) ≡ true) × (is_up_to scan.range.high (key_in row) ≡ true)
  bounds_of row lies =
      and_parts (is_from scan.range.low (key_in row)) (is_up_to scan.range.high (key_in row)) (and_parts (not scan.range.empty) _ lies).1

  module _ (row_at : Value → Option (List Value)) (pairs : List Pair) (keys : HaveKeys schema scan.which pairs row_at) where
    abbrev rows : List FoundRow
    rows = scan.rows.items

    -- ---- the next pair whose key passes

    module _ (passes : List ℕ → Bool) (before : AreFound schema scan.which row_at (lies_before schema scan passes) rows) where
      pub comes_next : (pair : Pair) → IsFirstOf passes pairs pair
          → ((row : List Value) → lies_in schema scan row ≡ true → passes (key_in row) ≡ false → is_lt (key_cmp (key_in row) pair.0) ≡ true)
          → AreFound schema scan.which row_at (lies_below schema scan pair.0) rows
      comes_next pair first below =
          found_same schema row_at (lies_before schema scan passes) (lies_below schema scan pair.0)
          (λ value row seen. under (lies_in schema scan row) (not (passes (key_in row))) (is_lt (key_cmp (key_in row) pair.0))
          (λ lies. ⊎_elim
          (λ yes. ap not yes ∙ sym (le_not key_cmp key_cmp_total pair.0 (key_in row) (first.least (key_in row) (keys value row seen) yes)))
          (λ no. ap not no ∙ sym (below row lies no)) (cases_Bool (passes (key_in row))))) before

      pub none_next : NonePasses passes pairs → AreFound schema scan.which row_at (lies_in schema scan) rows
      none_next none =
          found_same schema row_at (lies_before schema scan passes) (lies_in schema scan)
          (λ value row seen. always (lies_in schema scan row) (not (passes (key_in row))) (λ lies. ap not (none (key_in row) (keys value row seen)))) before

    -- ---- at a pair

    module _ (key : List ℕ) (below : AreFound schema scan.which row_at (lies_below schema scan key) rows) where
      -- a pair behind the range: all was found
      pub comes_behind : is_up_to scan.range.high key ≡ false → AreFound schema scan.which row_at (lies_in schema scan) rows
      comes_behind out =
          found_same schema row_at (lies_below schema scan key) (lies_in schema scan)
          (λ value row seen. always (lies_in schema scan row) (is_lt (key_cmp (key_in row) key))
          (λ lies. true_from_ne_false (is_lt (key_cmp (key_in row) key)) (λ ge. both_ways (is_up_to scan.range.high key) out
          (up_to_below scan.range.high (key_in row) key (not_lt key_cmp key_cmp_total (key_in row) key ge) (bounds_of row lies).1)))) below

      -- the pair is of no row that the reader sees in the range
      pub passes_by : ((value : Value) (row : List Value) → row_at value ≡ Some row → lies_in schema scan row ≡ true → key_in row ≢ key)
          → AreFound schema scan.which row_at (lies_up_to schema scan key) rows
      passes_by none =
          found_same schema row_at (lies_below schema scan key) (lies_up_to schema scan key)
          (λ value row seen. under (lies_in schema scan row) (is_lt (key_cmp (key_in row) key)) (is_le (key_cmp (key_in row) key))
          (λ lies. le_apart (key_in row) key (none value row seen lies))) below

      pub comes_before : is_from scan.range.low key ≡ false → AreFound schema scan.which row_at (lies_up_to schema scan key) rows
      comes_before out =
          passes_by (λ value row seen lies same. true≢false (sym (bounds_of row lies).0 ∙ (ap (is_from scan.range.low) same ∙ out)))

  -- ---- the row of a pair

  module _ (row_at : Value → Option (List Value)) (le : scan.which ≤ length schema.keys)
      (homes : (value : Value) (row : List Value) → row_at value ≡ Some row → IsHome schema value row) (entry : List ℕ) where
    -- at the value of the entry's primary key the reader sees no row with this entry
    pub is_passed : (value : Value) → HasKey (kind_at schema.columns schema.primary) value
        → primary_part schema entry ≡ key_code (kind_at schema.columns schema.primary) value
        → ((row : List Value) → row_at value ≡ Some row → key_in row ≢ entry)
        → (other : Value) (row : List Value) → row_at other ≡ Some row → lies_in schema scan row ≡ true → key_in row ≢ entry
    is_passed value has part none other row seen lies same =
        let h = homes other row seen in
        let is : other ≡ value =
        one_key (kind_at schema.columns schema.primary) other value h.has_key has
        (sym (part_is schema scan.which other row le h) ∙ (ap (primary_part schema) same ∙ part)) in
        none row (subst (λ (v : Value). row_at v ≡ Some row) is seen) same

    module _ (row : List Value) (at : IsSeenAt schema row_at (primary_part schema entry) row) where
      -- the entry isn't that of the row that the reader sees
      pub other_entry : key_in row ≢ entry → (other : Value) (also : List Value) → row_at other ≡ Some also
          → lies_in schema scan also ≡ true → key_in also ≢ entry
      other_entry apart =
          is_passed (key_of schema row) at.has_key at.key_is (λ same seen is. let one : row ≡ same = cc (at.seen, seen) in apart (ap key_in one ∙ is))

      -- the entry is the row's own
      pub row_kept : IsComing schema scan row_at entry → key_in row ≡ entry
          → AreFound schema scan.which row_at (lies_up_to schema scan entry) (scan.rows.items ++ record { key = primary_part schema entry; row = row } ∷ [])
      row_kept coming own =
          found_push schema row_at (lies_below schema scan entry) (lies_up_to schema scan entry) scan.rows.items
          (record { key = primary_part schema entry; row = row }) coming.below
          (record { seen = at.seen; key_is = at.key_is })
          (never (lies_in schema scan row) (is_lt (key_cmp (key_in row) entry)) (λ lies. ap is_lt tied))
          (and_from (lies_in schema scan row) (is_le (key_cmp (key_in row) entry)) (ap (is_within scan.range) own ∙ coming.within) (ap is_le tied))
          others_alike above_all
        where
          tied : key_cmp (key_in row) entry ≡ Equal
          tied = ap (λ k. key_cmp k entry) own ∙ key_itself entry

          others_alike : (value : Value) (also : List Value) → row_at value ≡ Some also → is_same_value value (key_of schema row) ≡ false
              → lies_below schema scan entry also ≡ lies_up_to schema scan entry also
          others_alike value also seen apart =
              under (lies_in schema scan also) (is_lt (key_cmp (key_in also) entry)) (is_le (key_cmp (key_in also) entry))
              (λ lies. le_apart (key_in also) entry
              (λ same. at_one_place (one_place schema scan.which value (key_of schema row) also row le (homes value also seen)
              (homes (key_of schema row) row at.seen) (same ∙ sym own))))
            where
              at_one_place : value ≡ key_of schema row → ⊥
              at_one_place is = both_ways (is_same_value value (key_of schema row)) apart (ap (is_same_value value) (sym is) ∙ value_itself value)

          above_all : scan.which ≡ 0 → AllByRecursion (λ earlier. key_cmp earlier.key (primary_part schema entry) ≡ Less) scan.rows.items
          above_all e =
              all_each (λ (f : FoundRow). (lies_below schema scan entry f.row ≡ true) × IsSeenRow schema row_at f)
              (λ f. key_cmp f.key (primary_part schema entry) ≡ Less)
              (λ f both. lt_less (key_cmp f.key (primary_part schema entry)) (ap is_lt (key_here f both.1) ∙
              (and_parts (lies_in schema scan f.row) (is_lt (key_cmp (key_in f.row) entry)) both.0).1)) scan.rows.items
              (found_pass schema row_at (lies_below schema scan entry) scan.rows.items coming.below)
            where
              key_here : (f : FoundRow) → IsSeenRow schema row_at f → key_cmp f.key (primary_part schema entry) ≡ key_cmp (key_in f.row) entry
              key_here f is =
                  ap (λ k. key_cmp k (primary_part schema entry)) (is.key_is ∙ sym (ap (λ w. index_key schema w f.row) e))
                  ∙ ap (key_cmp (key_in f.row)) (coming.whole e)
