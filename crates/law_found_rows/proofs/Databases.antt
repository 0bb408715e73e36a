-- What was found is what the past says.
use Rattle.row_search.specs.declared.sight.Sight.TheVariants as sights
use Rattle.std.proofs.Common.{◌≡◌, ◌≢◌, ◌∙◌, sym, ap, ℕ, Bool, List, [], map, Option, Some, inl, inr, refl, zero, suc, ◌+◌, true, cond, ◌∷◌, None, arith}
use Rattle.std.specs.FinMap.{get, find, is_sorted}
use Rattle.inno_db.specs.Database.{Database, rows_of, place_cmp, value_cmp, key_of}
use Rattle.inno_model.specs.Past.{own, view_of, commits, changed, committed}
use Rattle.sql_plan.specs.Visits.{IsRowOf, kind_at, primary_key}
use Rattle.law_found_rows.proofs.Passing.{passing_map, get-passing, rows_of-passing, kept_if}
use Rattle.world.specs.State.{WorldState, Session, Work, Seen, HasWork}
use Rattle.law_past_agreement.specs.Rows.{seen, is_at, row_opened, row_seen, IsNewestSeen}
use Rattle.law_past_agreement.specs.DatabaseTables.{with_all_tables, at_places, rows_in}
use Rattle.row_search.specs.FoundRows.{RiseByKey, AreFound, IsSeenRow, times_found, once_if}
use Rattle.std.specs.Ordering.{is_lt, nat_cmp, ordering_then}
use Rattle.std.proofs.{lemmas.List.Elements.All-from_recursion, lemmas.Bool.Decides.eqb_tells, lemmas.Bool.Decides.nat_tests, lemmas.Bool.and_from}
use Rattle.std.proofs.{lemmas.Bool.cases_Bool, lemmas.List.Sums.sum_by-cons}
use Rattle.std.specs.{Prelude.filter, Prelude.All, List.AllByRecursion, FinMap.Entries.below_all, declared.cmp.Ordering.Ordering}
use Rattle.std.specs.{declared.cmp.Ordering.TheVariants.Less, declared.cmp.Ordering.TheVariants.Equal}
use Rattle.entries.specs.{Pairs.Pair, Pairs.key_cmp}
use Rattle.law_found_rows.proofs.{Fits.each_row, Fits.row_fits}
use Rattle.law_world_agreement.specs.{Agreement.sight_of, Agreement.Agrees}
use Rattle.law_world_agreement.proofs.{Readers.seen_by_view, Readers.seen_newest}
use Rattle.inno_types.specs.{declared.value.Value.Value, declared.value.Schema.Schema}
use Rattle.row_versions.specs.{declared.kept.Kept.Kept, Chains.Chains, Chains.newest, declared.place.Place.Place}
use Rattle.law_stored_rows.specs.{Records.IsClustered, Tables.in_table, Entries.is_same_value}
use Rattle.law_past_agreement.proofs.{Gets.seen_is, Walk.rows_are, Rows.row_at-append}
use Rattle.row_search.specs.{declared.found.FoundRow.FoundRow, declared.sight.Sight.Sight, Sights.sees_by, Sights.rows_seen}
use Rattle.row_search.proofs.{Keys.IsHome, Keys.home, Others.newest_seen}
use Rattle.law_past_agreement.specs.{Order.created}
use Rattle.inno_model.specs.{declared.event.Event.Event}
use Rattle.law_stored_rows.proofs.{Values.in_one_table, Values.same_value, FirstPlaces.keys_order}

-- ---- The newest row of a place, for the session that alone has changes.

abbrev pub at_key : ℕ → Value → Place
at_key table key = record { table = table; key = key }

pub latest : (h : List Event) (s : ℕ) (place : Place) (row : Option (List Value)) → ((u : ℕ) → u ≢ s → own u h ≡ []) → IsNewestSeen h place row
    → row ≡ row_seen h s (commits h) place
latest h s place row alone newest =
    let opened = row_opened h place in
    let at = is_at (created h) place in
    elim (eqb_tells newest.0 s) [
      | inl same ↦ rw same.1 at newest.2
      | inr differ ↦ newest.2 ∙ (rw (alone newest.0 differ.1) (sym (row_at-append opened at (own s h) (committed (commits h) h)
          (newest.1 s (λ is. differ.1 (sym is))))))
    ]

-- ---- Rows that were found, each at its key, in the order of places.

-- the rows behind their primary values
abbrev pub keyed : Schema → List FoundRow → List (Value × List Value)
keyed schema rows = map (λ (found : FoundRow). (key_of schema found.row, found.row)) rows

pub rows_back : (schema : Schema) (rows : List FoundRow) → rows_in (keyed schema rows) ≡ map (λ (found : FoundRow). found.row) rows
rows_back schema [] = refl
rows_back schema (found ∷ rows) = ap (λ (later : List (List Value)). found.row ∷ later) (rows_back schema rows)

same_number : (n : ℕ) (r : Ordering) → ordering_then (nat_cmp n n) r ≡ r
same_number n r = let is : nat_cmp n n ≡ Equal = grind (arith, nat_tests) in rw is refl

-- the row, where it was found
abbrev found_if : ℕ → Option (List Value) → Option (List Value)
found_if zero row = None
found_if (suc n) row = row

found_once : (passes : List Value → Bool) (row : Option (List Value)) → found_if (once_if passes row) row ≡ kept_if passes row
found_once passes None = refl
found_once passes (Some row) = grind arith

module _ (schema : Schema) (row_at : Value → Option (List Value)) (table : ℕ) where
  times-cons : (value : Value) (found : FoundRow) (rows : List FoundRow)
      → times_found schema value (found ∷ rows) ≡ cond (is_same_value value (key_of schema found.row)) 1 0 + times_found schema value rows
  times-cons value found rows = sum_by-cons (λ (f : FoundRow). cond (is_same_value value (key_of schema f.row)) 1 0) found rows

  abbrev stands_at : Value → List FoundRow → Option (List Value)
  stands_at value rows = find place_cmp (table, value) (at_places table (keyed schema rows))

  find_found : (value : Value) (rows : List FoundRow) → AllByRecursion (IsSeenRow schema row_at) rows
      → find place_cmp (table, value) (at_places table (keyed schema rows)) ≡ found_if (times_found schema value rows) (row_at value)
  find_found value [] seen = refl
  find_found value (found ∷ rows) seen = elim (cases_Bool (is_same_value value (key_of schema found.row))) [
    | inl same ↦
        let here : row_at value ≡ Some found.row = ap row_at (same_value value (key_of schema found.row) same) ∙ seen.0.seen in
        let one : 1 + times_found schema value rows ≡ suc (times_found schema value rows) = omega arith in
        rw (times-cons value found rows, in_one_table table value (key_of schema found.row), same, here) (rw one)
    | inr apart ↦
        let none : 0 + times_found schema value rows ≡ times_found schema value rows = omega arith in
        rw (times-cons value found rows, in_one_table table value (key_of schema found.row), apart) (rw none (find_found value rows seen.1))
  ]

  -- at each place stands what the reader sees there, where it passes
  pub found_in : (which : ℕ) (passes : List Value → Bool) (rows : List FoundRow) (value : Value) → AreFound schema which row_at passes rows
      → find place_cmp (table, value) (at_places table (keyed schema rows)) ≡ kept_if passes (row_at value)
  found_in which passes rows value is = find_found value rows is.seen ∙ (ap (λ n. found_if n (row_at value)) (is.once value) ∙ found_once passes (row_at value))

  module _ (homes : (value : Value) (row : List Value) → row_at value ≡ Some row → IsHome schema value row) where
    below_by_place : (a b : FoundRow) → IsSeenRow schema row_at a → IsSeenRow schema row_at b → key_cmp a.key b.key ≡ Less
        → is_lt (place_cmp (table, key_of schema a.row) (table, key_of schema b.row)) ≡ true
    below_by_place a b sa sb less =
        let ha = (homes (key_of schema a.row) a.row sa.seen).has_key in
        let hb = (homes (key_of schema b.row) b.row sb.seen).has_key in
        ap is_lt (same_number table (value_cmp (key_of schema a.row) (key_of schema b.row)))
        ∙ ap is_lt (sym (keys_order (kind_at schema.columns schema.primary) (key_of schema a.row) (key_of schema b.row) ha hb)
        ∙ (ap (λ k. key_cmp k (primary_key schema b.row)) (sym sa.key_is) ∙ (ap (key_cmp a.key) (sym sb.key_is) ∙ less)))

    below_rows : (found : FoundRow) (rows : List FoundRow) → IsSeenRow schema row_at found → AllByRecursion (IsSeenRow schema row_at) rows
        → AllByRecursion (λ (later : FoundRow). key_cmp found.key later.key ≡ Less) rows
        → below_all place_cmp (table, key_of schema found.row) (at_places table (keyed schema rows)) ≡ true
    below_rows found [] seen all less = refl
    below_rows found (next ∷ rows) seen all less =
        and_from (is_lt (place_cmp (table, key_of schema found.row) (table, key_of schema next.row)))
        (below_all place_cmp (table, key_of schema found.row) (at_places table (keyed schema rows)))
        (below_by_place found next seen all.0 less.0) (below_rows found rows seen all.1 less.1)

    pub sorted_found : (rows : List FoundRow) → AllByRecursion (IsSeenRow schema row_at) rows → RiseByKey rows
        → is_sorted place_cmp (at_places table (keyed schema rows)) ≡ true
    sorted_found [] seen rise = refl
    sorted_found (found ∷ rows) seen rise =
        and_from (below_all place_cmp (table, key_of schema found.row) (at_places table (keyed schema rows)))
        (is_sorted place_cmp (at_places table (keyed schema rows)))
        (below_rows found rows seen.0 seen.1 rise.0) (sorted_found rows seen.1 rise.1)

-- ---- what was found

-- What a reader sees of a table are its rows in this database.
abbrev pub ShowsDatabase : ℕ → (Value → Option (List Value)) → Database → Type 0
ShowsDatabase table row_at db = (key : Value) → get db.rows (table, key) ≡ row_at key

module _ (schema : Schema) (table : ℕ) (row_at : Value → Option (List Value)) (db : Database) (shows : ShowsDatabase table row_at db)
    (homes : (value : Value) (row : List Value) → row_at value ≡ Some row → IsHome schema value row) where
  pub found_are : (which : ℕ) (passes : List Value → Bool) (rows : List FoundRow) → AreFound schema which row_at passes rows → RiseByKey rows
      → map (λ (found : FoundRow). found.row) rows ≡ filter passes (rows_of table db)
  found_are which passes rows is rise =
      sym (rows_back schema rows)
      ∙ (sym (rows_are table (passing_map passes db.rows) (keyed schema rows) (record {
        rising = sorted_found schema row_at table homes rows is.seen rise;
        each =
            λ key. found_in schema row_at table which passes rows key is ∙
            (ap (kept_if passes) (sym (shows key)) ∙ sym (get-passing passes db.rows (table, key)));
      }))
      ∙ rows_of-passing passes table db)

  pub rows_fit : All (IsRowOf schema.columns) (rows_of table db)
  rows_fit =
      All-from_recursion (IsRowOf schema.columns) (rows_of table db)
      (each_row (IsRowOf schema.columns) db table (λ key row is. let h = homes key row (sym (shows key) ∙ is) in row_fits schema row h.at.fits h.at.bits))

module _ (chains : Chains) (state : WorldState) (agrees : Agrees chains state) (table : ℕ) where
  -- by the view of an open transaction
  pub view_shows : (s n : ℕ) (session : Session) (work : Work) (view : Seen) → HasWork s session work state → work.view ≡ Some view
      → view_of s state.past ≡ Some n
      → ShowsDatabase table (rows_seen (sights.View (sight_of view) work.id) (in_table table chains))
      (changed (with_all_tables state.past) (seen state.past s n))
  view_shows s n session work view has is at key =
      seen_is state.past s n (at_key table key) agrees.lists.ordered
      ∙ sym (seen_by_view chains state agrees s n session work view (at_key table key) has is at)

  -- without one, while one session alone has changes
  pub newest_shows : (w : ℕ) → ((u : ℕ) → u ≢ w → own u state.past ≡ [])
      → ShowsDatabase table (rows_seen sights.Newest (in_table table chains)) (changed (with_all_tables state.past) (seen state.past w (commits state.past)))
  newest_shows w alone key =
      seen_is state.past w (commits state.past) (at_key table key) agrees.lists.ordered
      ∙ (sym (latest state.past w (at_key table key) (newest (in_table table chains key)) alone (seen_newest chains state agrees (at_key table key)))
      ∙ sym (newest_seen (in_table table chains key)))

pub homes_of : (schema : Schema) (kept : ℕ → Option Kept) (pairs : List Pair) (chains : Chains) (table : ℕ) (sight : Sight)
    → IsClustered table schema kept pairs (in_table table chains)
    → (value : Value) (row : List Value) → rows_seen sight (in_table table chains) value ≡ Some row → IsHome schema value row
homes_of schema kept pairs chains table sight is value row seen = home table schema kept pairs (in_table table chains) (sees_by sight) value row is seen

-- ---- in a world

module _ (chains : Chains) (state : WorldState) (table : ℕ) (schema : Schema) (kept : ℕ → Option Kept) (pairs : List Pair)
    (agrees : Agrees chains state) (clustered : IsClustered table schema kept pairs (in_table table chains)) where
  module _ (s n : ℕ) (session : Session) (work : Work) (view : Seen) (has : HasWork s session work state) (is : work.view ≡ Some view)
      (at : view_of s state.past ≡ Some n) where
    abbrev view_rows : Value → Option (List Value)
    view_rows = rows_seen (sights.View (sight_of view) work.id) (in_table table chains)

    abbrev view_database : Database
    view_database = changed (with_all_tables state.past) (seen state.past s n)

    pub found_by_view : (which : ℕ) (passes : List Value → Bool) (rows : List FoundRow) → AreFound schema which view_rows passes rows → RiseByKey rows
        → map (λ (found : FoundRow). found.row) rows ≡ filter passes (rows_of table view_database)
    found_by_view =
        found_are schema table view_rows view_database (view_shows chains state agrees table s n session work view has is at)
        (homes_of schema kept pairs chains table (sights.View (sight_of view) work.id) clustered)

  module _ (w : ℕ) (alone : (u : ℕ) → u ≢ w → own u state.past ≡ []) where
    abbrev newest_rows : Value → Option (List Value)
    newest_rows = rows_seen sights.Newest (in_table table chains)

    abbrev newest_database : Database
    newest_database = changed (with_all_tables state.past) (seen state.past w (commits state.past))

    pub found_newest : (which : ℕ) (passes : List Value → Bool) (rows : List FoundRow) → AreFound schema which newest_rows passes rows → RiseByKey rows
        → map (λ (found : FoundRow). found.row) rows ≡ filter passes (rows_of table newest_database)
    found_newest =
        found_are schema table newest_rows newest_database (newest_shows chains state agrees table w alone)
        (homes_of schema kept pairs chains table sights.Newest clustered)
