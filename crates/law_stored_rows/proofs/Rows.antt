-- The rows of a database that fits its tables.
use Rattle.std.proofs.Common.{◌≡◌, ℕ, Bool, true, false, cond, T, List, [], ◌∷◌, get_or, Option, Some, None, refl, sym, ap, subst, ◌∙◌, Ordering}
use Rattle.std.specs.Prelude.{filter, ◌==◌, ◌&&◌, slice_get, IsSomeAnd, All}
use Rattle.std.specs.List.{AllByRecursion}
use Rattle.std.specs.Ordering.{eq_by_cmp, is_eq, is_lt}
use Rattle.std.specs.FinMap.{entries, entries_sorted, find, get, is_sorted, get-entries}
use Rattle.std.specs.FinMap.Entries.{below_all}
use Rattle.std.proofs.lemmas.Cmp.{tied_itself}
use Rattle.std.proofs.lemmas.Bool.{eqb-true, false_from_ne_true}
use Rattle.std.proofs.lemmas.List.Elements.{All-from_recursion, recursion_from_All, All-weaker, All-map, All-filter, filter_passes}
use Rattle.std.proofs.lemmas.Option.{slice_get_within}
use Rattle.inno_types.specs.{declared.value.Value.Value, declared.value.Schema.Schema}
use Rattle.inno_db.specs.{Database.Database, Database.Place, Database.place_cmp, Database.rows_of, Order.place_cmp_total}
use Rattle.inno_db.proofs.{Tables.place_cmp-IsAntisymmetric, Keys.key_in-at}
use Rattle.inno_db.specs.Keyed.{IsKeyed, AreAtTheirKeys}
use Rattle.law_db.specs.Fitting.{AreRowsOf}
use Rattle.law_stored_rows.specs.Fitting.{FitsTable, AreFitting}
use Rattle.law_stored_rows.proofs.{FittingValues.fits_row, Values.eq_is}

-- ---- where the tests of tables and places lead

-- a table that is there has this one schema
pub at_schema : (P : Schema → Type 0) (found : Option Schema) (schema : Schema) → found ≡ Some schema → IsSomeAnd found P → P schema
at_schema P found schema is h = subst (λ (o : Option Schema). IsSomeAnd o P) is h

pub schema_at : (P : Schema → Type 0) (found : Option Schema) → IsSomeAnd found P → (schema : Schema) × (found ≡ Some schema) × P schema
schema_at P None h = absurd h
schema_at P (Some schema) h = (schema, refl, h)

-- ---- each entry is found at its place

parts : (a b : Bool) → T (a && b) → T a × T b
parts true b h = (tt, h)
parts false b h = absurd h

-- a place above another is not that one
apart : (low high : Place) → T (is_lt (place_cmp low high)) → eq_by_cmp place_cmp high low ≡ false
apart low high below = false_from_ne_true (eq_by_cmp place_cmp high low) (λ e.
    let same = place_cmp-IsAntisymmetric high low (eq_is (place_cmp high low) e) in
    subst (λ (o : Ordering). T (is_lt o)) (ap (place_cmp low) same ∙ tied_itself place_cmp_total low) below)

abbrev pub IsFoundIn : List (Place × List Value) → Place × List Value → Type 0
IsFoundIn es e = find place_cmp e.0 es ≡ Some e.1

found_behind : (e : Place × List Value) (es fs : List (Place × List Value)) → T (below_all place_cmp e.0 fs) → AllByRecursion (IsFoundIn es) fs
    → AllByRecursion (IsFoundIn (e ∷ es)) fs
found_behind e es [] below found = tt
found_behind e es (f ∷ fs) below found =
    let below_each = parts (is_lt (place_cmp e.0 f.0)) (below_all place_cmp e.0 fs) below in
    (ap (λ b. cond b (Some e.1) (find place_cmp f.0 es)) (apart e.0 f.0 below_each.0) ∙ found.0, found_behind e es fs below_each.1 found.1)

pub all_found : (es : List (Place × List Value)) → T (is_sorted place_cmp es) → AllByRecursion (IsFoundIn es) es
all_found [] rising = tt
all_found (e ∷ es) rising =
    let both = parts (below_all place_cmp e.0 es) (is_sorted place_cmp es) rising in
    (ap (λ o. cond (is_eq o) (Some e.1) (find place_cmp e.0 es)) (tied_itself place_cmp_total e.0), found_behind e es es both.0 (all_found es both.1))

-- ---- what holds of each row that is there

abbrev IsEntry : Database → Place × List Value → Type 0
IsEntry db e = get db.rows e.0 ≡ Some e.1

entries_there : (db : Database) → All (IsEntry db) (entries db.rows)
entries_there db =
    let es = entries db.rows in
    All-weaker (IsFoundIn es) (IsEntry db) (λ e found. get-entries db.rows e.0 ∙ found) es
    (All-from_recursion (IsFoundIn es) es (all_found es (entries_sorted db.rows)))

-- it holds of the rows of a table
pub rows_have : (db : Database) (n : ℕ) (P : List Value → Type 0)
    → ((place : Place) (row : List Value) → get db.rows place ≡ Some row → place.0 ≡ n → P row) → All P (rows_of n db)
rows_have db n P each =
    let of_table : Place × List Value → Bool = λ e. e.0.0 == n in
    let es = filter of_table (entries db.rows) in
    let there = All-filter of_table (IsEntry db) (entries db.rows) (entries_there db) in
    All-map P (λ (e : Place × List Value). e.1) es (λ k d below. let e = get_or es k d in
    each e.0 e.1 (there k d below) (eqb-true e.0.0 n (filter_passes of_table (entries db.rows) k d below)))

-- ---- so each entry of a database that fits stands well

module _ (db : Database) (fitting : AreFitting db) where
  at_keys : (es : List (Place × List Value)) → AllByRecursion (IsEntry db) es → AreAtTheirKeys db.schemas es
  at_keys [] all = tt
  at_keys (e ∷ es) all =
      let found = schema_at _ (slice_get db.schemas e.0.0) (fitting.rows e.0 e.1 all.0) in
      let fits = found.2 in
      ((slice_get_within db.schemas e.0.0 found.0 found.1, fits.1 ∙ sym (key_in-at db.schemas e.0.0 found.0 e.1 found.1)), at_keys es all.1)

  -- each row stands at its key
  pub AreFitting-IsKeyed : IsKeyed db
  AreFitting-IsKeyed = at_keys (entries db.rows) (recursion_from_All (IsEntry db) (entries db.rows) (entries_there db))

  pub rows_of-FitsTable : (n : ℕ) (schema : Schema) → slice_get db.schemas n ≡ Some schema → All (FitsTable schema) (rows_of n db)
  rows_of-FitsTable n schema is = rows_have db n (FitsTable schema) (λ place row there here.
      let fits = at_schema _ (slice_get db.schemas place.0) schema (ap (slice_get db.schemas) here ∙ is) (fitting.rows place row there) in fits.0)

-- the same, by the words of the laws on outcomes
by_type : (schema : Schema) (rows : List (List Value)) → AllByRecursion (FitsTable schema) rows → AreRowsOf schema.columns rows
by_type schema [] all = tt
by_type schema (row ∷ rows) all = let fits = all.0 in (fits_row schema.columns row fits.columns, by_type schema rows all.1)

pub rows_by_type : (db : Database) → AreFitting db → (n : ℕ) (schema : Schema) → slice_get db.schemas n ≡ Some schema → AreRowsOf schema.columns (rows_of n db)
rows_by_type db fitting n schema is =
    by_type schema (rows_of n db) (recursion_from_All (FitsTable schema) (rows_of n db) (rows_of-FitsTable db fitting n schema is))
