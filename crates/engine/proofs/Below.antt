-- The rows of the tables before a table, at their places.
use Rattle.std.proofs.Common.{◌≡◌, ◌∙◌, ap, sym, refl, ℕ, ◌+◌, ◌<◌, ◌≤◌, Bool, true, false, T, List, [], ◌∷◌, ◌++◌, map, length, Some, ⊎_elim, arith}
use Rattle.std.specs.Prelude.{IsTrue, filter, ◌==◌, ◌&&◌, nat_lt, slice_get}
use Rattle.std.specs.Ordering.{is_lt, ordering_then}
use Rattle.std.specs.declared.cmp.Ordering.TheVariants.{Greater}
use Rattle.std.specs.Cmp.{nat_cmp_is}
use Rattle.std.proofs.lemmas.Bool.Decides.{eqb_tells, leb_tells, nat_tests}
use Rattle.std.specs.FinMap.{entries, entries_sorted, is_sorted, same_entries_map}
use Rattle.std.specs.FinMap.Entries.{below_all, is_sorted-where_key}
use Rattle.inno_types.specs.declared.value.Value.{Value}
use Rattle.inno_types.specs.declared.value.Schema.{Schema}
use Rattle.inno_db.specs.Database.{Database, Place, place_cmp, value_cmp, key_of, key_in, rows_of, placed}
use Rattle.inno_db.proofs.Keys.{key_in-at}
use Rattle.inno_db.specs.Keyed.{IsKeyed, AreAtTheirKeys}
use Rattle.engine.proofs.Last.{Entry}

abbrev at : ℕ → List Entry → List Entry
at n es = filter (λ (e : Entry). e.0.0 == n) es

abbrev pub below : ℕ → List Entry → List Entry
below n es = filter (λ (e : Entry). nat_lt e.0.0 n) es

told : (b : Bool) → T b → b ≡ true
told true h = refl
told false h = absurd h

first_of : (a b : Bool) → (a && b) ≡ true → (a ≡ true) × (b ≡ true)
first_of true b h = (refl, h)
first_of false b h = cc

not_above : (x y : Place) → is_lt (place_cmp x y) ≡ true → x.0 ≤ y.0
not_above x y h = ⊎_elim
    (λ le. le.1)
    (λ less. absurd (none (sym (ap (λ o. is_lt (ordering_then o (value_cmp x.1 y.1))) (sym (nat_cmp_is x.0 y.0 Greater less.1))) ∙ h)))
    (leb_tells x.0 y.0)
  where
    none : false ≡ true → ⊥
    none e = cc

-- behind a row of a table none is of an earlier one
none_below : (n : ℕ) (x : Place) (es : List Entry) → n ≤ x.0 → below_all place_cmp x es ≡ true → below n es ≡ []
none_below n x [] le h = refl
none_below n x (e ∷ es) le h =
    let both = first_of (is_lt (place_cmp x e.0)) (below_all place_cmp x es) h in
    let not_less : n ≤ e.0.0 = omega (arith, not_above x e.0 both.0, le) in
    grind (arith, nat_tests, not_less, none_below n x es le both.1)

-- the rows of the tables up to one are those before it and then its own
below_more : (n : ℕ) (es : List Entry) → is_sorted place_cmp es ≡ true → below (n + 1) es ≡ below n es ++ at n es
below_more n [] h = refl
below_more n (e ∷ es) h =
    let both = first_of (below_all place_cmp e.0 es) (is_sorted place_cmp es) h in
    let rest = below_more n es both.1 in
    let none : n ≤ e.0.0 → below n es ≡ [] = λ le. none_below n e.0 es le both.0 in
    grind (arith, nat_tests, rest, none)

-- before the first table there are none
pub below_none : (es : List Entry) → below 0 es ≡ []
below_none [] = refl
below_none (e ∷ es) = grind (arith, nat_tests, below_none es)

-- all rows are of the tables that are there
below_all_tables : (schemas : List Schema) (n : ℕ) (es : List Entry) → length schemas ≤ n → AreAtTheirKeys schemas es → below n es ≡ es
below_all_tables schemas n [] past keyed = refl
below_all_tables schemas n (e ∷ es) past keyed =
    let there : e.0.0 < n = omega (arith, keyed.0.0, past) in
    grind (arith, nat_tests, there, below_all_tables schemas n es past keyed.1)

-- the rows of a table stand at their keys
placed_rows : (schemas : List Schema) (n : ℕ) (schema : Schema) (es : List Entry) → slice_get schemas n ≡ Some schema → AreAtTheirKeys schemas es
    → placed n schema (map (λ (e : Entry). e.1) (at n es)) ≡ at n es
placed_rows schemas n schema [] is keyed = refl
placed_rows schemas n schema (e ∷ es) is keyed =
    let rest = placed_rows schemas n schema es is keyed.1 in
    ⊎_elim
    (λ here. rw here.0 (
    let key : e.0.1 ≡ key_of schema e.1 = keyed.0.1 ∙ ap (λ t. key_in schemas t e.1) here.1 ∙ key_in-at schemas n schema e.1 is in
    let first : ((n, key_of schema e.1), e.1) ≡ e = (λ i. ((sym here.1 i, sym key i), e.1)) in
    ap (λ (f : Entry). f ∷ placed n schema (map (λ (e : Entry). e.1) (at n es))) first ∙ ap (λ fs. e ∷ fs) rest))
    (λ there. rw there.0 rest)
    (eqb_tells e.0.0 n)

module _ (db : Database) (keyed : IsKeyed db) where
  module _ (n : ℕ) (schema : Schema) (before : List Entry) (rows : List (List Value)) (there : slice_get db.schemas n ≡ Some schema)
      (so_far : before ≡ below n (entries db.rows)) (rows_are : rows ≡ rows_of n db) where
    -- the rows of one table more
    pub table_more : before ++ placed n schema rows ≡ below (n + 1) (entries db.rows)
    table_more =
        ap (λ (es : List Entry). es ++ placed n schema rows) so_far
        ∙ ap (λ (rs : List (List Value)). below n (entries db.rows) ++ placed n schema rs) rows_are
        ∙ ap (λ (es : List Entry). below n (entries db.rows) ++ es) (placed_rows db.schemas n schema (entries db.rows) there keyed)
        ∙ sym (below_more n (entries db.rows) (told (is_sorted place_cmp (entries db.rows)) (entries_sorted db.rows)))

    pub more_rise : IsTrue (is_sorted place_cmp (before ++ placed n schema rows))
    more_rise =
        ap (is_sorted place_cmp) table_more
        ∙ told (is_sorted place_cmp (below (n + 1) (entries db.rows)))
        (is_sorted-where_key place_cmp (λ (x : Place). nat_lt x.0 (n + 1)) (entries db.rows) (entries_sorted db.rows))

  -- with the rows of all tables the database is whole
  pub whole : (n : ℕ) (laid : Database) → length db.schemas ≤ n → laid.schemas ≡ db.schemas → entries laid.rows ≡ below n (entries db.rows) → laid ≡ db
  whole n laid past schemas rows =
      let same : laid.rows ≡ db.rows =
      same_entries_map laid.rows db.rows (rows ∙ below_all_tables db.schemas n (entries db.rows) past keyed) in
      λ i. record { schemas = schemas i; rows = same i }
