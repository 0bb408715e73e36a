-- A database is given by the rows of its tables, one table after another.
use Rattle.std.proofs.Common.{◌≡◌, ◌∙◌, ap, sym, subst, refl, ℕ, zero, suc, ◌+◌, ◌<◌, ◌≤◌, Bool, List, [], ◌∷◌, ◌++◌, map, length, get_or, take, true, false}
use Rattle.std.proofs.Common.{Some, ⊎_elim, T, arith, length-append, append_assoc, append-nil}
use Rattle.std.specs.Prelude.{reverse, filter, ◌==◌, ◌&&◌, nat_lt, slice_get}
use Rattle.std.specs.Ordering.{is_lt, ordering_then}
use Rattle.std.specs.declared.cmp.Ordering.TheVariants.{Greater}
use Rattle.std.specs.Cmp.{nat_cmp_is}
use Rattle.std.proofs.lemmas.Bool.Decides.{eqb_tells, leb_tells, nat_tests}
use Rattle.std.proofs.lemmas.List.{take_more, take_all, length-take, reverse-append}
use Rattle.std.specs.FinMap.{entries, entries_sorted, from_entries, insert, is_sorted, same_entries_map}
use Rattle.std.specs.FinMap.Entries.{below_all}
use Rattle.inno_types.specs.declared.value.Value.{Value}
use Rattle.inno_types.specs.declared.value.Schema.{Schema}
use Rattle.inno_db.specs.declared.limits.TheConstants.{MOST_TABLES}
use Rattle.inno_db.specs.Database.{Database, Place, place_cmp, value_cmp, key_of, key_in, rows_of, placed, all_placed, database_of, IsInOrder}
use Rattle.inno_db.proofs.Keys.{key_in-at}
use Rattle.inno_db.specs.Keyed.{IsKeyed, AreAtTheirKeys}
use Rattle.inno_db.proofs.Tables.{entries-from_rising}
use Rattle.inno_db.specs.Changes.{apply_one}
use Rattle.inno_db.specs.declared.change.Change.{Change}
use Rattle.inno_db.specs.declared.change.Change.TheVariants.{Create, Put}
use Rattle.inno_model.specs.Past.{changed}
use Rattle.sql_history.proofs.Pasts.{changed_append}
use Rattle.run_outcome.specs.Tables.{tables_below, puts_below}

abbrev Entry : Type 0
Entry = Place × List Value

-- the entries of a table, and those of the tables before it
abbrev at : ℕ → List Entry → List Entry
at n es = filter (λ (e : Entry). e.0.0 == n) es

abbrev below : ℕ → List Entry → List Entry
below n es = filter (λ (e : Entry). nat_lt e.0.0 n) es

told : (b : Bool) → T b → b ≡ true
told true h = refl
told false h = absurd h

first_of : (a b : Bool) → (a && b) ≡ true → (a ≡ true) × (b ≡ true)
first_of true b h = (refl, h)
first_of false b h = cc

not_above : (x y : Place) → is_lt (place_cmp x y) ≡ true → x.0 ≤ y.0
not_above x y h = ⊎_elim
    (λ le. le.1)
    (λ less. absurd (none (sym (ap (λ o. is_lt (ordering_then o (value_cmp x.1 y.1))) (sym (nat_cmp_is x.0 y.0 Greater less.1))) ∙ h)))
    (leb_tells x.0 y.0)
  where
    none : false ≡ true → ⊥
    none e = cc

-- behind an entry of a table none is of an earlier one
none_below : (n : ℕ) (x : Place) (es : List Entry) → n ≤ x.0 → below_all place_cmp x es ≡ true → below n es ≡ []
none_below n x [] le h = refl
none_below n x (e ∷ es) le h =
    let both = first_of (is_lt (place_cmp x e.0)) (below_all place_cmp x es) h in
    let not_less : n ≤ e.0.0 = omega (arith, not_above x e.0 both.0, le) in
    grind (arith, nat_tests, not_less, none_below n x es le both.1)

-- the entries of the tables up to one are those before it and then its own
below_more : (n : ℕ) (es : List Entry) → is_sorted place_cmp es ≡ true → below (n + 1) es ≡ below n es ++ at n es
below_more n [] h = refl
below_more n (e ∷ es) h =
    let both = first_of (below_all place_cmp e.0 es) (is_sorted place_cmp es) h in
    let rest = below_more n es both.1 in
    let none : n ≤ e.0.0 → below n es ≡ [] = λ le. none_below n e.0 es le both.0 in
    grind (arith, nat_tests, rest, none)

-- all entries are of the tables that are there
below_all_tables : (schemas : List Schema) (es : List Entry) → AreAtTheirKeys schemas es → below (length schemas) es ≡ es
below_all_tables schemas [] keyed = refl
below_all_tables schemas (e ∷ es) keyed =
    let there : e.0.0 < length schemas = keyed.0.0 in
    grind (arith, nat_tests, there, below_all_tables schemas es keyed.1)

-- the rows of a table stand at its entries
placed_rows : (schemas : List Schema) (n : ℕ) (schema : Schema) (es : List Entry) → slice_get schemas n ≡ Some schema → AreAtTheirKeys schemas es
    → placed n schema (map (λ (e : Entry). e.1) (at n es)) ≡ at n es
placed_rows schemas n schema [] is keyed = refl
placed_rows schemas n schema (e ∷ es) is keyed =
    let rest = placed_rows schemas n schema es is keyed.1 in
    ⊎_elim
    (λ here. rw here.0 (
    let key : e.0.1 ≡ key_of schema e.1 = keyed.0.1 ∙ ap (λ t. key_in schemas t e.1) here.1 ∙ key_in-at schemas n schema e.1 is in
    let first : ((n, key_of schema e.1), e.1) ≡ e = (λ i. ((sym here.1 i, sym key i), e.1)) in
    ap (λ (f : Entry). f ∷ placed n schema (map (λ (e : Entry). e.1) (at n es))) first ∙ ap (λ fs. e ∷ fs) rest))
    (λ there. rw there.0 rest)
    (eqb_tells e.0.0 n)

all_placed_more : (n : ℕ) (schemas : List Schema) (tables : List (List (List Value))) (schema : Schema) (rows : List (List Value))
    → length tables ≡ length schemas
    → all_placed n (schemas ++ schema ∷ []) (tables ++ rows ∷ []) ≡ all_placed n schemas tables ++ placed (n + length schemas) schema rows
all_placed_more n [] [] schema rows many = let here : n ≡ n + 0 = omega arith in append-nil (placed n schema rows) ∙ ap (λ m. placed m schema rows) here
all_placed_more n [] (r ∷ tables) schema rows many = absurd (omega arith)
all_placed_more n (s ∷ schemas) [] schema rows many = absurd (omega arith)
all_placed_more n (s ∷ schemas) (r ∷ tables) schema rows many =
    let fewer : length tables ≡ length schemas = omega arith in
    let here : n + 1 + length schemas ≡ n + length (s ∷ schemas) = omega arith in
    ap (λ es. placed n s r ++ es) (all_placed_more (n + 1) schemas tables schema rows fewer)
    ∙ sym (append_assoc (placed n s r) (all_placed (n + 1) schemas tables) (placed (n + 1 + length schemas) schema rows))
    ∙ ap (λ m. (placed n s r ++ all_placed (n + 1) schemas tables) ++ placed m schema rows) here

pub as_many : (n : ℕ) (db : Database) → length (tables_below n db) ≡ n
as_many zero db = refl
as_many (suc n) db = omega (arith, length-append (tables_below n db) (rows_of n db ∷ []), as_many n db)

slice_get_at : (schemas : List Schema) (n : ℕ) (d : Schema) → n < length schemas → slice_get schemas n ≡ Some (get_or schemas n d)
slice_get_at [] n d h = absurd (omega arith)
slice_get_at (s ∷ schemas) zero d h = refl
slice_get_at (s ∷ schemas) (suc n) d h = let less : n < length schemas = omega arith in slice_get_at schemas n d less

-- a table more
placed_more : (db : Database) (d : Schema) (n : ℕ) → n < length db.schemas
    → all_placed 0 (take (suc n) db.schemas) (tables_below (suc n) db)
    ≡ all_placed 0 (take n db.schemas) (tables_below n db) ++ placed n (get_or db.schemas n d) (rows_of n db)
placed_more db d n less =
    let schema = get_or db.schemas n d in
    let taken : length (take n db.schemas) ≡ n = omega (arith, length-take n db.schemas) in
    let from : 0 + length (take n db.schemas) ≡ n = omega (arith, taken) in
    let many : length (tables_below n db) ≡ length (take n db.schemas) = as_many n db ∙ sym taken in
    let one : n + 1 ≡ suc n = omega arith in
    subst (λ m. all_placed 0 (take m db.schemas) (tables_below (suc n) db)
    ≡ all_placed 0 (take n db.schemas) (tables_below n db) ++ placed n schema (rows_of n db)) one
    (ap (λ ss. all_placed 0 ss (tables_below (suc n) db)) (take_more db.schemas n d less)
    ∙ all_placed_more 0 (take n db.schemas) (tables_below n db) schema (rows_of n db) many
    ∙ ap (λ m. all_placed 0 (take n db.schemas) (tables_below n db) ++ placed m schema (rows_of n db)) from)

-- ---- the changes that make a database

-- these tables with these rows
abbrev with_rows : List Schema → List Entry → Database
with_rows schemas es = record { schemas = schemas; rows = from_entries es }

created : (db : Database) (schemas : List Schema) → changed db (reverse (map Create schemas)) ≡ record { schemas = db.schemas ++ schemas; rows = db.rows }
created db [] = λ i. record { schemas = sym (append-nil db.schemas) i; rows = db.rows }
created db (s ∷ schemas) =
    ap (changed db) (reverse-append (Create s ∷ []) (map Create schemas))
    ∙ changed_append db (reverse (map Create schemas)) (Create s ∷ [])
    ∙ created (apply_one db (Create s)) schemas
    ∙ (λ i. record { schemas = append_assoc db.schemas (s ∷ []) schemas i; rows = db.rows })

rows_put : (schemas : List Schema) (n : ℕ) (schema : Schema) (rows : List (List Value)) (rest : List Entry) → slice_get schemas n ≡ Some schema
    → changed (with_rows schemas rest) (map (Put n) rows) ≡ with_rows schemas (placed n schema rows ++ rest)
rows_put schemas n schema [] rest is = refl
rows_put schemas n schema (r ∷ rows) rest is =
    ap (λ (d : Database). apply_one d (Put n r)) (rows_put schemas n schema rows rest is)
    ∙ (λ i. record { schemas = schemas; rows = insert (from_entries (placed n schema rows ++ rest)) (n, key_in-at schemas n schema r is i) r })

tables_put : (db : Database) (d : Schema) (n : ℕ) → n ≤ length db.schemas → (rest : List Entry)
    → changed (with_rows db.schemas rest) (puts_below n db) ≡ with_rows db.schemas (all_placed 0 (take n db.schemas) (tables_below n db) ++ rest)
tables_put db d zero le rest = refl
tables_put db d (suc n) le rest =
    let less : n < length db.schemas = omega arith in
    let fewer : n ≤ length db.schemas = omega arith in
    let schema = get_or db.schemas n d in
    let here = placed n schema (rows_of n db) in
    let before = all_placed 0 (take n db.schemas) (tables_below n db) in
    changed_append (with_rows db.schemas rest) (puts_below n db) (map (Put n) (rows_of n db))
    ∙ ap (λ (x : Database). changed x (puts_below n db)) (rows_put db.schemas n schema (rows_of n db) rest (slice_get_at db.schemas n d less))
    ∙ tables_put db d n fewer (here ++ rest)
    ∙ ap (with_rows db.schemas) (sym (append_assoc before here rest) ∙ ap (λ es. es ++ rest) (sym (placed_more db d n less)))

-- the tables and then the rows of a database make it anew
pub remade : (db : Database)
    → changed (changed (database_of [] []) (reverse (map Create db.schemas))) (puts_below (length db.schemas) db)
    ≡ database_of db.schemas (tables_below (length db.schemas) db)
remade db =
    let le : length db.schemas ≤ length db.schemas = omega arith in
    let all = all_placed 0 db.schemas (tables_below (length db.schemas) db) in
    ap (λ (x : Database). changed x (puts_below (length db.schemas) db)) (created (database_of [] []) db.schemas)
    ∙ tables_put db (record { name = []; columns = []; primary = 0; keys = [] }) (length db.schemas) le []
    ∙ ap (λ ss. with_rows db.schemas (all_placed 0 ss (tables_below (length db.schemas) db) ++ [])) (take_all (length db.schemas) db.schemas le)
    ∙ ap (with_rows db.schemas) (append-nil all)

module _ (db : Database) (keyed : IsKeyed db) where
  placed_below : (d : Schema) (n : ℕ) → n ≤ length db.schemas → all_placed 0 (take n db.schemas) (tables_below n db) ≡ below n (entries db.rows)
  placed_below d zero le = sym (none_less (entries db.rows))
    where
      none_less : (es : List Entry) → below 0 es ≡ []
      none_less [] = refl
      none_less (e ∷ es) = grind (arith, nat_tests, none_less es)
  placed_below d (suc n) le =
      let less : n < length db.schemas = omega arith in
      let fewer : n ≤ length db.schemas = omega arith in
      let schema = get_or db.schemas n d in
      let one : n + 1 ≡ suc n = omega arith in
      placed_more db d n less
      ∙ ap (λ fs. fs ++ placed n schema (rows_of n db)) (placed_below d n fewer)
      ∙ ap (λ fs. below n (entries db.rows) ++ fs) (placed_rows db.schemas n schema (entries db.rows) (slice_get_at db.schemas n d less) keyed)
      ∙ sym (below_more n (entries db.rows) (told (is_sorted place_cmp (entries db.rows)) (entries_sorted db.rows)))
      ∙ ap (λ m. below m (entries db.rows)) one

  placed_all : all_placed 0 db.schemas (tables_below (length db.schemas) db) ≡ entries db.rows
  placed_all =
      let le : length db.schemas ≤ length db.schemas = omega arith in
      ap (λ schemas. all_placed 0 schemas (tables_below (length db.schemas) db)) (sym (take_all (length db.schemas) db.schemas le))
      ∙ placed_below (record { name = []; columns = []; primary = 0; keys = [] }) (length db.schemas) le
      ∙ below_all_tables db.schemas (entries db.rows) keyed

  pub in_order : length db.schemas ≤ MOST_TABLES → IsInOrder db.schemas (tables_below (length db.schemas) db)
  in_order few = record {
    as_many = as_many (length db.schemas) db;
    few = few;
    rising = ap (is_sorted place_cmp) placed_all ∙ told (is_sorted place_cmp (entries db.rows)) (entries_sorted db.rows);
  }

  pub same_db : length db.schemas ≤ MOST_TABLES → database_of db.schemas (tables_below (length db.schemas) db) ≡ db
  same_db few =
      let rows = same_entries_map (from_entries (all_placed 0 db.schemas (tables_below (length db.schemas) db))) db.rows
      (entries-from_rising (all_placed 0 db.schemas (tables_below (length db.schemas) db)) (in_order few).rising ∙ placed_all) in
      λ i. record { schemas = db.schemas; rows = rows i }

-- a database to which first its tables came and then its rows
pub made_anew : (db empty tables full : Database) (schemas : List Schema) (rows : List (List (List Value))) (creations puts : List Change)
    → empty ≡ database_of schemas rows → schemas ≡ [] → rows ≡ [] → tables ≡ changed empty creations → creations ≡ reverse (map Create db.schemas)
    → full ≡ changed tables puts → puts ≡ puts_below (length db.schemas) db → length db.schemas ≤ MOST_TABLES → IsKeyed db → full ≡ db
made_anew db empty tables full schemas rows creations puts is none no_rows creating created_are all puts_are few keyed =
    let begun : empty ≡ database_of [] [] = is ∙ ap (λ ss. database_of ss rows) none ∙ ap (database_of []) no_rows in
    let made : tables ≡ changed (database_of [] []) (reverse (map Create db.schemas)) =
    creating ∙ ap (λ (d : Database). changed d creations) begun ∙ ap (changed (database_of [] [])) created_are in
    all ∙ ap (λ (d : Database). changed d puts) made
    ∙ ap (changed (changed (database_of [] []) (reverse (map Create db.schemas)))) puts_are
    ∙ remade db ∙ same_db db keyed few
