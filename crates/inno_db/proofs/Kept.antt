-- A row that is put into the list of its table, or removed from it, is so in the map.
use Rattle.std.proofs.Common.{◌≡◌, ◌≢◌, ◌∙◌, ap, sym, subst, refl, ℕ, zero, suc, ◌+◌, ◌<◌, Bool, List, [], ◌∷◌, ◌++◌, length, get_or, set, true, false, not, cond, Some, arith, T, length-append}
use Rattle.std.specs.Prelude.{slice_get, IsTrue}
use Rattle.std.specs.Ordering.{eq_by_cmp, is_eq, ordering_then}
use Rattle.std.specs.declared.cmp.Ordering.TheVariants.{Less, Equal, Greater}
use Rattle.std.specs.Cmp.{nat_cmp_total, nat_cmp_is}
use Rattle.std.proofs.lemmas.Cmp.{tied_itself}
use Rattle.std.proofs.lemmas.List.Elements.{filter-append}
use Rattle.std.proofs.Math.ListN.{length-set}
use Rattle.std.specs.FinMap.{put, is_sorted, insert, remove, from_entries, entries-insert, same_entries_map}
use Rattle.std.specs.FinMap.Entries.{by_order, where_key, is_sorted-put, is_sorted-where_key}
use Rattle.inno_types.specs.declared.value.Value.{Value}
use Rattle.inno_types.specs.declared.value.Schema.{Schema}
use Rattle.inno_db.specs.declared.change.Change.{Change}
use Rattle.inno_db.specs.declared.change.Change.TheVariants.{Create, Put, Remove}
use Rattle.inno_db.specs.declared.limits.TheConstants.{MOST_TABLES}
use Rattle.inno_db.specs.Database.{Database, Place, place_cmp, value_cmp, key_of, key_in, placed, all_placed, database_of, IsInOrder}
use Rattle.inno_db.specs.Order.{place_cmp_total}
use Rattle.inno_db.specs.Changes.{apply_one}
use Rattle.inno_db.specs.Keeping.{with_row, without_key, tables_with, tables_without}
use Rattle.inno_db.proofs.Tables.{value_cmp-IsAntisymmetric, entries-from_rising}
use Rattle.inno_db.proofs.Applying.{apart_of, entries-remove}
use Rattle.inno_db.proofs.Keys.{key_in-at}

same_some : {A : Type 0} {x y : A} → Some x ≡ Some y → x ≡ y
same_some e = cc

below : (n m : ℕ) (a b : Value) → n < m → place_cmp (n, a) (m, b) ≡ Less
below n m a b h = ap (λ o. ordering_then o (value_cmp a b)) (sym (nat_cmp_is n m Less h))

above : (n m : ℕ) (a b : Value) → n < m → place_cmp (m, a) (n, b) ≡ Greater
above n m a b h = ap (λ o. ordering_then o (value_cmp a b)) (sym (nat_cmp_is m n Greater h))

beside : (n : ℕ) (a b : Value) → place_cmp (n, a) (n, b) ≡ value_cmp a b
beside n a b = ap (λ o. ordering_then o (value_cmp a b)) (tied_itself nat_cmp_total n)

-- a row of an earlier table goes before all rows of later ones
put-before : (n m : ℕ) (key : Value) (row : List Value) (schemas : List Schema) (tables : List (List (List Value))) → n < m → put place_cmp (n, key) row (all_placed m schemas tables) ≡ ((n, key), row) ∷ all_placed m schemas tables
put-before n m key row [] tables h = refl
put-before n m key row (s ∷ schemas) [] h = refl
put-before n m key row (s ∷ schemas) ([] ∷ tables) h = let later : n < m + 1 = omega arith in put-before n (m + 1) key row schemas tables later
put-before n m key row (s ∷ schemas) ((r ∷ rows) ∷ tables) h =
    let rest = placed m s rows ++ all_placed (m + 1) schemas tables in
    ap (λ o. by_order o (((n, key), row) ∷ ((m, key_of s r), r) ∷ rest) (((m, key_of s r), row) ∷ rest) (((m, key_of s r), r) ∷ put place_cmp (n, key) row rest)) (below n m key (key_of s r) h)

-- and behind those of an earlier one
put-behind : (n m : ℕ) (key : Value) (row : List Value) (s : Schema) (rows : List (List Value)) (rest : List (Place × List Value)) → n < m → put place_cmp (m, key) row (placed n s rows ++ rest) ≡ placed n s rows ++ put place_cmp (m, key) row rest
put-behind n m key row s [] rest h = refl
put-behind n m key row s (r ∷ rows) rest h =
    ap (λ o. by_order o (((m, key), row) ∷ ((n, key_of s r), r) ∷ (placed n s rows ++ rest)) (((n, key_of s r), row) ∷ (placed n s rows ++ rest)) (((n, key_of s r), r) ∷ put place_cmp (m, key) row (placed n s rows ++ rest))) (above n m key (key_of s r) h)
    ∙ ap (λ es. ((n, key_of s r), r) ∷ es) (put-behind n m key row s rows rest h)

-- among the rows of its table it goes where its key does
put-within : (n : ℕ) (row : List Value) (s : Schema) (rows : List (List Value)) (schemas : List Schema) (tables : List (List (List Value))) → put place_cmp (n, key_of s row) row (placed n s rows ++ all_placed (n + 1) schemas tables) ≡ placed n s (with_row s row rows) ++ all_placed (n + 1) schemas tables
put-within n row s [] schemas tables = let later : n < n + 1 = omega arith in put-before n (n + 1) (key_of s row) row schemas tables later
put-within n row s (r ∷ rows) schemas tables =
    let rest = all_placed (n + 1) schemas tables in
    let key = key_of s row in
    ap (λ o. by_order o (((n, key), row) ∷ ((n, key_of s r), r) ∷ (placed n s rows ++ rest)) (((n, key_of s r), row) ∷ (placed n s rows ++ rest)) (((n, key_of s r), r) ∷ put place_cmp (n, key) row (placed n s rows ++ rest))) (beside n key (key_of s r))
    ∙ elim (value_cmp key (key_of s r)) as (λ o. value_cmp key (key_of s r) ≡ o → by_order o (((n, key), row) ∷ ((n, key_of s r), r) ∷ (placed n s rows ++ rest)) (((n, key_of s r), row) ∷ (placed n s rows ++ rest)) (((n, key_of s r), r) ∷ put place_cmp (n, key) row (placed n s rows ++ rest))
    ≡ placed n s (by_order o (row ∷ r ∷ rows) (row ∷ rows) (r ∷ with_row s row rows)) ++ rest) [
      | Less ↦ λ is. refl
      | Equal ↦ λ is. ap (λ (k : Value). ((n, k), row) ∷ (placed n s rows ++ rest)) (sym (value_cmp-IsAntisymmetric key (key_of s r) is))
      | Greater ↦ λ is. ap (λ es. ((n, key_of s r), r) ∷ es) (put-within n row s rows schemas tables)
    ] refl

all_placed-put : (n k : ℕ) (schema : Schema) (row : List Value) (schemas : List Schema) (tables : List (List (List Value))) → slice_get schemas k ≡ Some schema → length tables ≡ length schemas
    → put place_cmp (n + k, key_of schema row) row (all_placed n schemas tables) ≡ all_placed n schemas (set tables k (with_row schema row (get_or tables k [])))
all_placed-put n k schema row [] tables is many = cc
all_placed-put n k schema row (s ∷ schemas) [] is many = absurd (omega arith)
all_placed-put n zero schema row (s ∷ schemas) (rows ∷ tables) is many =
    let here : n + 0 ≡ n = omega arith in
    ap (λ m. put place_cmp (m, key_of schema row) row (placed n s rows ++ all_placed (n + 1) schemas tables)) here
    ∙ ap (λ (c : Schema). put place_cmp (n, key_of c row) row (placed n s rows ++ all_placed (n + 1) schemas tables)) (sym (same_some is))
    ∙ put-within n row s rows schemas tables
    ∙ ap (λ (c : Schema). placed n s (with_row c row rows) ++ all_placed (n + 1) schemas tables) (same_some is)
all_placed-put n (suc k) schema row (s ∷ schemas) (rows ∷ tables) is many =
    let later : n < n + suc k = omega arith in
    let next : n + suc k ≡ n + 1 + k = omega arith in
    let fewer : length tables ≡ length schemas = omega arith in
    put-behind n (n + suc k) (key_of schema row) row s rows (all_placed (n + 1) schemas tables) later
    ∙ ap (λ m. placed n s rows ++ put place_cmp (m, key_of schema row) row (all_placed (n + 1) schemas tables)) next
    ∙ ap (λ es. placed n s rows ++ es) (all_placed-put (n + 1) k schema row schemas tables is fewer)

-- the rows that are left of a table, and those of others
abbrev left_by : Place → Place → Bool
left_by place x = not (eq_by_cmp place_cmp place x)

where-other : (n m : ℕ) (key : Value) (s : Schema) (rows : List (List Value)) → n ≢ m → where_key place_cmp (left_by (n, key)) (placed m s rows) ≡ placed m s rows
where-other n m key s [] apart = refl
where-other n m key s (r ∷ rows) apart =
    ap (λ b. cond (not b) (((m, key_of s r), r) ∷ where_key place_cmp (left_by (n, key)) (placed m s rows)) (where_key place_cmp (left_by (n, key)) (placed m s rows))) (apart_of n m key (key_of s r) apart)
    ∙ ap (λ es. ((m, key_of s r), r) ∷ es) (where-other n m key s rows apart)

where-same : (n : ℕ) (key : Value) (s : Schema) (rows : List (List Value)) → where_key place_cmp (left_by (n, key)) (placed n s rows) ≡ placed n s (without_key s key rows)
where-same n key s [] = refl
where-same n key s (r ∷ rows) =
    let rest = where_key place_cmp (left_by (n, key)) (placed n s rows) in
    ap (λ o. cond (not (is_eq o)) (((n, key_of s r), r) ∷ rest) rest) (beside n key (key_of s r))
    ∙ ap (λ es. cond (not (is_eq (value_cmp key (key_of s r)))) (((n, key_of s r), r) ∷ es) es) (where-same n key s rows)
    ∙ elim (not (is_eq (value_cmp key (key_of s r)))) as (λ b. cond b (((n, key_of s r), r) ∷ placed n s (without_key s key rows)) (placed n s (without_key s key rows)) ≡ placed n s (cond b (r ∷ without_key s key rows) (without_key s key rows))) [ true ↦ refl | false ↦ refl ]

where-later : (n m : ℕ) (key : Value) (schemas : List Schema) (tables : List (List (List Value))) → n < m → where_key place_cmp (left_by (n, key)) (all_placed m schemas tables) ≡ all_placed m schemas tables
where-later n m key [] tables h = refl
where-later n m key (s ∷ schemas) [] h = refl
where-later n m key (s ∷ schemas) (rows ∷ tables) h =
    let apart : n ≢ m = omega arith in
    let later : n < m + 1 = omega arith in
    filter-append (λ (e : Place × List Value). left_by (n, key) e.0) (placed m s rows) (all_placed (m + 1) schemas tables)
    ∙ ap (λ es. es ++ where_key place_cmp (left_by (n, key)) (all_placed (m + 1) schemas tables)) (where-other n m key s rows apart)
    ∙ ap (λ es. placed m s rows ++ es) (where-later n (m + 1) key schemas tables later)

all_placed-without : (n k : ℕ) (schema : Schema) (key : Value) (schemas : List Schema) (tables : List (List (List Value))) → slice_get schemas k ≡ Some schema → length tables ≡ length schemas
    → where_key place_cmp (left_by (n + k, key)) (all_placed n schemas tables) ≡ all_placed n schemas (set tables k (without_key schema key (get_or tables k [])))
all_placed-without n k schema key [] tables is many = cc
all_placed-without n k schema key (s ∷ schemas) [] is many = absurd (omega arith)
all_placed-without n zero schema key (s ∷ schemas) (rows ∷ tables) is many =
    let here : n + 0 ≡ n = omega arith in
    let later : n < n + 1 = omega arith in
    ap (λ m. where_key place_cmp (left_by (m, key)) (placed n s rows ++ all_placed (n + 1) schemas tables)) here
    ∙ filter-append (λ (e : Place × List Value). left_by (n, key) e.0) (placed n s rows) (all_placed (n + 1) schemas tables)
    ∙ ap (λ es. es ++ where_key place_cmp (left_by (n, key)) (all_placed (n + 1) schemas tables)) (where-same n key s rows)
    ∙ ap (λ es. placed n s (without_key s key rows) ++ es) (where-later n (n + 1) key schemas tables later)
    ∙ ap (λ (c : Schema). placed n s (without_key c key rows) ++ all_placed (n + 1) schemas tables) (same_some is)
all_placed-without n (suc k) schema key (s ∷ schemas) (rows ∷ tables) is many =
    let apart : n + suc k ≢ n = omega arith in
    let next : n + suc k ≡ n + 1 + k = omega arith in
    let fewer : length tables ≡ length schemas = omega arith in
    filter-append (λ (e : Place × List Value). left_by (n + suc k, key) e.0) (placed n s rows) (all_placed (n + 1) schemas tables)
    ∙ ap (λ es. es ++ where_key place_cmp (left_by (n + suc k, key)) (all_placed (n + 1) schemas tables)) (where-other (n + suc k) n key s rows apart)
    ∙ ap (λ m. placed n s rows ++ where_key place_cmp (left_by (m, key)) (all_placed (n + 1) schemas tables)) next
    ∙ ap (λ es. placed n s rows ++ es) (all_placed-without (n + 1) k schema key schemas tables is fewer)

passed : {b : Bool} → IsTrue b → T b
passed h = subst T (sym h) tt

told : {b : Bool} → T b → IsTrue b
told {b = true} h = refl
told {b = false} h = absurd h

module _ (schemas : List Schema) (tables : List (List (List Value))) (order : IsInOrder schemas tables) (table : ℕ) (schema : Schema) (is : slice_get schemas table ≡ Some schema) where
  with_is : (row : List Value) → put place_cmp (table, key_of schema row) row (all_placed 0 schemas tables) ≡ all_placed 0 schemas (tables_with schema table row tables)
  with_is row = let from : 0 + table ≡ table = omega arith in ap (λ n. put place_cmp (n, key_of schema row) row (all_placed 0 schemas tables)) (sym from) ∙ all_placed-put 0 table schema row schemas tables is order.as_many

  pub IsInOrder-with : (row : List Value) → IsInOrder schemas (tables_with schema table row tables)
  IsInOrder-with row = record {
    as_many = length-set tables table (with_row schema row (get_or tables table [])) ∙ order.as_many;
    few = order.few;
    rising = ap (is_sorted place_cmp) (sym (with_is row)) ∙ told (is_sorted-put place_cmp place_cmp_total (table, key_of schema row) row (all_placed 0 schemas tables) (passed order.rising));
  }

  pub database_of-with : (row : List Value) → database_of schemas (tables_with schema table row tables) ≡ apply_one (database_of schemas tables) (Put table row)
  database_of-with row =
      let db = database_of schemas tables in
      let place : Place = (table, key_in schemas table row) in
      let rows = same_entries_map (from_entries (all_placed 0 schemas (tables_with schema table row tables))) (insert db.rows place row)
      (entries-from_rising (all_placed 0 schemas (tables_with schema table row tables)) (IsInOrder-with row).rising
      ∙ sym (with_is row)
      ∙ ap (λ (k : Value). put place_cmp (table, k) row (all_placed 0 schemas tables)) (sym (key_in-at schemas table schema row is))
      ∙ ap (put place_cmp place row) (sym (entries-from_rising (all_placed 0 schemas tables) order.rising))
      ∙ sym (entries-insert place_cmp_total db.rows place row)) in
      λ i. record { schemas = schemas; rows = rows i }

  without_is : (key : Value) → where_key place_cmp (left_by (table, key)) (all_placed 0 schemas tables) ≡ all_placed 0 schemas (tables_without schema table key tables)
  without_is key = let from : 0 + table ≡ table = omega arith in ap (λ n. where_key place_cmp (left_by (n, key)) (all_placed 0 schemas tables)) (sym from) ∙ all_placed-without 0 table schema key schemas tables is order.as_many

  pub IsInOrder-without : (key : Value) → IsInOrder schemas (tables_without schema table key tables)
  IsInOrder-without key = record {
    as_many = length-set tables table (without_key schema key (get_or tables table [])) ∙ order.as_many;
    few = order.few;
    rising = ap (is_sorted place_cmp) (sym (without_is key)) ∙ told (is_sorted-where_key place_cmp (left_by (table, key)) (all_placed 0 schemas tables) (passed order.rising));
  }

  pub database_of-without : (key : Value) → database_of schemas (tables_without schema table key tables) ≡ apply_one (database_of schemas tables) (Remove table key)
  database_of-without key =
      let db = database_of schemas tables in
      let rows = same_entries_map (from_entries (all_placed 0 schemas (tables_without schema table key tables))) (remove db.rows (table, key))
      (entries-from_rising (all_placed 0 schemas (tables_without schema table key tables)) (IsInOrder-without key).rising
      ∙ sym (without_is key)
      ∙ ap (where_key place_cmp (left_by (table, key))) (sym (entries-from_rising (all_placed 0 schemas tables) order.rising))
      ∙ sym (entries-remove db.rows (table, key))) in
      λ i. record { schemas = schemas; rows = rows i }

all_placed-more : (n : ℕ) (schemas : List Schema) (tables : List (List (List Value))) (schema : Schema) → length tables ≡ length schemas → all_placed n (schemas ++ schema ∷ []) (tables ++ [] ∷ []) ≡ all_placed n schemas tables
all_placed-more n [] [] schema many = refl
all_placed-more n [] (rows ∷ tables) schema many = absurd (omega arith)
all_placed-more n (s ∷ schemas) [] schema many = absurd (omega arith)
all_placed-more n (s ∷ schemas) (rows ∷ tables) schema many =
    let fewer : length tables ≡ length schemas = omega arith in
    ap (λ es. placed n s rows ++ es) (all_placed-more (n + 1) schemas tables schema fewer)

-- a table without rows is added
pub IsInOrder-more : (schemas : List Schema) (tables : List (List (List Value))) (schema : Schema) → length schemas < MOST_TABLES → IsInOrder schemas tables → IsInOrder (schemas ++ schema ∷ []) (tables ++ [] ∷ [])
IsInOrder-more schemas tables schema few order = record {
  as_many = omega (arith, length-append schemas (schema ∷ []), length-append tables ([] ∷ []), order.as_many);
  few = omega (arith, length-append schemas (schema ∷ []));
  rising = ap (is_sorted place_cmp) (all_placed-more 0 schemas tables schema order.as_many) ∙ order.rising;
}

pub database_of-more : (schemas : List Schema) (tables : List (List (List Value))) (schema : Schema) → IsInOrder schemas tables → database_of (schemas ++ schema ∷ []) (tables ++ [] ∷ []) ≡ apply_one (database_of schemas tables) (Create schema)
database_of-more schemas tables schema order =
    ap (λ (es : List (Place × List Value)). let db : Database = record { schemas = schemas ++ schema ∷ []; rows = from_entries es } in db) (all_placed-more 0 schemas tables schema order.as_many)

set_twice : {A : Type 0} (xs : List A) (i : ℕ) (a b : A) → set (set xs i a) i b ≡ set xs i b
set_twice [] i a b = refl
set_twice (x ∷ xs) zero a b = refl
set_twice (x ∷ xs) (suc i) a b = ap (λ l. x ∷ l) (set_twice xs i a b)

set_back : {A : Type 0} (xs : List A) (i : ℕ) (d : A) → i < length xs → set xs i (get_or xs i d) ≡ xs
set_back [] i d h = refl
set_back (x ∷ xs) zero d h = refl
set_back (x ∷ xs) (suc i) d h = let less : i < length xs = omega arith in ap (λ l. x ∷ l) (set_back xs i d less)

-- the rows of a table are taken out, and others are put back
pub put_back : (tables left : List (List (List Value))) (table : ℕ) (rows after result : List (List Value)) → left ≡ set tables table [] → after ≡ rows → result ≡ after → set left table result ≡ set tables table rows
put_back tables left table rows after result is back same =
    ap (λ l. set l table result) is ∙ set_twice tables table [] result ∙ ap (set tables table) (same ∙ back)

pub put_back_same : (tables left : List (List (List Value))) (table : ℕ) (rows after result : List (List Value)) → table < length tables → left ≡ set tables table [] → rows ≡ get_or tables table [] → after ≡ rows → result ≡ after → set left table result ≡ tables
put_back_same tables left table rows after result within is taken back same =
    put_back tables left table rows after result is back same ∙ ap (set tables table) taken ∙ set_back tables table [] within

schema_there : (schemas : List Schema) (table : ℕ) → table < length schemas → (schema : Schema) × (slice_get schemas table ≡ Some schema)
schema_there [] table there = absurd (omega arith)
schema_there (s ∷ schemas) zero there = (s, refl)
schema_there (s ∷ schemas) (suc table) there = let less : table < length schemas = omega arith in schema_there schemas table less

-- new tables are in order, and the map is as after a change
pub record IsChangedBy (schemas : List Schema) (tables new : List (List (List Value))) (change : Change) : Type 0 where
  pub order : IsInOrder schemas new
  pub database : database_of schemas new ≡ apply_one (database_of schemas tables) change

pub changed_by_put : (schemas : List Schema) (tables new : List (List (List Value))) (table : ℕ) (row : List Value) → IsInOrder schemas tables → table < length schemas → ((schema : Schema) → slice_get schemas table ≡ Some schema → new ≡ tables_with schema table row tables) → IsChangedBy schemas tables new (Put table row)
changed_by_put schemas tables new table row order there made =
    let found = schema_there schemas table there in
    let is = made found.0 found.1 in
    record {
      order = subst (IsInOrder schemas) (sym is) (IsInOrder-with schemas tables order table found.0 found.1 row);
      database = ap (database_of schemas) is ∙ database_of-with schemas tables order table found.0 found.1 row;
    }

pub changed_by_remove : (schemas : List Schema) (tables new : List (List (List Value))) (table : ℕ) (key : Value) → IsInOrder schemas tables → table < length schemas → ((schema : Schema) → slice_get schemas table ≡ Some schema → new ≡ tables_without schema table key tables) → IsChangedBy schemas tables new (Remove table key)
changed_by_remove schemas tables new table key order there made =
    let found = schema_there schemas table there in
    let is = made found.0 found.1 in
    record {
      order = subst (IsInOrder schemas) (sym is) (IsInOrder-without schemas tables order table found.0 found.1 key);
      database = ap (database_of schemas) is ∙ database_of-without schemas tables order table found.0 found.1 key;
    }
