-- The rows of a table after changes, from the map that changes are made to.
use Rattle.std.proofs.Common.{◌≡◌, ◌≢◌, ◌∙◌, ap, sym, refl, ℕ, ◌<◌, ◌≤◌, Bool, eqb, List, [], ◌∷◌, map, true, false, not, cond, Some, Ordering, ⊎_elim, arith, T, eq-eqb}
use Rattle.std.specs.Prelude.{filter, ◌==◌, ◌&&◌, slice_get}
use Rattle.std.specs.Ordering.{eq_by_cmp, is_eq, is_lt, ordering_then}
use Rattle.std.specs.declared.cmp.Ordering.TheVariants.{Less, Equal, Greater}
use Rattle.std.specs.Cmp.{nat_cmp_total, nat_cmp_is}
use Rattle.std.proofs.lemmas.Cmp.{tied_itself}
use Rattle.std.proofs.lemmas.Bool.{ne_eqb, cases_lt}
use Rattle.std.proofs.lemmas.Bool.Decides.{eqb_tells}
use Rattle.std.specs.FinMap.{entries, entries_sorted, put, is_sorted, entries-insert}
use Rattle.std.specs.FinMap.Entries.{by_order, where_key, below_all}
use Rattle.inno_types.specs.declared.value.Value.{Value}
use Rattle.inno_types.specs.declared.value.Schema.{Schema}
use Rattle.inno_db.specs.declared.change.Change.{Change}
use Rattle.inno_db.specs.declared.change.Change.TheVariants.{Create, Put, Remove}
use Rattle.inno_db.specs.Database.{Database, Place, place_cmp, value_cmp, key_of, key_in, rows_of}
use Rattle.inno_db.specs.Changes.{apply_one, apply}
use Rattle.inno_db.specs.Keeping.{with_row, without_key}
use Rattle.inno_db.specs.Order.{place_cmp_total}
use Rattle.inno_db.proofs.Tables.{place_cmp-IsAntisymmetric}
use Rattle.inno_db.proofs.Applying.{entries-remove, rows_of-elsewhere}
use Rattle.inno_db.proofs.Keys.{IsKeyed-apply, key_in-at}
use Rattle.inno_db.specs.Keyed.{IsAtItsKey, AreAtTheirKeys, IsKeyed}
use Rattle.law_db.specs.RowChanges.{row_change, rows_after, AreOfTables}

abbrev rows_among : ℕ → List (Place × List Value) → List (List Value)
rows_among table es = map (λ (e : Place × List Value). e.1) (filter (λ (e : Place × List Value). e.0.0 == table) es)

skip : (table : ℕ) (e : Place × List Value) (es : List (Place × List Value)) → e.0.0 ≢ table → rows_among table (e ∷ es) ≡ rows_among table es
skip table e es apart = ap (λ b. map (λ (x : Place × List Value). x.1) (cond b (e ∷ filter (λ (x : Place × List Value). x.0.0 == table) es) (filter (λ (x : Place × List Value). x.0.0 == table) es))) (ne_eqb e.0.0 table apart)

take_in : (table : ℕ) (e : Place × List Value) (es : List (Place × List Value)) → e.0.0 ≡ table → rows_among table (e ∷ es) ≡ e.1 ∷ rows_among table es
take_in table e es here = ap (λ b. map (λ (x : Place × List Value). x.1) (cond b (e ∷ filter (λ (x : Place × List Value). x.0.0 == table) es) (filter (λ (x : Place × List Value). x.0.0 == table) es))) (eq-eqb e.0.0 table here)

first : (a b : Bool) → T (a && b) → T a
first true b h = tt
first false b h = h

second : (a b : Bool) → T (a && b) → T b
second true b h = h
second false b h = absurd h

less_is : (o : Ordering) → T (is_lt o) → o ≡ Less
less_is Less h = refl
less_is Equal h = absurd h
less_is Greater h = absurd h

below : (n m : ℕ) (a b : Value) → n < m → place_cmp (n, a) (m, b) ≡ Less
below n m a b h = ap (λ o. ordering_then o (value_cmp a b)) (sym (nat_cmp_is n m Less h))

above : (n m : ℕ) (a b : Value) → n < m → place_cmp (m, a) (n, b) ≡ Greater
above n m a b h = ap (λ o. ordering_then o (value_cmp a b)) (sym (nat_cmp_is m n Greater h))

beside : (n : ℕ) (a b : Value) → place_cmp (n, a) (n, b) ≡ value_cmp a b
beside n a b = ap (λ o. ordering_then o (value_cmp a b)) (tied_itself nat_cmp_total n)

abbrev IsOfRow : Change → Type 0
IsOfRow (Create schema) = ⊥
IsOfRow (Put table row) = Unit {0}
IsOfRow (Remove table key) = Unit {0}

-- a later place is of no earlier table
no_earlier : (p q : Place) → place_cmp p q ≡ Less → p.0 ≤ q.0
no_earlier p q is =
    ⊎_elim (λ (b : q.0 < p.0). let clash : Less ≡ Greater = sym is ∙ above q.0 p.0 p.1 q.1 b in cc) (λ (h : p.0 ≤ q.0). h) (cases_lt q.0 p.0)

-- behind a place of a later table there is no row of this one
none_later : (table : ℕ) (p : Place) (es : List (Place × List Value)) → table < p.0 → T (below_all place_cmp p es) → rows_among table es ≡ []
none_later table p [] h later = refl
none_later table p (e ∷ es) h later =
    let order = no_earlier p e.0 (less_is (place_cmp p e.0) (first (is_lt (place_cmp p e.0)) (below_all place_cmp p es) later)) in
    let apart : e.0.0 ≢ table = omega (arith, order) in
    skip table e es apart ∙ none_later table p es h (second (is_lt (place_cmp p e.0)) (below_all place_cmp p es) later)

-- the place of a row of the table
kept_place : (schemas : List Schema) (table : ℕ) (schema : Schema) (e : Place × List Value) → slice_get schemas table ≡ Some schema → IsAtItsKey schemas e → e.0.0 ≡ table → ◌≡◌ {A = Place} e.0 (table, key_of schema e.1)
kept_place schemas table schema e is at here =
    let kept : e.0.1 ≡ key_of schema e.1 = at.1 ∙ ap (λ t. key_in schemas t e.1) here ∙ key_in-at schemas table schema e.1 is in
    λ i. (here i, kept i)

put_among : (schemas : List Schema) (table : ℕ) (schema : Schema) (row : List Value) (es : List (Place × List Value)) → slice_get schemas table ≡ Some schema → AreAtTheirKeys schemas es → T (is_sorted place_cmp es)
    → rows_among table (put place_cmp (table, key_of schema row) row es) ≡ with_row schema row (rows_among table es)
put_among schemas table schema row [] is at rising = take_in table ((table, key_of schema row), row) [] refl
put_among schemas table schema row (e ∷ es) is at rising =
    let place : Place = (table, key_of schema row) in
    let rest = put_among schemas table schema row es is at.1 (second (below_all place_cmp e.0 es) (is_sorted place_cmp es) rising) in
    let later = first (below_all place_cmp e.0 es) (is_sorted place_cmp es) rising in
    let rs = rows_among table es in
    ⊎_elim
    (λ (h : (eqb e.0.0 table ≡ true) × (e.0.0 ≡ table)).
    ap (λ o. rows_among table (by_order o ((place, row) ∷ e ∷ es) ((e.0, row) ∷ es) (e ∷ put place_cmp place row es)))
    (ap (place_cmp place) (kept_place schemas table schema e is at.0 h.1) ∙ beside table (key_of schema row) (key_of schema e.1))
    ∙ elim (value_cmp (key_of schema row) (key_of schema e.1)) as (λ o. rows_among table (by_order o ((place, row) ∷ e ∷ es) ((e.0, row) ∷ es) (e ∷ put place_cmp place row es)) ≡ by_order o (row ∷ e.1 ∷ rs) (row ∷ rs) (e.1 ∷ with_row schema row rs)) [
      | Less ↦ take_in table (place, row) (e ∷ es) refl ∙ ap (λ l. row ∷ l) (take_in table e es h.1)
      | Equal ↦ take_in table (e.0, row) es h.1
      | Greater ↦ take_in table e (put place_cmp place row es) h.1 ∙ ap (λ l. e.1 ∷ l) rest
    ]
    ∙ sym (ap (with_row schema row) (take_in table e es h.1)))
    (λ (h : (eqb e.0.0 table ≡ false) × (e.0.0 ≢ table)).
    elim (place_cmp place e.0) as (λ o. place_cmp place e.0 ≡ o → rows_among table (by_order o ((place, row) ∷ e ∷ es) ((e.0, row) ∷ es) (e ∷ put place_cmp place row es)) ≡ with_row schema row (rows_among table (e ∷ es))) [
      | Less ↦ λ o.
          let order = no_earlier place e.0 o in
          let apart = h.1 in
          let before : table < e.0.0 = omega (arith, order) in
          let none = skip table e es h.1 ∙ none_later table e.0 es before later in
          take_in table (place, row) (e ∷ es) refl ∙ ap (λ l. row ∷ l) none ∙ sym (ap (with_row schema row) none)
      | Equal ↦ λ o. absurd (h.1 (sym (ap (λ (p : Place). p.0) (place_cmp-IsAntisymmetric place e.0 o))))
      | Greater ↦ λ o. skip table e (put place_cmp place row es) h.1 ∙ rest ∙ sym (ap (with_row schema row) (skip table e es h.1))
    ] refl)
    (eqb_tells e.0.0 table)

removed_among : (schemas : List Schema) (table : ℕ) (schema : Schema) (key : Value) (es : List (Place × List Value)) → slice_get schemas table ≡ Some schema → AreAtTheirKeys schemas es
    → rows_among table (where_key place_cmp (λ x. not (eq_by_cmp place_cmp (table, key) x)) es) ≡ without_key schema key (rows_among table es)
removed_among schemas table schema key [] is at = refl
removed_among schemas table schema key (e ∷ es) is at =
    let left = where_key place_cmp (λ x. not (eq_by_cmp place_cmp (table, key) x)) es in
    let rest = removed_among schemas table schema key es is at.1 in
    ⊎_elim
    (λ (h : (eqb e.0.0 table ≡ true) × (e.0.0 ≡ table)).
    ap (λ o. rows_among table (cond (not (is_eq o)) (e ∷ left) left))
    (ap (place_cmp (table, key)) (kept_place schemas table schema e is at.0 h.1) ∙ beside table key (key_of schema e.1))
    ∙ elim (not (is_eq (value_cmp key (key_of schema e.1)))) as (λ b. rows_among table (cond b (e ∷ left) left) ≡ cond b (e.1 ∷ without_key schema key (rows_among table es)) (without_key schema key (rows_among table es))) [
      | true ↦ take_in table e left h.1 ∙ ap (λ l. e.1 ∷ l) rest
      | false ↦ rest
    ]
    ∙ sym (ap (without_key schema key) (take_in table e es h.1)))
    (λ (h : (eqb e.0.0 table ≡ false) × (e.0.0 ≢ table)).
    elim (not (eq_by_cmp place_cmp (table, key) e.0)) as (λ b. rows_among table (cond b (e ∷ left) left) ≡ rows_among table left) [ true ↦ skip table e left h.1 | false ↦ refl ]
    ∙ rest ∙ sym (ap (without_key schema key) (skip table e es h.1)))
    (eqb_tells e.0.0 table)

-- the rows of a table after a row is put into it
pub rows_of-put : (table : ℕ) (schema : Schema) (db : Database) (row : List Value) → IsKeyed db → slice_get db.schemas table ≡ Some schema → rows_of table (apply_one db (Put table row)) ≡ with_row schema row (rows_of table db)
rows_of-put table schema db row keyed is =
    ap (rows_among table) (entries-insert place_cmp_total db.rows (table, key_in db.schemas table row) row)
    ∙ ap (λ (k : Value). rows_among table (put place_cmp (table, k) row (entries db.rows))) (key_in-at db.schemas table schema row is)
    ∙ put_among db.schemas table schema row (entries db.rows) is keyed (entries_sorted db.rows)

-- and after one is removed
pub rows_of-remove : (table : ℕ) (schema : Schema) (db : Database) (key : Value) → IsKeyed db → slice_get db.schemas table ≡ Some schema → rows_of table (apply_one db (Remove table key)) ≡ without_key schema key (rows_of table db)
rows_of-remove table schema db key keyed is =
    ap (rows_among table) (entries-remove db.rows (table, key)) ∙ removed_among db.schemas table schema key (entries db.rows) is keyed

row_change-other : (table : ℕ) (schema : Schema) (db : Database) (change : Change) → IsKeyed db → slice_get db.schemas table ≡ Some schema → IsOfRow change → rows_of table (apply_one db change) ≡ row_change schema table (rows_of table db) change
row_change-other table schema db (Create s) keyed is rows = absurd rows
row_change-other table schema db (Put other row) keyed is rows =
    ⊎_elim
    (λ (h : (eqb other table ≡ true) × (other ≡ table)).
    ap (λ n. rows_of table (apply_one db (Put n row))) h.1 ∙ rows_of-put table schema db row keyed is
    ∙ sym (ap (λ b. cond b (with_row schema row (rows_of table db)) (rows_of table db)) h.0))
    (λ (h : (eqb other table ≡ false) × (other ≢ table)).
    rows_of-elsewhere table db (Put other row) h.1 ∙ sym (ap (λ b. cond b (with_row schema row (rows_of table db)) (rows_of table db)) h.0))
    (eqb_tells other table)
row_change-other table schema db (Remove other key) keyed is rows =
    ⊎_elim
    (λ (h : (eqb other table ≡ true) × (other ≡ table)).
    ap (λ n. rows_of table (apply_one db (Remove n key))) h.1 ∙ rows_of-remove table schema db key keyed is
    ∙ sym (ap (λ b. cond b (without_key schema key (rows_of table db)) (rows_of table db)) h.0))
    (λ (h : (eqb other table ≡ false) × (other ≢ table)).
    rows_of-elsewhere table db (Remove other key) h.1 ∙ sym (ap (λ b. cond b (without_key schema key (rows_of table db)) (rows_of table db)) h.0))
    (eqb_tells other table)

pub rows_of-apply : (table : ℕ) (schema : Schema) (db : Database) (changes : List Change) → IsKeyed db → slice_get db.schemas table ≡ Some schema → AreOfTables db.schemas changes → rows_of table (apply db changes) ≡ rows_after schema table (rows_of table db) changes
rows_of-apply table schema db [] keyed is there = refl
rows_of-apply table schema db (Create s ∷ changes) keyed is there = absurd there
rows_of-apply table schema db (Put other row ∷ changes) keyed is there =
    rows_of-apply table schema (apply_one db (Put other row)) changes (IsKeyed-apply db (Put other row) there.0 keyed) is there.1
    ∙ ap (λ rows. rows_after schema table rows changes) (row_change-other table schema db (Put other row) keyed is tt)
rows_of-apply table schema db (Remove other key ∷ changes) keyed is there =
    rows_of-apply table schema (apply_one db (Remove other key)) changes (IsKeyed-apply db (Remove other key) there.0 keyed) is there.1
    ∙ ap (λ rows. rows_after schema table rows changes) (row_change-other table schema db (Remove other key) keyed is tt)
