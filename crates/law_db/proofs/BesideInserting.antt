-- An INSERT that was counted is the same over a database with changes of other keys.
use Rattle.std.proofs.Common.{◌≡◌, ◌∙◌, ap, sym, refl, subst, ℕ, Bool, true, false, not as not_eq, cond, List, [], ◌∷◌, ◌++◌, Option, Some, None, map, ⊎_elim, length}
use Rattle.std.specs.Prelude.{filter, ◌==◌, ◌||◌, slice_get, if◌then◌else◌, Result, Ok, Err}
use Rattle.std.specs.Ordering.{is_eq, eq_by_cmp, ordering_then}
use Rattle.std.specs.Cmp.{eq_by_cmp_equiv, nat_cmp_total}
use Rattle.std.proofs.lemmas.Cmp.{tied_itself}
use Rattle.std.proofs.lemmas.Bool.Decides.{eqb_tells}
use Rattle.std.specs.declared.cmp.Ordering.TheVariants.{Less, Equal, Greater}
use Rattle.std.specs.FinMap.{entries, put, entries-insert}
use Rattle.std.specs.FinMap.Entries.{by_order, where_key}
use Rattle.inno_types.specs.declared.value.Value.{Value}
use Rattle.inno_types.specs.declared.value.Schema.{Schema}
use Rattle.inno_types.specs.declared.stmt.Literal.{Literal}
use Rattle.inno_types.specs.declared.stmt.Stmt.TheVariants.{Insert}
use Rattle.inno_types.specs.declared.reply.Reply.TheVariants.{Count, Rows}
use Rattle.inno_types.specs.declared.reply.SqlError.{SqlError}
use Rattle.inno_types.specs.declared.reply.SqlError.TheVariants as errors
use Rattle.inno_db.specs.declared.change.Change.{Change}
use Rattle.inno_db.specs.declared.change.Change.TheVariants.{Create, Put, Remove}
use Rattle.inno_db.specs.declared.outcome.Outcome.{Outcome}
use Rattle.inno_db.specs.Database.{Database, Place, place_cmp, value_cmp, key_of, key_in, rows_of}
use Rattle.inno_db.specs.Order.{place_cmp_total}
use Rattle.inno_db.specs.Changes.{apply_one}
use Rattle.inno_db.specs.Names.{table_place}
use Rattle.inno_db.specs.Refusals.{refusal}
use Rattle.inno_db.specs.Storing.{row_of_tuple}
use Rattle.inno_db.specs.Expressions.{and_then}
use Rattle.inno_db.specs.Outcome.{outcome, answer_to, has_key, is_same_value, inserted, insert_answer, put_then, row_for, new_row, counted, count_unless, then_written, on_rows, on_number, on_schema, unless_refused}
use Rattle.inno_db.proofs.Keys.{key_in-at}
use Rattle.inno_db.proofs.Applying.{entries-remove}
use Rattle.inno_db.proofs.Tables.{place_cmp-IsAntisymmetric}
use Rattle.inno_model.specs.Past.{changed}
use Rattle.law_db.specs.Beside.{is_change_at, touches, AreApart, AreOfRows}
use Rattle.law_db.proofs.Apart.{schemas_stay}
use Rattle.law_db.proofs.Searching.{on_rows-alike, outcome-alike}

abbrev Entry : Type 0
Entry = Place × List Value

-- ---- a key that no row has, with changes of other keys

or_front : (a b : Bool) → (a || b) ≡ false → a ≡ false
or_front true b e = cc
or_front false b e = refl

or_behind : (a b : Bool) → (a || b) ≡ false → b ≡ false
or_behind true b e = cc
or_behind false b e = e

or_none : (a b : Bool) → a ≡ false → b ≡ false → (a || b) ≡ false
or_none true b e f = e
or_none false b e f = f

same_place : (table : ℕ) (k key : Value) → is_same_value k key ≡ eq_by_cmp place_cmp (table, key) (table, k)
same_place table k key =
    sym (ap (λ o. is_eq (ordering_then o (value_cmp k key))) (tied_itself nat_cmp_total table))
    ∙ (eq_by_cmp_equiv place_cmp_total).symm (table, k) (table, key)

module _ (table : ℕ) (schema : Schema) (key : Value) where
  abbrev among : List Entry → List (List Value)
  among es = map (λ (e : Entry). e.1) (filter (λ (e : Entry). e.0.0 == table) es)

  -- none of these rows of the table has the key
  abbrev Lacks : List Entry → Type 0
  Lacks es = has_key schema key (among es) ≡ false

  lacks_next : (e : Entry) (es : List Entry) → ((e.0.0 == table) ≡ true → is_same_value (key_of schema e.1) key ≡ false) → Lacks es → Lacks (e ∷ es)
  lacks_next e es here rest =
      elim (e.0.0 == table) as (λ b. (e.0.0 == table) ≡ b → has_key schema key (map (λ (e : Entry). e.1) (cond b (e ∷ filter (λ (e : Entry). e.0.0 == table) es) (filter (λ (e : Entry). e.0.0 == table) es))) ≡ false) [
        | true ↦ λ is. or_none (is_same_value (key_of schema e.1) key) (has_key schema key (among es)) (here is) rest
        | false ↦ λ is. rest
      ] refl

  lacks_front : (e : Entry) (es : List Entry) → Lacks (e ∷ es) → (e.0.0 == table) ≡ true → is_same_value (key_of schema e.1) key ≡ false
  lacks_front e es lacks is = or_front (is_same_value (key_of schema e.1) key) (has_key schema key (among es)) (sym (ap (λ b. has_key schema key (map (λ (e : Entry). e.1) (cond b (e ∷ filter (λ (e : Entry). e.0.0 == table) es) (filter (λ (e : Entry). e.0.0 == table) es)))) is) ∙ lacks)

  lacks_behind : (e : Entry) (es : List Entry) → Lacks (e ∷ es) → Lacks es
  lacks_behind e es lacks =
      elim (e.0.0 == table) as (λ b. has_key schema key (map (λ (e : Entry). e.1) (cond b (e ∷ filter (λ (e : Entry). e.0.0 == table) es) (filter (λ (e : Entry). e.0.0 == table) es))) ≡ false → has_key schema key (among es) ≡ false) [
        | true ↦ λ is. or_behind (is_same_value (key_of schema e.1) key) (has_key schema key (among es)) is
        | false ↦ λ is. is
      ] lacks

  lacks_put : (place : Place) (row : List Value) (es : List Entry) → ((place.0 == table) ≡ true → is_same_value (key_of schema row) key ≡ false) → Lacks es → Lacks (put place_cmp place row es)
  lacks_put place row [] here lacks = lacks_next (place, row) [] here lacks
  lacks_put place row (e ∷ es) here lacks =
      elim (place_cmp place e.0) as (λ o. place_cmp place e.0 ≡ o → Lacks (by_order o ((place, row) ∷ e ∷ es) ((e.0, row) ∷ es) (e ∷ put place_cmp place row es))) [
        | Less ↦ λ o. lacks_next (place, row) (e ∷ es) here lacks
        | Equal ↦ λ o. subst (λ (p : Place). Lacks ((p, row) ∷ es)) (place_cmp-IsAntisymmetric place e.0 o) (lacks_next (place, row) es here (lacks_behind e es lacks))
        | Greater ↦ λ o. lacks_next e (put place_cmp place row es) (lacks_front e es lacks) (lacks_put place row es here (lacks_behind e es lacks))
      ] refl

  lacks_where : (p : Place → Bool) (es : List Entry) → Lacks es → Lacks (where_key place_cmp p es)
  lacks_where p [] lacks = lacks
  lacks_where p (e ∷ es) lacks =
      let rest = lacks_where p es (lacks_behind e es lacks) in
      elim (p e.0) as (λ b. Lacks (cond b (e ∷ where_key place_cmp p es) (where_key place_cmp p es))) [ true ↦ lacks_next e (where_key place_cmp p es) (lacks_front e es lacks) rest | false ↦ rest ]

  lacks_one : (db : Database) (change : Change) → slice_get db.schemas table ≡ Some schema → is_change_at db.schemas (table, key) change ≡ false → has_key schema key (rows_of table db) ≡ false → has_key schema key (rows_of table (apply_one db change)) ≡ false
  lacks_one db (Create other) is not lacks = lacks
  lacks_one db (Put other row) is not lacks =
      subst Lacks (sym (entries-insert place_cmp_total db.rows (other, key_in db.schemas other row) row))
      (lacks_put (other, key_in db.schemas other row) row (entries db.rows)
      (λ here.
      let same : other ≡ table = ⊎_elim (λ h. h.1) (λ t. absurd (t.1 (let e = here in cc))) (eqb_tells other table) in
      same_place table (key_of schema row) key
      ∙ ap (λ (k : Value). eq_by_cmp place_cmp (table, key) (table, k)) (sym (key_in-at db.schemas table schema row is))
      ∙ ap (λ n. eq_by_cmp place_cmp (table, key) (n, key_in db.schemas n row)) (sym same) ∙ not) lacks)
  lacks_one db (Remove other k) is not lacks =
      subst Lacks (sym (entries-remove db.rows (other, k))) (lacks_where (λ x. not_eq (eq_by_cmp place_cmp (other, k) x)) (entries db.rows) lacks)

  pub lacks_all : (db : Database) (changes : List Change) → slice_get db.schemas table ≡ Some schema → AreOfRows changes → touches db.schemas changes (table, key) ≡ false → has_key schema key (rows_of table db) ≡ false → has_key schema key (rows_of table (changed db changes)) ≡ false
  lacks_all db [] is rows not lacks = lacks
  lacks_all db (Create other ∷ changes) is rows not lacks = absurd rows
  lacks_all db (Put other row ∷ changes) is rows not lacks =
      let tables = schemas_stay db changes rows in
      lacks_one (changed db changes) (Put other row) (ap (λ (ss : List Schema). slice_get ss table) tables ∙ is)
      (ap (λ (ss : List Schema). is_change_at ss (table, key) (Put other row)) tables ∙ or_front (is_change_at db.schemas (table, key) (Put other row)) (touches db.schemas changes (table, key)) not)
      (lacks_all db changes is rows (or_behind (is_change_at db.schemas (table, key) (Put other row)) (touches db.schemas changes (table, key)) not) lacks)
  lacks_all db (Remove other k ∷ changes) is rows not lacks =
      let tables = schemas_stay db changes rows in
      lacks_one (changed db changes) (Remove other k) (ap (λ (ss : List Schema). slice_get ss table) tables ∙ is)
      (ap (λ (ss : List Schema). is_change_at ss (table, key) (Remove other k)) tables ∙ or_front (is_change_at db.schemas (table, key) (Remove other k)) (touches db.schemas changes (table, key)) not)
      (lacks_all db changes is rows (or_behind (is_change_at db.schemas (table, key) (Remove other k)) (touches db.schemas changes (table, key)) not) lacks)

-- ---- tuple by tuple

has_key-more : (schema : Schema) (key : Value) (rows : List (List Value)) (row : List Value) → has_key schema key (rows ++ row ∷ []) ≡ (has_key schema key rows || is_same_value (key_of schema row) key)
has_key-more schema key [] row = elim (is_same_value (key_of schema row) key) as (λ b. (b || false) ≡ b) [ true ↦ refl | false ↦ refl ]
has_key-more schema key (r ∷ rows) row =
    ap (λ b. is_same_value (key_of schema r) key || b) (has_key-more schema key rows row)
    ∙ elim (is_same_value (key_of schema r) key) as (λ b. (b || (has_key schema key rows || is_same_value (key_of schema row) key)) ≡ ((b || has_key schema key rows) || is_same_value (key_of schema row) key)) [ true ↦ refl | false ↦ refl ]

same_ok : {A : Type 0} {x y : A} → ◌≡◌ {A = Result A SqlError} (Ok x) (Ok y) → x ≡ y
same_ok e = cc

row_for-same : (schema : Schema) (names : Option (List (List ℕ))) (some others : List (List Value)) (tuple : List Literal) (made : List Value) → row_for schema names some tuple ≡ Ok made → (has_key schema (key_of schema made) some ≡ false → has_key schema (key_of schema made) others ≡ false) → row_for schema names others tuple ≡ Ok made
row_for-same schema names some others tuple made h lacks =
    elim (row_of_tuple schema.columns names tuple) as (λ r. and_then r (new_row schema some) ≡ Ok made → and_then r (new_row schema others) ≡ Ok made) [
      | Ok row ↦ λ e. elim (has_key schema (key_of schema row) some) as (λ b. has_key schema (key_of schema row) some ≡ b → ◌≡◌ {A = Result (List Value) SqlError} (if b then Err (errors.Duplicate (key_of schema row)) else Ok row) (Ok made) → new_row schema others row ≡ Ok made) [
        | true ↦ λ is f. cc
        | false ↦ λ is f.
            let same : row ≡ made = same_ok f in
            let none = lacks (subst (λ (r : List Value). has_key schema (key_of schema r) some ≡ false) same is) in
            subst (λ (r : List Value). new_row schema others r ≡ Ok made) (sym same) (ap (λ b. if b then Err (errors.Duplicate (key_of schema made)) else Ok made) none)
      ] refl e
      | Err error ↦ λ e. cc
    ] h

module _ (schemas : List Schema) (changes : List Change) where
  -- none of these rows is put at a place that is changed
  abbrev KeysApart : List Change → Type 0
  KeysApart [] = Unit {0}
  KeysApart (Put t row ∷ cs) = (touches schemas changes (t, key_in schemas t row) ≡ false) × KeysApart cs
  KeysApart (other ∷ cs) = KeysApart cs

  or_true : (b c : Bool) → c ≡ true → (b || c) ≡ true
  or_true true c e = refl
  or_true false c e = e

  keys_apart : (cs : List Change) → AreApart schemas cs changes → KeysApart cs
  keys_apart [] apart = tt
  keys_apart (Create schema ∷ cs) apart = keys_apart cs (λ place t. apart place t)
  keys_apart (Put t row ∷ cs) apart =
      let place : Place = (t, key_in schemas t row) in (
        apart place (ap (λ o. is_eq o || touches schemas cs place) (tied_itself place_cmp_total place)),
        keys_apart cs (λ q at. apart q (or_true (is_change_at schemas q (Put t row)) (touches schemas cs q) at)),
      )
  keys_apart (Remove t key ∷ cs) apart = keys_apart cs (λ q at. apart q (or_true (is_change_at schemas q (Remove t key)) (touches schemas cs q) at))

  module _ (table : ℕ) (schema : Schema) (names : Option (List (List ℕ))) (is : slice_get schemas table ≡ Some schema) where
    abbrev KeepsLack : List (List Value) → List (List Value) → Type 0
    KeepsLack some others = (key : Value) → touches schemas changes (table, key) ≡ false → has_key schema key some ≡ false → has_key schema key others ≡ false

    lack_more : (some others : List (List Value)) (row : List Value) → KeepsLack some others → KeepsLack (some ++ row ∷ []) (others ++ row ∷ [])
    lack_more some others row keeps key not lacks =
        let both = sym (has_key-more schema key some row) ∙ lacks in
        has_key-more schema key others row
        ∙ or_none (has_key schema key others) (is_same_value (key_of schema row) key)
        (keeps key not (or_front (has_key schema key some) (is_same_value (key_of schema row) key) both))
        (or_behind (has_key schema key some) (is_same_value (key_of schema row) key) both)

    inserted-same : (some others : List (List Value)) (tuples : List (List Literal)) → KeepsLack some others → (inserted table schema names some tuples).refusal ≡ None → KeysApart (inserted table schema names some tuples).changes → inserted table schema names others tuples ≡ inserted table schema names some tuples
    inserted-same some others [] keeps none apart = refl
    inserted-same some others (tuple ∷ tuples) keeps none apart =
        elim (row_for schema names some tuple) as (λ r. row_for schema names some tuple ≡ r
        → (put_then table r (λ row. inserted table schema names (some ++ row ∷ []) tuples)).refusal ≡ None
        → KeysApart (put_then table r (λ row. inserted table schema names (some ++ row ∷ []) tuples)).changes
        → inserted table schema names others (tuple ∷ tuples) ≡ put_then table r (λ row. inserted table schema names (some ++ row ∷ []) tuples)) [
          | Ok row ↦ λ made no_refusal beside.
              let free = ap (λ (k : Value). touches schemas changes (table, k)) (sym (key_in-at schemas table schema row is)) ∙ beside.0 in
              let again = row_for-same schema names some others tuple row made (keeps (key_of schema row) free) in
              ap (λ r. put_then table r (λ row. inserted table schema names (others ++ row ∷ []) tuples)) again
              ∙ ap (then_written (Put table row)) (inserted-same (some ++ row ∷ []) (others ++ row ∷ []) tuples (lack_more some others row keeps) no_refusal beside.1)
          | Err error ↦ λ made no_refusal beside. cc
        ] refl none apart

not_refused : (refusal : Option SqlError) (m n : ℕ) → count_unless refusal m ≡ Count n → refusal ≡ None
not_refused None m n e = refl
not_refused (Some error) m n e = cc

-- ---- the statement

pub insert_beside : (db : Database) (changes : List Change) (name : List ℕ) (names : Option (List (List ℕ))) (tuples : List (List Literal)) (n : ℕ) → AreOfRows changes → (outcome (Insert name names tuples) db).reply ≡ Count n → AreApart db.schemas (outcome (Insert name names tuples) db).changes changes
    → outcome (Insert name names tuples) (changed db changes) ≡ outcome (Insert name names tuples) db
insert_beside db changes name names tuples n rows counts apart =
    elim (refusal db.schemas (Insert name names tuples)) as (λ r. refusal db.schemas (Insert name names tuples) ≡ r → outcome (Insert name names tuples) (changed db changes) ≡ outcome (Insert name names tuples) db) [
      | Some error ↦ λ is.
          ap (λ (ss : List Schema). unless_refused (refusal ss (Insert name names tuples)) (answer_to (Insert name names tuples) (changed db changes))) tables
          ∙ ap (λ r. unless_refused r (answer_to (Insert name names tuples) (changed db changes))) is
          ∙ sym (ap (λ r. unless_refused r (answer_to (Insert name names tuples) db)) is)
      | None ↦ λ none. outcome-alike (Insert name names tuples) (changed db changes) db tables (on_rows-alike (changed db changes) db name (insert_answer names tuples) tables
          (λ table schema here is.
          let whole : outcome (Insert name names tuples) db ≡ insert_answer names tuples table schema (rows_of table db) =
          ap (λ r. unless_refused r (on_rows db name (insert_answer names tuples))) none
          ∙ ap (λ p. on_number db p (insert_answer names tuples)) here
          ∙ ap (λ s. on_schema table s (rows_of table db) (insert_answer names tuples)) is in
          let written = inserted table schema names (rows_of table db) tuples in
          ap counted (inserted-same db.schemas changes table schema names is (rows_of table db) (rows_of table (changed db changes)) tuples
          (λ key not lacks. lacks_all table schema key db changes is rows not lacks)
          (not_refused written.refusal (length written.changes) n (sym (ap (λ (o : Outcome). o.reply) whole) ∙ counts))
          (keys_apart db.schemas changes written.changes (subst (λ (o : Outcome). AreApart db.schemas o.changes changes) whole apart)))))
    ] refl
  where
    tables : (changed db changes).schemas ≡ db.schemas
    tables = schemas_stay db changes rows

-- an INSERT answers no rows
no_rows : (db : Database) (place : Option ℕ) (names : Option (List (List ℕ))) (tuples : List (List Literal)) (rows : List (List Value)) → Rows rows ≡ (on_number db place (insert_answer names tuples)).reply → ⊥
no_rows db None names tuples rows e = (cc)
no_rows db (Some table) names tuples rows e = on (slice_get db.schemas table) e
  where
    count : (refusal : Option SqlError) (n : ℕ) → Rows rows ≡ count_unless refusal n → ⊥
    count None n f = (cc)
    count (Some error) n f = (cc)

    on : (s : Option Schema) → Rows rows ≡ (on_schema table s (rows_of table db) (insert_answer names tuples)).reply → ⊥
    on None f = (cc)
    on (Some schema) f = count (inserted table schema names (rows_of table db) tuples).refusal (length (inserted table schema names (rows_of table db) tuples).changes) f

pub insert_no_rows : (db : Database) (name : List ℕ) (names : Option (List (List ℕ))) (tuples : List (List Literal)) (rows : List (List Value)) → Rows rows ≡ (outcome (Insert name names tuples) db).reply → ⊥
insert_no_rows db name names tuples rows e =
    elim (refusal db.schemas (Insert name names tuples)) as (λ r. Rows rows ≡ (unless_refused r (on_rows db name (insert_answer names tuples))).reply → ⊥) [
      | Some error ↦ λ f. (cc)
      | None ↦ λ f. no_rows db (table_place db.schemas name) names tuples rows f
    ] e
