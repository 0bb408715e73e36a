-- The rows of an INSERT stand after it.
use Rattle.std.proofs.Common.{◌≡◌, ◌∙◌, ap, sym, subst, refl, ℕ, Bool, List, [], ◌∷◌, ◌++◌, true, false, Option, Some, Result, Ok, Err}
use Rattle.std.specs.Prelude.{◌||◌, slice_get, if◌then◌else◌}
use Rattle.std.specs.Ordering.{eq_by_cmp, is_eq, ordering_then}
use Rattle.std.specs.Cmp.{nat_cmp_total}
use Rattle.std.proofs.lemmas.Cmp.{tied_itself}
use Rattle.std.specs.FinMap.{get}
use Rattle.inno_types.specs.declared.value.Value.{Value}
use Rattle.inno_types.specs.declared.value.Schema.{Schema}
use Rattle.inno_types.specs.declared.stmt.Literal.{Literal}
use Rattle.inno_types.specs.declared.reply.SqlError.{SqlError}
use Rattle.inno_types.specs.declared.reply.SqlError.TheVariants.{Duplicate}
use Rattle.inno_db.specs.declared.change.Change.{Change}
use Rattle.inno_db.specs.declared.change.Change.TheVariants.{Create, Put, Remove}
use Rattle.inno_db.specs.Database.{Database, place_cmp, value_cmp, key_of, key_in}
use Rattle.inno_db.specs.Changes.{apply_one, apply}
use Rattle.inno_db.specs.Expressions.{and_then}
use Rattle.inno_db.specs.Storing.{row_of_tuple}
use Rattle.inno_db.specs.Outcome.{is_same_value, has_key, new_row, row_for, put_then, inserted}
use Rattle.inno_db.proofs.Applying.{get_put, get_put_other}
use Rattle.inno_db.proofs.Keys.{key_in-at}
use Rattle.law_db.specs.RowChanges.{AllStand}

-- the changes put rows into a table, at keys that none of these rows has
abbrev AreNew : ℕ → Schema → List (List Value) → List Change → Type 0
AreNew table schema rows [] = Unit {0}
AreNew table schema rows (Create s ∷ changes) = ⊥
AreNew table schema rows (Put other row ∷ changes) = (other ≡ table) × (has_key schema (key_of schema row) rows ≡ false) × AreNew table schema rows changes
AreNew table schema rows (Remove other key ∷ changes) = ⊥

or_first : (a b : Bool) → (a || b) ≡ false → a ≡ false
or_first true b e = cc
or_first false b e = refl

or_second : (a b : Bool) → (a || b) ≡ false → b ≡ false
or_second true b e = cc
or_second false b e = e

or_both : (a b : Bool) → a ≡ false → b ≡ false → (a || b) ≡ false
or_both true b e f = cc
or_both false b e f = f

-- a key that none of more rows has
has_key-front : (schema : Schema) (key : Value) (rows more : List (List Value)) → has_key schema key (rows ++ more) ≡ false → has_key schema key rows ≡ false
has_key-front schema key [] more h = refl
has_key-front schema key (r ∷ rows) more h =
    let test = is_same_value (key_of schema r) key in
    or_both test (has_key schema key rows) (or_first test (has_key schema key (rows ++ more)) h)
    (has_key-front schema key rows more (or_second test (has_key schema key (rows ++ more)) h))

has_key-last : (schema : Schema) (key : Value) (rows : List (List Value)) (row : List Value) → has_key schema key (rows ++ row ∷ []) ≡ false → is_same_value (key_of schema row) key ≡ false
has_key-last schema key [] row h = or_first (is_same_value (key_of schema row) key) false h
has_key-last schema key (r ∷ rows) row h =
    has_key-last schema key rows row (or_second (is_same_value (key_of schema r) key) (has_key schema key (rows ++ row ∷ [])) h)

AreNew-front : (table : ℕ) (schema : Schema) (rows more : List (List Value)) (changes : List Change) → AreNew table schema (rows ++ more) changes → AreNew table schema rows changes
AreNew-front table schema rows more [] h = tt
AreNew-front table schema rows more (Create s ∷ changes) h = h
AreNew-front table schema rows more (Put other row ∷ changes) h =
    (h.0, has_key-front schema (key_of schema row) rows more h.1, AreNew-front table schema rows more changes h.2)
AreNew-front table schema rows more (Remove other key ∷ changes) h = h

same_ok : {A : Type 0} {x y : A} → ◌≡◌ {A = Result A SqlError} (Ok x) (Ok y) → x ≡ y
same_ok e = cc

new_row-key : (schema : Schema) (rows : List (List Value)) (row made : List Value) → new_row schema rows row ≡ Ok made → has_key schema (key_of schema made) rows ≡ false
new_row-key schema rows row made h =
    elim (has_key schema (key_of schema row) rows) as (λ b. has_key schema (key_of schema row) rows ≡ b → ◌≡◌ {A = Result (List Value) SqlError} (if b then Err (Duplicate (key_of schema row)) else Ok row) (Ok made) → has_key schema (key_of schema made) rows ≡ false) [
      | true ↦ λ is e. cc
      | false ↦ λ is e. subst (λ (r : List Value). has_key schema (key_of schema r) rows ≡ false) (same_ok e) is
    ] refl h

row_for-key : (schema : Schema) (names : Option (List (List ℕ))) (rows : List (List Value)) (tuple : List Literal) (made : List Value) → row_for schema names rows tuple ≡ Ok made → has_key schema (key_of schema made) rows ≡ false
row_for-key schema names rows tuple made h =
    elim (row_of_tuple schema.columns names tuple) as (λ r. and_then r (new_row schema rows) ≡ Ok made → has_key schema (key_of schema made) rows ≡ false) [
      | Ok row ↦ λ e. new_row-key schema rows row made e
      | Err error ↦ λ e. cc
    ] h

-- what INSERT puts is new to the rows that it meets
inserted-AreNew : (table : ℕ) (schema : Schema) (names : Option (List (List ℕ))) (rows : List (List Value)) (tuples : List (List Literal)) → AreNew table schema rows (inserted table schema names rows tuples).changes
inserted-AreNew table schema names rows [] = tt
inserted-AreNew table schema names rows (tuple ∷ tuples) =
    elim (row_for schema names rows tuple) as (λ r. row_for schema names rows tuple ≡ r → AreNew table schema rows (put_then table r (λ row. inserted table schema names (rows ++ row ∷ []) tuples)).changes) [
      | Ok row ↦ λ is. (refl, row_for-key schema names rows tuple row is, AreNew-front table schema rows (row ∷ []) (inserted table schema names (rows ++ row ∷ []) tuples).changes (inserted-AreNew table schema names (rows ++ row ∷ []) tuples))
      | Err error ↦ λ is. tt
    ] refl

schemas_kept : (table : ℕ) (schema : Schema) (rows : List (List Value)) (db : Database) (changes : List Change) → AreNew table schema rows changes → (apply db changes).schemas ≡ db.schemas
schemas_kept table schema rows db [] h = refl
schemas_kept table schema rows db (Create s ∷ changes) h = absurd h
schemas_kept table schema rows db (Put other row ∷ changes) h = schemas_kept table schema rows (apply_one db (Put other row)) changes h.2
schemas_kept table schema rows db (Remove other key ∷ changes) h = absurd h

-- changes at other keys leave a row where it stands
stays : (table : ℕ) (schema : Schema) (rows : List (List Value)) (row : List Value) (db : Database) (changes : List Change) → slice_get db.schemas table ≡ Some schema → AreNew table schema (rows ++ row ∷ []) changes → get (apply db changes).rows (table, key_of schema row) ≡ get db.rows (table, key_of schema row)
stays table schema rows row db [] is h = refl
stays table schema rows row db (Create s ∷ changes) is h = absurd h
stays table schema rows row db (Put other new ∷ changes) is h =
    let key = key_of schema row in
    let apart : eq_by_cmp place_cmp (table, key) (other, key_in db.schemas other new) ≡ false =
    ap (λ n. eq_by_cmp place_cmp (table, key) (n, key_in db.schemas n new)) h.0
    ∙ ap (λ (k : Value). eq_by_cmp place_cmp (table, key) (table, k)) (key_in-at db.schemas table schema new is)
    ∙ ap (λ o. is_eq (ordering_then o (value_cmp key (key_of schema new)))) (tied_itself nat_cmp_total table)
    ∙ has_key-last schema (key_of schema new) rows row h.1 in
    stays table schema rows row (apply_one db (Put other new)) changes is h.2 ∙ get_put_other db other new (table, key) apart
stays table schema rows row db (Remove other key ∷ changes) is h = absurd h

pub inserted-AllStand : (table : ℕ) (schema : Schema) (names : Option (List (List ℕ))) (rows : List (List Value)) (tuples : List (List Literal)) (db : Database) → slice_get db.schemas table ≡ Some schema
    → AllStand (apply db (inserted table schema names rows tuples).changes) (inserted table schema names rows tuples).changes
inserted-AllStand table schema names rows [] db is = tt
inserted-AllStand table schema names rows (tuple ∷ tuples) db is =
    elim (row_for schema names rows tuple) as (λ r. AllStand (apply db (put_then table r (λ row. inserted table schema names (rows ++ row ∷ []) tuples)).changes) (put_then table r (λ row. inserted table schema names (rows ++ row ∷ []) tuples)).changes) [
      | Ok row ↦
          let after = apply_one db (Put table row) in
          let rest = inserted table schema names (rows ++ row ∷ []) tuples in
          let new = inserted-AreNew table schema names (rows ++ row ∷ []) tuples in
          let same = schemas_kept table schema (rows ++ row ∷ []) after rest.changes new in (
            ap (λ (ss : List Schema). get (apply after rest.changes).rows (table, key_in ss table row)) same
                ∙ ap (λ (k : Value). get (apply after rest.changes).rows (table, k)) (key_in-at db.schemas table schema row is)
                ∙ stays table schema rows row after rest.changes is new
                ∙ ap (λ (k : Value). get after.rows (table, k)) (sym (key_in-at db.schemas table schema row is))
                ∙ get_put db table row,
            inserted-AllStand table schema names (rows ++ row ∷ []) tuples after is,
          )
      | Err error ↦ tt
    ]
