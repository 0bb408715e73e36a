-- An INSERT goes tuple by tuple.
use Rattle.std.proofs.Common.{◌≡◌, ◌∙◌, ap, sym, subst, refl, ℕ, ◌+◌, Bool, true, false, not, cond, List, [], ◌∷◌, ◌++◌, length, Option, Some, None, is_some}
use Rattle.std.proofs.Common.{Result, Ok, Err, arith}
use Rattle.std.specs.Prelude.{◌||◌, ◌&&◌, ◌==◌, slice_get, if◌then◌else◌}
use Rattle.std.specs.List.{list_all}
use Rattle.std.specs.Ordering.{eq_by_cmp, is_eq, ordering_then}
use Rattle.std.specs.Cmp.{eq_by_cmp_equiv, nat_cmp_total}
use Rattle.std.proofs.lemmas.Cmp.{tied_itself}
use Rattle.std.proofs.lemmas.Option.{slice_get_within}
use Rattle.std.specs.FinMap.{get, get-insert}
use Rattle.inno_types.specs.declared.value.Value.{Value}
use Rattle.inno_types.specs.declared.value.Schema.{Schema}
use Rattle.inno_types.specs.declared.stmt.Literal.{Literal}
use Rattle.inno_types.specs.declared.stmt.Stmt.TheVariants.{Insert}
use Rattle.inno_types.specs.declared.reply.Reply.{Reply}
use Rattle.inno_types.specs.declared.reply.Reply.TheVariants.{Count}
use Rattle.inno_types.specs.declared.reply.SqlError.{SqlError}
use Rattle.inno_types.specs.declared.reply.SqlError.TheVariants.{Duplicate, NoColumn, TwiceNamed, WrongCount, Syntax, NoDefault}
use Rattle.inno_db.specs.declared.change.Change.{Change}
use Rattle.inno_db.specs.declared.change.Change.TheVariants.{Put}
use Rattle.inno_db.specs.declared.outcome.Outcome.{Outcome}
use Rattle.inno_db.specs.declared.outcome.Written.{Written}
use Rattle.inno_db.specs.Database.{Database, place_cmp, value_cmp, key_of, key_in, rows_of}
use Rattle.inno_db.specs.Names.{table_place}
use Rattle.inno_db.specs.Order.{place_cmp_total}
use Rattle.inno_db.specs.Changes.{apply_one, apply}
use Rattle.inno_db.specs.Expressions.{and_then}
use Rattle.inno_db.specs.Storing.{row_of_tuple}
use Rattle.inno_db.specs.Typing.{tuple_fits}
use Rattle.inno_db.specs.Refusals.{refusal, refused_if, on_table, schema_at, schema_named, insert_refusal, names_known, names_twice, width_of, leaves_out}
use Rattle.inno_db.specs.Outcome.{outcome, counted, count_unless, inserted, nothing, is_same_value, has_key, new_row, row_for, put_then, then_written}
use Rattle.inno_db.proofs.Keys.{IsKeyed-apply, has_key-get, key_in-at}
use Rattle.inno_db.specs.Keyed.{IsKeyed}
use Rattle.law_claims.proofs.Outcomes.{whole_is}
use Rattle.write_statement.specs.Following.{counted_on, followed_by}

-- ---- whether a key is there, whatever the order of the rows

or_last : (a b c : Bool) → (a || (b || c)) ≡ ((a || b) || c)
or_last true b c = refl
or_last false b c = refl

or_swap : (a b : Bool) → (a || b) ≡ (b || a)
or_swap true true = refl
or_swap true false = refl
or_swap false true = refl
or_swap false false = refl

has_key-more : (schema : Schema) (key : Value) (rows : List (List Value)) (row : List Value)
    → has_key schema key (rows ++ row ∷ []) ≡ (has_key schema key rows || is_same_value (key_of schema row) key)
has_key-more schema key [] row = or_swap (is_same_value (key_of schema row) key) false
has_key-more schema key (r ∷ rows) row =
    ap (λ b. is_same_value (key_of schema r) key || b) (has_key-more schema key rows row)
    ∙ or_last (is_same_value (key_of schema r) key) (has_key schema key rows) (is_same_value (key_of schema row) key)

same_place : (table : ℕ) (k key : Value) → is_same_value k key ≡ eq_by_cmp place_cmp (table, key) (table, k)
same_place table k key =
    sym (ap (λ o. is_eq (ordering_then o (value_cmp k key))) (tied_itself nat_cmp_total table))
    ∙ (eq_by_cmp_equiv place_cmp_total).symm (table, k) (table, key)

found_first : {A : Type 0} (b c : Bool) (x : A) (o : Option A) → b ≡ c → is_some (cond c (Some x) o) ≡ (b || is_some o)
found_first true true x o e = refl
found_first true false x o e = cc
found_first false true x o e = cc
found_first false false x o e = refl

module _ (db : Database) (n : ℕ) (schema : Schema) (row : List Value) (keyed : IsKeyed db) (is : slice_get db.schemas n ≡ Some schema) where
  keyed_after : IsKeyed (apply_one db (Put n row))
  keyed_after = IsKeyed-apply db (Put n row) (slice_get_within db.schemas n schema is) keyed

  -- with the row that was put the same keys are there as with the row behind the others
  key_after : (key : Value) → has_key schema key (rows_of n (apply_one db (Put n row))) ≡ has_key schema key (rows_of n db ++ row ∷ [])
  key_after key =
      let same : is_same_value (key_of schema row) key ≡ eq_by_cmp place_cmp (n, key) (n, key_in db.schemas n row) =
      same_place n (key_of schema row) key ∙ ap (λ (k : Value). eq_by_cmp place_cmp (n, key) (n, k)) (sym (key_in-at db.schemas n schema row is)) in
      has_key-get (apply_one db (Put n row)) n schema key keyed_after is
      ∙ (ap is_some (get-insert place_cmp_total db.rows (n, key_in db.schemas n row) row (n, key))
      ∙ (found_first (is_same_value (key_of schema row) key) (eq_by_cmp place_cmp (n, key) (n, key_in db.schemas n row)) row (get db.rows (n, key)) same
      ∙ (ap (λ b. is_same_value (key_of schema row) key || b) (sym (has_key-get db n schema key keyed is))
      ∙ (or_swap (is_same_value (key_of schema row) key) (has_key schema key (rows_of n db)) ∙ sym (has_key-more schema key (rows_of n db) row)))))

abbrev HaveSameKeys : Schema → List (List Value) → List (List Value) → Type 0
HaveSameKeys schema some others = (key : Value) → has_key schema key some ≡ has_key schema key others

module _ (table : ℕ) (schema : Schema) (names : Option (List (List ℕ))) where
  abbrev unless_there : List Value → Bool → Result (List Value) SqlError
  unless_there row there = if there then Err (Duplicate (key_of schema row)) else Ok row

  row_alike : (some others : List (List Value)) → HaveSameKeys schema some others → (made : Result (List Value) SqlError)
      → and_then made (new_row schema some) ≡ and_then made (new_row schema others)
  row_alike some others same (Ok row) = ap (unless_there row) (same (key_of schema row))
  row_alike some others same (Err error) = refl

  abbrev put : Result (List Value) SqlError → List (List Value) → List (List Literal) → Written
  put made rows tuples = put_then table made (λ row. inserted table schema names (rows ++ row ∷ []) tuples)

  keys_more : (some others : List (List Value)) (row : List Value) → HaveSameKeys schema some others
      → HaveSameKeys schema (some ++ row ∷ []) (others ++ row ∷ [])
  keys_more some others row same key =
      has_key-more schema key some row
      ∙ (ap (λ b. b || is_same_value (key_of schema row) key) (same key) ∙ sym (has_key-more schema key others row))

  -- of the rows an INSERT looks at their keys alone
  inserted_alike : (some others : List (List Value)) → HaveSameKeys schema some others → (tuples : List (List Literal))
      → inserted table schema names some tuples ≡ inserted table schema names others tuples
  inserted_alike some others same [] = refl
  inserted_alike some others same (tuple ∷ tuples) =
      ap (λ made. put made some tuples) (row_alike some others same (row_of_tuple schema.columns names tuple))
      ∙ elim (row_for schema names others tuple) as (λ made. put made some tuples ≡ put made others tuples) [
        | Ok row ↦ ap (then_written (Put table row)) (inserted_alike (some ++ row ∷ []) (others ++ row ∷ []) (keys_more some others row same) tuples)
        | Err error ↦ refl
      ]

-- ---- no tuple is refused by its text and the tables

abbrev chain : Bool → Bool → Bool → Bool → Bool → Option SqlError
chain a b c d e =
    refused_if (not a) NoColumn (refused_if b TwiceNamed (refused_if (not c) WrongCount (refused_if (not d) (Syntax 0) (refused_if e NoDefault None))))

passes : (a b c d e c' d' : Bool) → chain a b c d e ≡ None → (c ≡ true → c' ≡ true) → (d ≡ true → d' ≡ true) → chain a b c' d' e ≡ None
passes true false true true false c' d' is width fits =
    subst (λ x. chain true false x d' false ≡ None) (sym (width refl)) (subst (λ y. chain true false true y false ≡ None) (sym (fits refl)) refl)
passes true false true true true c' d' is width fits = cc
passes true false true false e c' d' is width fits = cc
passes true false false d e c' d' is width fits = cc
passes true true c d e c' d' is width fits = cc
passes false b c d e c' d' is width fits = cc

and_first : (a b : Bool) → (a && b) ≡ true → (a && true) ≡ true
and_first true b is = refl
and_first false b is = cc

and_second : (a b : Bool) → (a && b) ≡ true → b ≡ true
and_second true b is = is
and_second false b is = cc

module _ (names : Option (List (List ℕ))) (tuple : List Literal) (tuples : List (List Literal)) where
  passes_with : (schema : Schema) (some : List (List Literal))
      → ((test : List Literal → Bool) → list_all test (tuple ∷ tuples) ≡ true → list_all test some ≡ true)
      → insert_refusal names (tuple ∷ tuples) schema ≡ None → insert_refusal names some schema ≡ None
  passes_with schema some all is =
      let width : List Literal → Bool = λ t. length t == width_of schema.columns names in
      let fits : List Literal → Bool = λ t. tuple_fits names t 0 schema.columns in
      passes (names_known schema.columns names) (names_twice names) (list_all width (tuple ∷ tuples)) (list_all fits (tuple ∷ tuples))
      (leaves_out schema.columns names) (list_all width some) (list_all fits some) is (all width) (all fits)

  on_table_with : (o : Option Schema) (some : List (List Literal))
      → ((test : List Literal → Bool) → list_all test (tuple ∷ tuples) ≡ true → list_all test some ≡ true)
      → on_table o (insert_refusal names (tuple ∷ tuples)) ≡ None → on_table o (insert_refusal names some) ≡ None
  on_table_with None some all is = cc
  on_table_with (Some schema) some all is = passes_with schema some all is

  -- the first tuple alone, and the others without it
  pub parts_unrefused : (schemas : List Schema) (table : List ℕ) → refusal schemas (Insert table names (tuple ∷ tuples)) ≡ None
      → (refusal schemas (Insert table names (tuple ∷ [])) ≡ None) × (refusal schemas (Insert table names tuples) ≡ None)
  parts_unrefused schemas table is = (
    on_table_with (schema_named schemas table) (tuple ∷ []) (λ test all. and_first (test tuple) (list_all test tuples) all) is,
    on_table_with (schema_named schemas table) tuples (λ test all. and_second (test tuple) (list_all test tuples) all) is,
  )

-- ---- the outcome

-- a change more, before the others
abbrev told : Reply → List Change → Outcome
told reply changes = record { reply = reply; changes = changes }

one_more : (refused : Option SqlError) (change : Change) (changes : List Change)
    → told (count_unless refused (length (change ∷ changes))) (change ∷ changes)
    ≡ told (counted_on 1 (count_unless refused (length changes))) (change ∷ changes)
one_more None change changes =
    let more : length (change ∷ changes) ≡ 1 + length changes = omega arith in
    ap (λ (n : ℕ). told (Count n) (change ∷ changes)) more
one_more (Some error) change changes = refl

module _ (table : List ℕ) (names : Option (List (List ℕ))) where
  module _ (db : Database) (tuple : List Literal) (tuples : List (List Literal)) (keyed : IsKeyed db)
      (none : refusal db.schemas (Insert table names (tuple ∷ tuples)) ≡ None) where
    abbrev IsSplit : Outcome → Outcome → Type 0
    IsSplit whole first = whole ≡ followed_by first (outcome (Insert table names tuples) (apply db first.changes))

    module _ (n : ℕ) (schema : Schema) (at : table_place db.schemas table ≡ Some n) (is : slice_get db.schemas n ≡ Some schema) where
      rest_is : (row : List Value)
          → outcome (Insert table names tuples) (apply_one db (Put n row)) ≡ counted (inserted n schema names (rows_of n db ++ row ∷ []) tuples)
      rest_is row =
          whole_is (apply_one db (Put n row)) table names tuples n schema at is (parts_unrefused names tuple tuples db.schemas table none).1
          ∙ ap counted (inserted_alike n schema names (rows_of n (apply_one db (Put n row))) (rows_of n db ++ row ∷ [])
          (key_after db n schema row keyed is) tuples)

      by_row : (made : Result (List Value) SqlError)
          → IsSplit (counted (put_then n made (λ row. inserted n schema names (rows_of n db ++ row ∷ []) tuples))) (counted (put_then n made (λ row. nothing)))
      by_row (Ok row) =
          let written = inserted n schema names (rows_of n db ++ row ∷ []) tuples in
          one_more written.refusal (Put n row) written.changes
          ∙ sym (ap (λ (rest : Outcome). followed_by (counted (then_written (Put n row) nothing)) rest) (rest_is row))
      by_row (Err error) = refl

      with_table : IsSplit (outcome (Insert table names (tuple ∷ tuples)) db) (outcome (Insert table names (tuple ∷ [])) db)
      with_table =
          subst (λ (o : Outcome). IsSplit o (outcome (Insert table names (tuple ∷ [])) db)) (sym (whole_is db table names (tuple ∷ tuples) n schema at is none))
          (subst (IsSplit (counted (inserted n schema names (rows_of n db) (tuple ∷ tuples))))
          (sym (whole_is db table names (tuple ∷ []) n schema at is (parts_unrefused names tuple tuples db.schemas table none).0))
          (by_row (row_for schema names (rows_of n db) tuple)))

    pub insert_split : IsSplit (outcome (Insert table names (tuple ∷ tuples)) db) (outcome (Insert table names (tuple ∷ [])) db)
    insert_split = on_place (table_place db.schemas table) refl where
      no_table : {A : Type 0} → schema_named db.schemas table ≡ None → A
      no_table absent = (let refused = sym (ap (λ o. on_table o (insert_refusal names (tuple ∷ tuples))) absent) ∙ none in cc)

      on_place : (p : Option ℕ) → table_place db.schemas table ≡ p
          → IsSplit (outcome (Insert table names (tuple ∷ tuples)) db) (outcome (Insert table names (tuple ∷ [])) db)
      on_place None at = no_table (ap (schema_at db.schemas) at)
      on_place (Some n) at = on_found (slice_get db.schemas n) refl where
        on_found : (o : Option Schema) → slice_get db.schemas n ≡ o
            → IsSplit (outcome (Insert table names (tuple ∷ tuples)) db) (outcome (Insert table names (tuple ∷ [])) db)
        on_found None is = no_table (ap (schema_at db.schemas) at ∙ is)
        on_found (Some schema) is = with_table n schema at is
