-- Each row with the key of a row that the tuples make meets the condition that they give.
use Rattle.std.proofs.Common.{◌≡◌, ℕ, zero, suc, ◌+◌, ◌<◌, ◌==◌, Bool, true, false, cond, ◌&&◌, List, [], ◌∷◌, Option, Some, None, Result, Ok, Err, map, length, get_or, refl, sym, ap, subst, ◌∙◌, inl, inr, arith}
use Rattle.std.proofs.lemmas.Bool.{false≢true}
use Rattle.std.proofs.lemmas.Bool.Decides.{nat_tests, eqb_tells}
use Rattle.std.proofs.lemmas.Option.{slice_get-get_or}
use Rattle.std.specs.Prelude.{IfOk, filter, slice_get, slice_index_or, if◌then◌else◌}
use Rattle.std.specs.List.{list_all}
use Rattle.inno_types.specs.declared.value.Value.{Value}
use Rattle.inno_types.specs.declared.value.Value.TheVariants.{Null, Int, Text}
use Rattle.inno_types.specs.declared.value.Column.{Column}
use Rattle.inno_types.specs.declared.value.Schema.{Schema}
use Rattle.inno_types.specs.declared.stmt.Comparison.TheVariants.{Equal}
use Rattle.inno_types.specs.declared.stmt.Literal.{Literal}
use Rattle.inno_types.specs.declared.stmt.Literal.TheVariants as literal
use Rattle.inno_types.specs.declared.reply.SqlError.{SqlError}
use Rattle.inno_db.specs.declared.data_type.DataType.{DataType}
use Rattle.inno_db.specs.declared.truth.Truth.{Truth}
use Rattle.inno_db.specs.declared.truth.Truth.TheVariants.{True, False, Unknown}
use Rattle.inno_db.specs.Database.{key_of}
use Rattle.inno_db.specs.Names.{column_place, column_at, value_at}
use Rattle.inno_db.specs.Conditions.{or_of, truth_from, compared, literal_value, is_in, truth_of}
use Rattle.inno_db.specs.Expressions.{and_then, literal_given}
use Rattle.inno_db.specs.Outcome.{is_same_value}
use Rattle.inno_db.specs.Storing.{place_in_tuple, literal_at, stored, misfit, unless_refused, values_from, row_of_tuple}
use Rattle.inno_db.specs.Typing.{type_of, type_if, literal_fits, given_fits, all_fit, filter_fits, tuple_fits}
use Rattle.sql_plan.specs.declared.choice.Plan.{Plan}
use Rattle.sql_plan.specs.Plans.{whole_index}
use Rattle.inno_types.specs.Ranges.{is_within}
use Rattle.sql_plan.specs.Visits.{index_key}
use Rattle.sql_plan.specs.Keys.{is_value, values_given, has_given_key, is_place, is_plain_key, IsMade}
use Rattle.sql_plan.specs.Planning.{Covers, HoldsKeys}

-- ---- what a tuple gives

bound : {A B : Type 0} (r : Result A SqlError) (f : A → Result B SqlError) (y : B) → and_then r f ≡ Ok y → (x : A) × (r ≡ Ok x) × (f x ≡ Ok y)
bound (Ok x) f y is = (x, refl, is)
bound (Err error) f y is = cc

same_ok : {A : Type 0} (a b : A) (r : Result A SqlError) → r ≡ Ok a → r ≡ Ok b → a ≡ b
same_ok a b r is also = (let x : Ok a ≡ Ok b = sym is ∙ also in cc)

same_some : {A : Type 0} (a b : A) → Some a ≡ Some b → a ≡ b
same_some a b is = cc

both_true : (a b : Bool) → a && b ≡ true → (a ≡ true) × (b ≡ true)
both_true true b is = (refl, is)
both_true false b is = absurd (false≢true is)

module _ (names : Option (List (List ℕ))) (tuple : List Literal) where
  -- the column takes what the tuple gives for it as this value
  abbrev IsTaken : Column → ℕ → Value → Type 0
  IsTaken column place value = (v : Value) × (literal_given (literal_at tuple (place_in_tuple names place column)) ≡ Ok v) × (stored column v ≡ Ok value)

  value_made : (columns : List Column) (start i place : ℕ) (column : Column) (row : List Value) → values_from names tuple start columns ≡ Ok row
      → slice_get columns i ≡ Some column → place ≡ start + i → IsTaken column place (slice_index_or row i Null)
  value_made [] start i place column row made there at = (let x = there in cc)
  value_made (c ∷ columns) start zero place column row made there at =
      let first = bound (and_then (literal_given (literal_at tuple (place_in_tuple names start c))) (stored c))
      (λ value. and_then (values_from names tuple (start + 1) columns) (λ values. Ok (value ∷ values))) row made in
      let given = bound (literal_given (literal_at tuple (place_in_tuple names start c))) (stored c) first.0 first.1 in
      let rest = bound (values_from names tuple (start + 1) columns) (λ values. Ok (first.0 ∷ values)) row first.2 in
      let row_is : first.0 ∷ rest.0 ≡ row = same_ok (first.0 ∷ rest.0) row (Ok (first.0 ∷ rest.0)) refl rest.2 in
      let here : IsTaken c start first.0 = (given.0, given.1, given.2) in
      subst (λ (r : List Value). IsTaken column place (slice_index_or r zero Null)) row_is
      (subst (λ (k : Column). IsTaken k place first.0) (same_some c column there)
      (subst (λ (n : ℕ). IsTaken c n first.0) (omega (arith, at)) here))
  value_made (c ∷ columns) start (suc i) place column row made there at =
      let first = bound (and_then (literal_given (literal_at tuple (place_in_tuple names start c))) (stored c))
      (λ value. and_then (values_from names tuple (start + 1) columns) (λ values. Ok (value ∷ values))) row made in
      let rest = bound (values_from names tuple (start + 1) columns) (λ values. Ok (first.0 ∷ values)) row first.2 in
      let row_is : first.0 ∷ rest.0 ≡ row = same_ok (first.0 ∷ rest.0) row (Ok (first.0 ∷ rest.0)) refl rest.2 in
      subst (λ (r : List Value). IsTaken column place (slice_index_or r (suc i) Null)) row_is
      (value_made columns (start + 1) i place column rest.0 rest.1 there (omega (arith, at)))

  fits_made : (columns : List Column) (start i place : ℕ) (column : Column) → tuple_fits names tuple start columns ≡ true
      → slice_get columns i ≡ Some column → place ≡ start + i
      → given_fits (type_of column.kind) (literal_at tuple (place_in_tuple names place column)) ≡ true
  fits_made [] start i place column fits there at = (let x = there in cc)
  fits_made (c ∷ columns) start zero place column fits there at =
      subst (λ (k : Column). given_fits (type_of k.kind) (literal_at tuple (place_in_tuple names place k)) ≡ true) (same_some c column there)
      (subst (λ (n : ℕ). given_fits (type_of c.kind) (literal_at tuple (place_in_tuple names n c)) ≡ true) (omega (arith, at))
      (both_true (given_fits (type_of c.kind) (literal_at tuple (place_in_tuple names start c))) (tuple_fits names tuple (start + 1) columns) fits).0)
  fits_made (c ∷ columns) start (suc i) place column fits there at =
      fits_made columns (start + 1) i place column
      (both_true (given_fits (type_of c.kind) (literal_at tuple (place_in_tuple names start c))) (tuple_fits names tuple (start + 1) columns) fits).1
      there (omega (arith, at))

-- ---- the value that a column takes

taken_same : (o : Option SqlError) (v w : Value) → unless_refused o v ≡ Ok w → v ≡ w
taken_same None v w is = same_ok v w (Ok v) refl is
taken_same (Some error) v w is = cc

never_null : (not_null : Bool) (error : SqlError) (w : Value) → not_null ≡ true
    → unless_refused (if not_null then Some error else None) Null ≡ Ok w → ⊥
never_null true error w is taken = (let x = taken in cc)
never_null false error w is taken = false≢true is

value_of : (column : Column) → column.not_null ≡ true → (l : Literal) (v w : Value) → literal_given l ≡ Ok v → stored column v ≡ Ok w
    → (is_value l ≡ true) × (literal_value l ≡ w)
value_of column not_null literal.Null v w given is =
    let null : Null ≡ v = same_ok Null v (Ok Null) refl given in
    absurd (never_null column.not_null _ w not_null (subst (λ (x : Value). stored column x ≡ Ok w) (sym null) is))
value_of column not_null (literal.Int n) v w given is =
    (refl, same_ok (Int n) v (Ok (Int n)) refl given ∙ taken_same (misfit column v) v w is)
value_of column not_null literal.TooBig v w given is = (let x = given in cc)
value_of column not_null (literal.Text text) v w given is =
    (refl, same_ok (Text text) v (Ok (Text text)) refl given ∙ taken_same (misfit column v) v w is)

equal_compared : (k : Value) (l : Literal) → is_value l ≡ true → is_same_value k (literal_value l) ≡ true → compared Equal k (literal_value l) ≡ True
equal_compared k literal.Null is same = absurd (false≢true is)
equal_compared k literal.TooBig is same = absurd (false≢true is)
equal_compared Null (literal.Int n) is same = absurd (false≢true same)
equal_compared (Int m) (literal.Int n) is same = ap truth_from same
equal_compared (Text t) (literal.Int n) is same = ap truth_from same
equal_compared Null (literal.Text text) is same = absurd (false≢true same)
equal_compared (Int m) (literal.Text text) is same = ap truth_from same
equal_compared (Text t) (literal.Text text) is same = ap truth_from same

value_fits : (type : DataType) (l : Literal) → is_value l ≡ true → given_fits type l ≡ true → literal_fits type l ≡ true
value_fits type literal.Null is fits = absurd (false≢true is)
value_fits type (literal.Int n) is fits = fits
value_fits type literal.TooBig is fits = absurd (false≢true is)
value_fits type (literal.Text text) is fits = fits

or_right : (a b : Truth) → b ≡ True → or_of a b ≡ True
or_right True b is = refl
or_right False b is = is
or_right Unknown b is = ap (or_of Unknown) is

or_left : (a b : Truth) → a ≡ True → or_of a b ≡ True
or_left a b is = ap (λ x. or_of x b) is

-- ---- the condition

module _ (schema : Schema) (names : Option (List (List ℕ))) (column : Column) (there : slice_get schema.columns schema.primary ≡ Some column)
    (not_null : column.not_null ≡ true) (named : column_place schema.columns column.name ≡ Some schema.primary) where
  key_made : (tuple : List Literal) (new : List Value) → row_of_tuple schema.columns names tuple ≡ Ok new
      → (is_value (literal_at tuple (place_in_tuple names schema.primary column)) ≡ true)
      × (literal_value (literal_at tuple (place_in_tuple names schema.primary column)) ≡ key_of schema new)
  key_made tuple new made =
      let taken = value_made names tuple schema.columns 0 schema.primary schema.primary column new made there (omega arith) in
      value_of column not_null (literal_at tuple (place_in_tuple names schema.primary column)) taken.0 (key_of schema new) taken.1 taken.2

  in_given : (tuples : List (List Literal)) (k : Value) (new : List Value) → IsMade schema.columns names tuples new
      → is_same_value k (key_of schema new) ≡ true → is_in k (values_given (place_in_tuple names schema.primary column) tuples) ≡ True
  in_given [] k new made same = absurd made
  in_given (tuple ∷ tuples) k new made same = go (is_value here) refl made (λ later. in_given tuples k new later same) where
    here : Literal
    here = literal_at tuple (place_in_tuple names schema.primary column)

    others : List (List Literal)
    others = filter (λ t. is_value (literal_at t (place_in_tuple names schema.primary column))) tuples

    go : (b : Bool) → is_value here ≡ b → IsMade schema.columns names (tuple ∷ tuples) new
        → (IsMade schema.columns names tuples new → is_in k (values_given (place_in_tuple names schema.primary column) tuples) ≡ True)
        → is_in k (map (λ t. literal_at t (place_in_tuple names schema.primary column)) (cond b (tuple ∷ others) others)) ≡ True
    go true is (inl mine) rest =
        let key = key_made tuple new mine in
        or_left (compared Equal k (literal_value here)) _
        (equal_compared k here key.0 (subst (λ (v : Value). is_same_value k v ≡ true) (sym key.1) same))
    go true is (inr later) rest = or_right (compared Equal k (literal_value here)) _ (rest later)
    go false is (inl mine) rest = absurd (false≢true (sym is ∙ (key_made tuple new mine).0))
    go false is (inr later) rest = rest later

  all_fitting : (tuples : List (List Literal)) → list_all (λ t. tuple_fits names t 0 schema.columns) tuples ≡ true
      → list_all (literal_fits (type_of column.kind)) (values_given (place_in_tuple names schema.primary column) tuples) ≡ true
  all_fitting [] fits = refl
  all_fitting (tuple ∷ tuples) fits =
      go (is_value here) refl (both_true (tuple_fits names tuple 0 schema.columns) (list_all (λ t. tuple_fits names t 0 schema.columns) tuples) fits).0
      (all_fitting tuples (both_true (tuple_fits names tuple 0 schema.columns) (list_all (λ t. tuple_fits names t 0 schema.columns) tuples) fits).1) where
        here : Literal
        here = literal_at tuple (place_in_tuple names schema.primary column)

        others : List (List Literal)
        others = filter (λ t. is_value (literal_at t (place_in_tuple names schema.primary column))) tuples

        go : (b : Bool) → is_value here ≡ b → tuple_fits names tuple 0 schema.columns ≡ true
            → list_all (literal_fits (type_of column.kind)) (values_given (place_in_tuple names schema.primary column) tuples) ≡ true
            → list_all (literal_fits (type_of column.kind)) (map (λ t. literal_at t (place_in_tuple names schema.primary column)) (cond b (tuple ∷ others) others))
            ≡ true
        go true is mine rest =
            ap (λ b. b && list_all (literal_fits (type_of column.kind)) (map (λ t. literal_at t (place_in_tuple names schema.primary column)) others))
            (value_fits (type_of column.kind) here is (fits_made names tuple schema.columns 0 schema.primary schema.primary column mine there (omega arith)))
            ∙ rest
        go false is mine rest = rest

  fitting : (tuples : List (List Literal)) → list_all (λ t. tuple_fits names t 0 schema.columns) tuples ≡ true
      → filter_fits schema.columns (has_given_key names tuples schema.primary column) ≡ true
  fitting tuples fits =
      let literals = values_given (place_in_tuple names schema.primary column) tuples in
      ap (λ o. all_fit literals (type_if (column_at schema.columns o))) named ∙ (ap (λ o. all_fit literals (type_if o)) there ∙ all_fitting tuples fits)

  meets : (tuples : List (List Literal)) (row new : List Value) → IsMade schema.columns names tuples new
      → is_same_value (key_of schema row) (key_of schema new) ≡ true
      → truth_of schema.columns row (has_given_key names tuples schema.primary column) ≡ True
  meets tuples row new made same =
      ap (λ o. is_in (value_at row o) (values_given (place_in_tuple names schema.primary column) tuples)) named ∙ in_given tuples (key_of schema row) new made same

  pub holds_keys : (tuples : List (List Literal)) (plan : Plan) → Covers schema (has_given_key names tuples schema.primary column) plan
      → HoldsKeys schema names tuples plan
  holds_keys tuples plan covers = λ fits row new of_columns made same. covers (fitting tuples fits) row of_columns (meets tuples row new made same)

-- the tests of a plain key
pub plain_parts : (columns : List Column) (place : ℕ) (column : Column) → is_plain_key columns place column ≡ true
    → (column.not_null ≡ true) × (column_place columns column.name ≡ Some place)
plain_parts columns place column is =
    let parts = both_true column.not_null (is_place (column_place columns column.name) place) is in
    (parts.0, at_place (column_place columns column.name) parts.1) where
      at_place : (o : Option ℕ) → is_place o place ≡ true → o ≡ Some place
      at_place None is = absurd (false≢true is)
      at_place (Some other) is = elim (eqb_tells other place) [ inl same ↦ ap Some same.1 | inr differ ↦ absurd (false≢true (sym differ.0 ∙ is)) ]

pub keys_if : {E : Type 0} (r : Result Plan E) (schema : Schema) (names : Option (List (List ℕ))) (tuples : List (List Literal)) (column : Column)
    → slice_get schema.columns schema.primary ≡ Some column → is_plain_key schema.columns schema.primary column ≡ true
    → IfOk r (Covers schema (has_given_key names tuples schema.primary column)) → IfOk r (HoldsKeys schema names tuples)
keys_if (Ok plan) schema names tuples column there plain covers =
    let parts = plain_parts schema.columns schema.primary column plain in holds_keys schema names column there parts.0 parts.1 tuples plan covers
keys_if (Err error) schema names tuples column there plain covers = tt

-- the column that stands at a place
pub named_column : (columns found : List Column) (at place : ℕ) (column : Column) → found ≡ columns → at ≡ place → at < length found
    → column ≡ get_or found at column → slice_get columns place ≡ Some column
named_column columns found at place column same number within is =
    ap (slice_get columns) (sym number) ∙ (ap (λ (l : List Column). slice_get l at) (sym same)
    ∙ (slice_get-get_or found at column within ∙ ap Some (sym is)))
