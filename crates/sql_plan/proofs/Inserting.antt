-- An INSERT depends on rows by the keys that its own rows have.
use Rattle.std.proofs.Common.{◌≡◌, ℕ, Bool, true, false, cond, ◌||◌, List, [], ◌∷◌, ◌++◌, Option, Result, Ok, Err, refl, sym, ap, subst, ◌∙◌, inl, inr}
use Rattle.std.proofs.lemmas.Bool.{false≢true}
use Rattle.std.proofs.lemmas.List.{append-nil, append_assoc}
use Rattle.std.proofs.lemmas.List.Elements.{All-head, All-tail}
use Rattle.std.specs.Prelude.{All, filter}
use Rattle.std.specs.List.{list_any}
use Rattle.inno_types.specs.declared.value.Value.{Value}
use Rattle.inno_types.specs.declared.value.Schema.{Schema}
use Rattle.inno_types.specs.declared.stmt.Literal.{Literal}
use Rattle.inno_types.specs.declared.reply.SqlError.{SqlError}
use Rattle.inno_types.specs.declared.reply.SqlError.TheVariants.{Duplicate}
use Rattle.inno_db.specs.declared.change.Change.TheVariants.{Put}
use Rattle.inno_db.specs.declared.outcome.Written.{Written}
use Rattle.inno_db.specs.Database.{key_of}
use Rattle.inno_db.specs.Expressions.{and_then}
use Rattle.inno_db.specs.Outcome.{inserted, is_same_value, has_key, new_row, put_then, then_written, refused}
use Rattle.inno_db.specs.Storing.{row_of_tuple}
use Rattle.sql_plan.specs.Visits.{IsRowOf}
use Rattle.sql_plan.specs.Keys.{IsMade}

never : (b : Bool) → (b ≡ true → ⊥) → b ≡ false
never true refuted = absurd (refuted refl)
never false refuted = refl

module _ (test passes : List Value → Bool) (P : List Value → Type 0) (extra : List (List Value))
    (holds : (row : List Value) → P row → test row ≡ true → passes row ≡ true) where
  -- whether one of the rows is found doesn't depend on those that don't pass
  any_same : (rows : List (List Value)) → All P rows → list_any test (filter passes rows ++ extra) ≡ list_any test (rows ++ extra)
  any_same [] all = refl
  any_same (row ∷ rows) all = go (passes row) refl (any_same rows (All-tail P row rows all)) where
    go : (b : Bool) → passes row ≡ b → list_any test (filter passes rows ++ extra) ≡ list_any test (rows ++ extra)
        → list_any test (cond b (row ∷ filter passes rows) (filter passes rows) ++ extra) ≡ (test row || list_any test (rows ++ extra))
    go true is rest = ap (λ b. test row || b) rest
    go false is rest =
        let not_found : test row ≡ false = never (test row) (λ found. false≢true (sym is ∙ holds row (All-head P row rows all) found)) in
        rest ∙ sym (ap (λ b. b || list_any test (rows ++ extra)) not_found)

module _ (passes : List Value → Bool) (table : ℕ) (schema : Schema) (names : Option (List (List ℕ))) (rows : List (List Value))
    (all : All (IsRowOf schema.columns) rows) where
  -- with the rows that were added before
  abbrev Same : List (List Literal) → Type 0
  Same tuples =
      (extra : List (List Value))
      → inserted table schema names (filter passes rows ++ extra) tuples ≡ inserted table schema names (rows ++ extra) tuples

  module _ (tuples : List (List Literal)) (later : Same tuples) (extra : List (List Value)) (new : List Value)
      (holds : (row : List Value) → IsRowOf schema.columns row → is_same_value (key_of schema row) (key_of schema new) ≡ true → passes row ≡ true) where
    key_same : has_key schema (key_of schema new) (filter passes rows ++ extra) ≡ has_key schema (key_of schema new) (rows ++ extra)
    key_same = any_same (λ row. is_same_value (key_of schema row) (key_of schema new)) passes (IsRowOf schema.columns) extra holds rows all

    abbrev after : Bool → List (List Value) → Written
    after there others =
        put_then table (cond there (Err (Duplicate (key_of schema new))) (Ok new)) (λ row. inserted table schema names (others ++ row ∷ []) tuples)

    put_same : (there : Bool) → after there (filter passes rows ++ extra) ≡ after there (rows ++ extra)
    put_same true = refl
    put_same false =
        ap (then_written (Put table new))
        (ap (λ others. inserted table schema names others tuples) (append_assoc (filter passes rows) extra (new ∷ []))
        ∙ (later (extra ++ new ∷ [])
        ∙ ap (λ others. inserted table schema names others tuples) (sym (append_assoc rows extra (new ∷ [])))))

    made_same : after (has_key schema (key_of schema new) (filter passes rows ++ extra)) (filter passes rows ++ extra)
        ≡ after (has_key schema (key_of schema new) (rows ++ extra)) (rows ++ extra)
    made_same = ap (λ there. after there (filter passes rows ++ extra)) key_same ∙ put_same (has_key schema (key_of schema new) (rows ++ extra))

  abbrev put : List (List Literal) → Result (List Value) SqlError → List (List Value) → Written
  put tuples made others = put_then table (and_then made (new_row schema others)) (λ row. inserted table schema names (others ++ row ∷ []) tuples)

  inserted_same : (tuples : List (List Literal))
      → ((row new : List Value) → IsRowOf schema.columns row → IsMade schema.columns names tuples new
      → is_same_value (key_of schema row) (key_of schema new) ≡ true → passes row ≡ true) → Same tuples
  inserted_same [] holds extra = refl
  inserted_same (tuple ∷ tuples) holds extra =
      go (row_of_tuple schema.columns names tuple) refl
      (inserted_same tuples (λ row new fits made same. holds row new fits (inr made) same)) where
        go : (made : Result (List Value) SqlError) → row_of_tuple schema.columns names tuple ≡ made → Same tuples
            → put tuples made (filter passes rows ++ extra) ≡ put tuples made (rows ++ extra)
        go (Err error) is later = refl
        go (Ok new) is later = made_same tuples later extra new (λ row fits same. holds row new fits (inl is) same)

  pub other_keys : (tuples : List (List Literal))
      → ((row new : List Value) → IsRowOf schema.columns row → IsMade schema.columns names tuples new
      → is_same_value (key_of schema row) (key_of schema new) ≡ true → passes row ≡ true)
      → inserted table schema names (filter passes rows) tuples ≡ inserted table schema names rows tuples
  other_keys tuples holds =
      ap (λ others. inserted table schema names others tuples) (sym (append-nil (filter passes rows)))
      ∙ (inserted_same tuples holds [] ∙ ap (λ others. inserted table schema names others tuples) (append-nil rows))
