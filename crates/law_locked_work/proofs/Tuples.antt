-- What the first tuple of an INSERT comes to over a database, by what is at its key; and the whole by it.
-- `Telling` alone cites it. The outcome is that of the plain statement, cut behind its first tuple.
use Rattle.std.proofs.Common.{◌≡◌, ◌∙◌, ap, sym, subst, refl, ℕ, ◌+◌, Bool, true, false, List, [], ◌∷◌, ◌++◌, length, Option, Some, None, is_some, Result, Ok}
use Rattle.std.proofs.Common.{Err, arith}
use Rattle.std.proofs.lemmas.List.{append_assoc, length-append}
use Rattle.std.specs.Prelude.{slice_get, if◌then◌else◌}
use Rattle.std.specs.FinMap.{get}
use Rattle.inno_types.specs.declared.value.Value.{Value}
use Rattle.inno_types.specs.declared.value.Schema.{Schema}
use Rattle.inno_types.specs.declared.stmt.Literal.{Literal}
use Rattle.inno_types.specs.declared.stmt.Stmt.{Stmt}
use Rattle.inno_types.specs.declared.stmt.Stmt.TheVariants.{Insert}
use Rattle.inno_types.specs.declared.reply.Reply.{Reply}
use Rattle.inno_types.specs.declared.reply.Reply.TheVariants as replies
use Rattle.inno_types.specs.declared.reply.Reply.TheVariants.{Count, Fail}
use Rattle.inno_types.specs.declared.reply.SqlError.{SqlError}
use Rattle.inno_types.specs.declared.reply.SqlError.TheVariants.{Duplicate}
use Rattle.inno_db.specs.declared.change.Change.{Change}
use Rattle.inno_db.specs.declared.change.Change.TheVariants.{Put}
use Rattle.inno_db.specs.declared.outcome.Outcome.{Outcome}
use Rattle.inno_db.specs.Database.{Database, key_of, rows_of}
use Rattle.inno_db.specs.Names.{table_place}
use Rattle.inno_db.specs.Changes.{apply}
use Rattle.inno_db.specs.Expressions.{and_then}
use Rattle.inno_db.specs.Refusals.{refusal}
use Rattle.inno_db.specs.Storing.{row_of_tuple}
use Rattle.inno_db.specs.Outcome.{outcome, counted, inserted, nothing, put_then, new_row}
use Rattle.inno_db.specs.Keyed.{IsKeyed}
use Rattle.inno_db.proofs.Keys.{has_key-get}
use Rattle.inno_db.proofs.Applying.{apply-append}
use Rattle.law_claims.proofs.Outcomes.{whole_is}
use Rattle.write_statement.specs.Following.{counted_on, followed_by}
use Rattle.write_statement.specs.Parts.{GoesOnWith}
use Rattle.write_statement.proofs.TupleByTuple.{insert_split, parts_unrefused}

-- one row is put
abbrev pub one_put : ℕ → List Value → Outcome
one_put n row = record { reply = Count 1; changes = Put n row ∷ [] }

abbrev pub refused_by : SqlError → Outcome
refused_by error = record { reply = Fail error; changes = [] }

module _ (name : List ℕ) (names : Option (List (List ℕ))) (tuple : List Literal) (tuples : List (List Literal)) (db : Database) (n : ℕ) (schema : Schema)
    (keyed : IsKeyed db) (named : table_place db.schemas name ≡ Some n) (there : slice_get db.schemas n ≡ Some schema)
    (unrefused : refusal db.schemas (Insert name names (tuple ∷ tuples)) ≡ None) where
  abbrev first : Outcome
  first = outcome (Insert name names (tuple ∷ [])) db

  first_is : first ≡ counted (inserted n schema names (rows_of n db) (tuple ∷ []))
  first_is = whole_is db name names (tuple ∷ []) n schema named there (parts_unrefused names tuple tuples db.schemas name unrefused).0

  by_made : (made : Result (List Value) SqlError) → row_of_tuple schema.columns names tuple ≡ made
      → first ≡ counted (put_then n (and_then made (new_row schema (rows_of n db))) (λ row. nothing))
  by_made made is = first_is ∙ ap (λ (m : Result (List Value) SqlError). counted (put_then n (and_then m (new_row schema (rows_of n db))) (λ row. nothing))) is

  by_key : (row : List Value) → row_of_tuple schema.columns names tuple ≡ Ok row → (b : Bool) → is_some (get db.rows (n, key_of schema row)) ≡ b
      → first ≡ counted (put_then n (if b then Err (Duplicate (key_of schema row)) else Ok row) (λ row. nothing))
  by_key row is b at =
      by_made (Ok row) is
      ∙ ap (λ t. counted (put_then n (if t then Err (Duplicate (key_of schema row)) else Ok row) (λ row. nothing)))
      (has_key-get db n schema (key_of schema row) keyed there ∙ at)

  -- no row has its key: it is put
  pub puts : (row : List Value) → row_of_tuple schema.columns names tuple ≡ Ok row → get db.rows (n, key_of schema row) ≡ None → first ≡ one_put n row
  puts row is absent = by_key row is false (ap is_some absent)

  -- a row has its key
  pub refuses : (row : List Value) → row_of_tuple schema.columns names tuple ≡ Ok row → is_some (get db.rows (n, key_of schema row)) ≡ true
      → first ≡ refused_by (Duplicate (key_of schema row))
  refuses row is at = by_key row is true at

  -- its values make no row
  pub unmade : (error : SqlError) → row_of_tuple schema.columns names tuple ≡ Err error → first ≡ refused_by error
  unmade error is = by_made (Err error) is

  -- ---- the whole behind changes

  abbrev all : Outcome
  all = outcome (Insert name names (tuple ∷ tuples)) db

  split : all ≡ followed_by first (outcome (Insert name names tuples) (apply db first.changes))
  split = insert_split name names db tuple tuples keyed unrefused

  with_first : (o : Outcome) → first ≡ o → all ≡ followed_by o (outcome (Insert name names tuples) (apply db o.changes))
  with_first o is = subst (λ (f : Outcome). all ≡ followed_by f (outcome (Insert name names tuples) (apply db f.changes))) is split

counted_twice : (a b : ℕ) (reply : Reply) → counted_on a (counted_on b reply) ≡ counted_on (a + b) reply
counted_twice a b (replies.Count n) = (let same : a + (b + n) ≡ (a + b) + n = omega arith in ap replies.Count same)
counted_twice a b other = refl

module _ (statement : Stmt) (name : List ℕ) (names : Option (List (List ℕ))) (tuple : List Literal) (tuples : List (List Literal)) (below : Database)
    (made : List Change) (n : ℕ) (schema : Schema) (keyed : IsKeyed (apply below made)) (named : table_place (apply below made).schemas name ≡ Some n)
    (there : slice_get (apply below made).schemas n ≡ Some schema)
    (unrefused : refusal (apply below made).schemas (Insert name names (tuple ∷ tuples)) ≡ None)
    (goes : GoesOnWith statement below made (outcome (Insert name names (tuple ∷ tuples)))) where
  -- the outcome goes on with the tuples left
  pub goes_on : (row : List Value) → row_of_tuple schema.columns names tuple ≡ Ok row → get (apply below made).rows (n, key_of schema row) ≡ None
      → GoesOnWith statement below (made ++ Put n row ∷ []) (outcome (Insert name names tuples))
  goes_on row is absent =
      let put = Put n row in
      let rest = outcome (Insert name names tuples) in
      let whole = with_first name names tuple tuples (apply below made) n schema keyed named there unrefused (one_put n row)
      (puts name names tuple tuples (apply below made) n schema keyed named there unrefused row is absent) in
      let at : rest (apply (apply below made) (put ∷ [])) ≡ rest (apply below (made ++ put ∷ [])) = ap rest (sym (apply-append below made (put ∷ []))) in
      record {
        changes =
            goes.changes
            ∙ (ap (λ (o : Outcome). made ++ o.changes) whole
            ∙ (ap (λ (o : Outcome). made ++ put ∷ o.changes) at ∙ sym (append_assoc made (put ∷ []) (rest (apply below (made ++ put ∷ []))).changes)));
        reply =
            goes.reply
            ∙ (ap (λ (o : Outcome). counted_on (length made) o.reply) whole
            ∙ (ap (λ (o : Outcome). counted_on (length made) (counted_on 1 o.reply)) at
            ∙ (counted_twice (length made) 1 (rest (apply below (made ++ put ∷ []))).reply
            ∙ ap (λ m. counted_on m (rest (apply below (made ++ put ∷ []))).reply) (sym (length-append made (put ∷ []))))));
      }

  by_refusal : (error : SqlError) → outcome (Insert name names (tuple ∷ [])) (apply below made) ≡ refused_by error
      → (outcome statement below).reply ≡ Fail error
  by_refusal error is =
      goes.reply
      ∙ ap (λ (o : Outcome). counted_on (length made) o.reply)
      (with_first name names tuple tuples (apply below made) n schema keyed named there unrefused (refused_by error) is)

  -- it is refused for the row that is there
  pub is_taken : (row : List Value) → row_of_tuple schema.columns names tuple ≡ Ok row → is_some (get (apply below made).rows (n, key_of schema row)) ≡ true
      → (outcome statement below).reply ≡ Fail (Duplicate (key_of schema row))
  is_taken row is at =
      by_refusal (Duplicate (key_of schema row))
      (refuses name names tuple tuples (apply below made) n schema keyed named there unrefused row is at)

  -- it is refused for its values, whatever rows there are
  pub is_unmade : (error : SqlError) → row_of_tuple schema.columns names tuple ≡ Err error → (outcome statement below).reply ≡ Fail error
  is_unmade error is = by_refusal error (unmade name names tuple tuples (apply below made) n schema keyed named there unrefused error is)
