-- Outcomes stand on their basis.
use Rattle.std.proofs.Common.{◌≡◌, ◌∙◌, ap, sym, refl, subst, ℕ, ◌<◌, Bool, true, false, List, [], ◌∷◌, ◌++◌, Option, Some, None, is_some, Result, Ok, Err, inl}
use Rattle.std.proofs.Common.{inr, length}
use Rattle.std.proofs.lemmas.Bool.{false≢true}
use Rattle.std.specs.Prelude.{slice_get, if◌then◌else◌}
use Rattle.std.specs.FinMap.{get}
use Rattle.inno_types.specs.declared.value.Value.{Value}
use Rattle.inno_types.specs.declared.value.Schema.{Schema}
use Rattle.inno_types.specs.declared.stmt.Literal.{Literal}
use Rattle.inno_types.specs.declared.stmt.Stmt.{Stmt}
use Rattle.inno_types.specs.declared.stmt.Stmt.TheVariants as stmt
use Rattle.inno_types.specs.declared.reply.Reply.TheVariants.{Count, Fail}
use Rattle.inno_types.specs.declared.reply.SqlError.{SqlError}
use Rattle.inno_types.specs.declared.reply.SqlError.TheVariants.{Duplicate}
use Rattle.inno_db.specs.declared.change.Change.{Change}
use Rattle.inno_db.specs.declared.change.Change.TheVariants.{Create, Put, Remove}
use Rattle.inno_db.specs.Database.{Database, Place, key_of, rows_of}
use Rattle.inno_db.specs.Expressions.{and_then}
use Rattle.inno_db.specs.Names.{table_place}
use Rattle.inno_db.specs.Refusals.{refusal}
use Rattle.inno_db.specs.Storing.{row_of_tuple}
use Rattle.inno_db.specs.Outcome.{outcome, unless_refused, answer_to, counted, inserted, insert_answer, has_key, new_row, put_then, nothing, on_rows, on_number, on_schema}
use Rattle.inno_db.proofs.Keys.{IsKeyed-apply, has_key-get}
use Rattle.inno_db.specs.Keyed.{IsKeyed}
use Rattle.inno_model.specs.Past.{changed}
use Rattle.sql_history.specs.Legal.{IsWriting}
use Rattle.law_db.specs.RowChanges.{AreOfTables}
use Rattle.law_db.specs.Beside.{touches, AreOfRows, is_search}
use Rattle.law_db.proofs.Apart.{schemas_stay, get_untouched}
use Rattle.law_db.proofs.Searching.{search_beside, on_rows-alike, outcome-alike}
use Rattle.law_db.proofs.BesideInserting as inserting
use Rattle.law_claims.specs.Claims.{Claim, Tables, Row, Rows, Leaves, Basis, SearchesFor, LeavesBasis, IsRefusedAt}
use Rattle.law_claims.proofs.Standing.{of_rows}

-- each row stands at its key behind changes of rows of the tables that are there
pub keyed_behind : (db : Database) (others : List Change) → AreOfTables db.schemas others → IsKeyed db → IsKeyed (changed db others)
keyed_behind db [] all keyed = keyed
keyed_behind db (Create schema ∷ others) all keyed = absurd all
keyed_behind db (Put table row ∷ others) all keyed =
    let tables = schemas_stay db others (of_rows db.schemas others all.1) in
    IsKeyed-apply (changed db others) (Put table row) (subst (λ (ss : List Schema). table < length ss) (sym tables) all.0)
    (keyed_behind db others all.1 keyed)
keyed_behind db (Remove table key ∷ others) all keyed =
    let tables = schemas_stay db others (of_rows db.schemas others all.1) in
    IsKeyed-apply (changed db others) (Remove table key) (subst (λ (ss : List Schema). table < length ss) (sym tables) all.0)
    (keyed_behind db others all.1 keyed)

-- an INSERT that its text and the tables don't refuse
pub whole_is : (db : Database) (name : List ℕ) (names : Option (List (List ℕ))) (tuples : List (List Literal)) (n : ℕ) (schema : Schema)
    → table_place db.schemas name ≡ Some n → slice_get db.schemas n ≡ Some schema → refusal db.schemas (stmt.Insert name names tuples) ≡ None
    → outcome (stmt.Insert name names tuples) db ≡ counted (inserted n schema names (rows_of n db) tuples)
whole_is db name names tuples n schema at is none =
    ap (λ r. unless_refused r (on_rows db name (insert_answer names tuples))) none
    ∙ (ap (λ p. on_number db p (insert_answer names tuples)) at ∙ ap (λ s. on_schema n s (rows_of n db) (insert_answer names tuples)) is)

-- ---- a tuple that is refused

module _ (table : ℕ) (schema : Schema) (names : Option (List (List ℕ))) (some others : List (List Value)) (tuple : List Literal) (error : SqlError) where
  abbrev HaveKeyAlike : List Value → Type 0
  HaveKeyAlike row = has_key schema (key_of schema row) some ≡ true → error ≡ Duplicate (key_of schema row) → has_key schema (key_of schema row) others ≡ true

  abbrev put : Result (List Value) SqlError → List (List Value) → Result (List Value) SqlError
  put made rows = and_then made (new_row schema rows)

  abbrev unless_there : List Value → Bool → Result (List Value) SqlError
  unless_there row there = if there then Err (Duplicate (key_of schema row)) else Ok row

  refused_alike : ((row : List Value) → HaveKeyAlike row)
      → (counted (inserted table schema names some (tuple ∷ []))).reply ≡ Fail error
      → inserted table schema names others (tuple ∷ []) ≡ inserted table schema names some (tuple ∷ [])
  refused_alike alike refused =
      elim (row_of_tuple schema.columns names tuple)
      as (λ (r : Result (List Value) SqlError).
      (counted (put_then table (put r some) (λ row. nothing))).reply ≡ Fail error
      → put_then table (put r others) (λ row. nothing) ≡ put_then table (put r some) (λ row. nothing)) [
        | Err e ↦ λ is. refl
        | Ok row ↦ by_row row
      ] refused where
        by_row : (row : List Value) → (counted (put_then table (put (Ok row) some) (λ row. nothing))).reply ≡ Fail error
            → put_then table (put (Ok row) others) (λ row. nothing) ≡ put_then table (put (Ok row) some) (λ row. nothing)
        by_row row =
            elim (has_key schema (key_of schema row) some)
            as (λ b. has_key schema (key_of schema row) some ≡ b → (counted (put_then table (unless_there row b) (λ row. nothing))).reply ≡ Fail error
            → put_then table (put (Ok row) others) (λ row. nothing) ≡ put_then table (unless_there row b) (λ row. nothing)) [
              | true ↦ λ there is.
                  let same : error ≡ Duplicate (key_of schema row) = cc in
                  ap (λ b. put_then table (unless_there row b) (λ row. nothing)) (alike row there same)
              | false ↦ λ there is. cc
            ] refl

module _ (db : Database) (others : List Change) (basis : Basis) (leaves : LeavesBasis basis db others) where
  rows : AreOfRows others
  rows = of_rows db.schemas others (leaves Tables tt)

  tables : (changed db others).schemas ≡ db.schemas
  tables = schemas_stay db others rows

  -- an UPDATE or DELETE whose search is over
  pub search_stands : (statement : Stmt) → is_search statement ≡ true → IsWriting statement → basis.searched ≡ Some statement
      → outcome statement (changed db others) ≡ outcome statement db
  search_stands (stmt.Insert name names tuples) search writes is = absurd (false≢true search)
  search_stands (stmt.Update name sets condition) search writes is =
      search_beside db others rows (stmt.Update name sets condition) refl
      (leaves (Rows name condition) (subst (λ (o : Option Stmt). SearchesFor o name condition) (sym is) (refl, refl)))
  search_stands (stmt.Delete name condition) search writes is =
      search_beside db others rows (stmt.Delete name condition) refl
      (leaves (Rows name condition) (subst (λ (o : Option Stmt). SearchesFor o name condition) (sym is) (refl, refl)))
  search_stands other search writes is = absurd writes

  -- an INSERT that was counted
  pub counted_stands : (name : List ℕ) (names : Option (List (List ℕ))) (tuples : List (List Literal)) (n : ℕ)
      → (outcome (stmt.Insert name names tuples) db).reply ≡ Count n
      → ((place : Place) → touches db.schemas (outcome (stmt.Insert name names tuples) db).changes place ≡ true
      → touches db.schemas basis.changes place ≡ true)
      → outcome (stmt.Insert name names tuples) (changed db others) ≡ outcome (stmt.Insert name names tuples) db
  counted_stands name names tuples n counts among =
      inserting.insert_beside db others name names tuples n rows counts (λ place mine. leaves (Row place) (inl (among place mine)))

  -- an INSERT whose tuple was refused
  module _ (keyed : IsKeyed db) (name : List ℕ) (names : Option (List (List ℕ))) (tuple : List Literal) (error : SqlError)
      (unrefused : refusal db.schemas (stmt.Insert name names (tuple ∷ [])) ≡ None)
      (refused : (outcome (stmt.Insert name names (tuple ∷ [])) db).reply ≡ Fail error) (at : IsRefusedAt db.schemas name error basis) where
    key_alike : (table : ℕ) (schema : Schema) → table_place db.schemas name ≡ Some table → slice_get db.schemas table ≡ Some schema → (row : List Value)
        → HaveKeyAlike table schema names (rows_of table db) (rows_of table (changed db others)) tuple error row
    key_alike table schema named is row there same =
        let key = key_of schema row in
        let place = subst (λ (e : SqlError). IsRefusedAt db.schemas name e basis) same at table named in
        let left : get (changed db others).rows (table, key) ≡ get db.rows (table, key) =
        get_untouched db others (table, key) rows (leaves (Row (table, key)) (inr place)) in
        has_key-get (changed db others) table schema key (keyed_behind db others (leaves Tables tt) keyed)
        (ap (λ (ss : List Schema). slice_get ss table) tables ∙ is)
        ∙ (ap is_some left ∙ (sym (has_key-get db table schema key keyed is) ∙ there))

    pub refusal_stands : outcome (stmt.Insert name names (tuple ∷ [])) (changed db others) ≡ outcome (stmt.Insert name names (tuple ∷ [])) db
    refusal_stands =
        outcome-alike (stmt.Insert name names (tuple ∷ [])) (changed db others) db tables
        (on_rows-alike (changed db others) db name (insert_answer names (tuple ∷ [])) tables (λ table schema named is.
        ap counted (refused_alike table schema names (rows_of table db) (rows_of table (changed db others)) tuple error
        (key_alike table schema named is) (on_table table schema named is)))) where
          on_table : (table : ℕ) (schema : Schema) → table_place db.schemas name ≡ Some table → slice_get db.schemas table ≡ Some schema
              → (counted (inserted table schema names (rows_of table db) (tuple ∷ []))).reply ≡ Fail error
          on_table table schema named is = sym (ap (λ o. o.reply) (whole_is db name names (tuple ∷ []) table schema named is unrefused)) ∙ refused
