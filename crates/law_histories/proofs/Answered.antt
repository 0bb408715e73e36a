-- What a statement answers over a database is no error of pages.
use Rattle.std.proofs.Common.{◌≡◌, ℕ, ◌+◌, Bool, true, false, cond, Option, Some, None, Result, Ok, Err, List, [], ◌∷◌, ◌++◌, refl}
use Rattle.std.specs.Prelude.{slice_get, if◌then◌else◌, length, ℤ, ◌+ℤ◌, ◌-ℤ◌, ◌*ℤ◌, neg_ℤ, is_some, slice_set}
use Rattle.inno_types.specs.declared.value.Value.{Value}
use Rattle.inno_types.specs.declared.value.Value.TheVariants.{Null, Int, Text}
use Rattle.inno_types.specs.declared.value.Column.{Column}
use Rattle.inno_types.specs.declared.value.Schema.{Schema}
use Rattle.inno_types.specs.declared.stmt.Expr.{Expr}
use Rattle.inno_types.specs.declared.stmt.Expr.TheVariants as expr
use Rattle.inno_types.specs.declared.stmt.Literal.{Literal}
use Rattle.inno_types.specs.declared.stmt.Literal.TheVariants as literal
use Rattle.inno_types.specs.declared.stmt.Set.{Set}
use Rattle.inno_types.specs.declared.stmt.Stmt.{Stmt}
use Rattle.inno_types.specs.declared.stmt.Stmt.TheVariants as stmt
use Rattle.inno_types.specs.declared.reply.Reply.{Reply}
use Rattle.inno_types.specs.declared.reply.Reply.TheVariants as replies
use Rattle.inno_types.specs.declared.reply.SqlError.{SqlError}
use Rattle.inno_types.specs.declared.reply.SqlError.TheVariants as errors
use Rattle.inno_db.specs.declared.change.Change.{Change}
use Rattle.inno_db.specs.declared.outcome.Outcome.{Outcome}
use Rattle.inno_db.specs.declared.outcome.Written.{Written}
use Rattle.inno_db.specs.Database.{Database, key_of, rows_of}
use Rattle.inno_db.specs.Declarations.{schema_declared}
use Rattle.inno_db.specs.Expressions.{and_then, literal_given, expr_value, in_range, on_two, negated, both, is_bigint}
use Rattle.inno_db.specs.Names.{table_place, column_place}
use Rattle.inno_db.specs.Outcome.{outcome, answer_to, unless_refused, on_rows, on_number, on_schema, created, creation, inserted, row_for, new_row, has_key, put_then, updated, row_update, change_to, change_then, matching, counted, count_unless, select_answer, insert_answer, update_answer, delete_answer}
use Rattle.inno_db.specs.Refusals.{refusal}
use Rattle.inno_db.specs.Storing.{misfit, stored, put_in, put_at, assigned, all_assigned, values_from, row_of_tuple, literal_at, place_in_tuple, is_too_long, unless_refused as stored_unless}
use Rattle.law_histories.specs.Space.{is_of_pages, says_of_pages}
use Rattle.law_histories.proofs.Refused.{Spares, refusal_spares}

-- a value, or an error of something else
abbrev Good : {A : Type 0} → Result A SqlError → Type 0
Good (Ok value) = Unit {0}
Good (Err error) = is_of_pages error ≡ false

then_good : {A B : Type 0} (r : Result A SqlError) (f : A → Result B SqlError) → Good r → ((value : A) → Good (f value)) → Good (and_then r f)
then_good (Ok value) f good all = all value
then_good (Err error) f good all = good

-- ---- expressions

literal_good : (l : Literal) → Good (literal_given l)
literal_good literal.Null = tt
literal_good (literal.Int n) = tt
literal_good literal.TooBig = refl
literal_good (literal.Text text) = tt

range_good : (b : Bool) (v : Value) (error : SqlError) → is_of_pages error ≡ false → Good (if b then Ok v else Err error)
range_good true v error spared = tt
range_good false v error spared = spared

in_range_good : (n : ℤ) → Good (in_range n)
in_range_good n = range_good (is_bigint n) (Int n) errors.OutOfRange refl

two_good : (f : ℤ → ℤ → ℤ) (a b : Value) → Good (on_two f a b)
two_good f (Int a) (Int b) = in_range_good (f a b)
two_good f (Int a) Null = tt
two_good f (Int a) (Text text) = tt
two_good f Null b = tt
two_good f (Text text) b = tt

negated_good : (v : Value) → Good (negated v)
negated_good (Int n) = in_range_good (neg_ℤ n)
negated_good Null = tt
negated_good (Text text) = tt

both_good : (f : ℤ → ℤ → ℤ) (left right : Result Value SqlError) → Good left → Good right → Good (both f left right)
both_good f left right a b =
    then_good left (λ v. and_then right (λ w. on_two f v w)) a (λ v. then_good right (λ w. on_two f v w) b (λ w. two_good f v w))

expr_good : (columns : List Column) (row : List Value) (e : Expr) → Good (expr_value columns row e)
expr_good columns row (expr.Literal l) = literal_good l
expr_good columns row (expr.Column name) = tt
expr_good columns row (expr.Negate' p e) = then_good (expr_value columns row e) negated (expr_good columns row e) negated_good
expr_good columns row (expr.Add' p a q b) =
    both_good ◌+ℤ◌ (expr_value columns row a) (expr_value columns row b) (expr_good columns row a) (expr_good columns row b)
expr_good columns row (expr.Subtract' p a q b) =
    both_good ◌-ℤ◌ (expr_value columns row a) (expr_value columns row b) (expr_good columns row a) (expr_good columns row b)
expr_good columns row (expr.Multiply' p a q b) =
    both_good ◌*ℤ◌ (expr_value columns row a) (expr_value columns row b) (expr_good columns row a) (expr_good columns row b)

-- ---- rows

choice_spares : (b : Bool) (error : SqlError) → is_of_pages error ≡ false → Spares (if b then Some error else None)
choice_spares true error spared = spared
choice_spares false error spared = tt

misfit_spares : (column : Column) (v : Value) → Spares (misfit column v)
misfit_spares column Null = choice_spares column.not_null errors.IsNull refl
misfit_spares column (Int n) = tt
misfit_spares column (Text text) = choice_spares (is_too_long column.kind text) errors.TooLong refl

unless_good : (o : Option SqlError) (v : Value) → Spares o → Good (stored_unless o v)
unless_good None v spared = tt
unless_good (Some error) v spared = spared

stored_good : (column : Column) (v : Value) → Good (stored column v)
stored_good column v = unless_good (misfit column v) v (misfit_spares column v)

put_good : (o : Option Column) (place : ℕ) (row : List Value) (v : Value) → Good (put_in o place row v)
put_good None place row v = tt
put_good (Some column) place row v = then_good (stored column v) (λ w. Ok (slice_set row place w)) (stored_good column v) (λ w. tt)

place_good : (columns : List Column) (row : List Value) (o : Option ℕ) (v : Value) → Good (put_at columns row o v)
place_good columns row None v = tt
place_good columns row (Some place) v = put_good (slice_get columns place) place row v

all_good : (columns : List Column) (row : List Value) (sets : List Set) → Good (all_assigned columns row sets)
all_good columns row [] = tt
all_good columns row (set ∷ sets) =
    then_good (assigned columns row set) (λ after. all_assigned columns after sets)
    (then_good (expr_value columns row set.value) (put_at columns row (column_place columns set.column)) (expr_good columns row set.value)
    (place_good columns row (column_place columns set.column)))
    (λ after. all_good columns after sets)

values_good : (names : Option (List (List ℕ))) (tuple : List Literal) (start : ℕ) (columns : List Column) → Good (values_from names tuple start columns)
values_good names tuple start [] = tt
values_good names tuple start (column ∷ columns) =
    then_good (and_then (literal_given (literal_at tuple (place_in_tuple names start column))) (stored column))
    (λ v. and_then (values_from names tuple (start + 1) columns) (λ vs. Ok (v ∷ vs)))
    (then_good (literal_given (literal_at tuple (place_in_tuple names start column))) (stored column)
    (literal_good (literal_at tuple (place_in_tuple names start column))) (stored_good column))
    (λ v. then_good (values_from names tuple (start + 1) columns) (λ vs. Ok (v ∷ vs)) (values_good names tuple (start + 1) columns) (λ vs. tt))

new_good : (b : Bool) (error : SqlError) (row : List Value) → is_of_pages error ≡ false → Good (cond b (Err error) (Ok row))
new_good true error row spared = spared
new_good false error row spared = tt

row_good : (schema : Schema) (names : Option (List (List ℕ))) (rows : List (List Value)) (tuple : List Literal) → Good (row_for schema names rows tuple)
row_good schema names rows tuple =
    then_good (row_of_tuple schema.columns names tuple) (new_row schema rows) (values_good names tuple 0 schema.columns)
    (λ row. new_good (has_key schema (key_of schema row) rows) (errors.Duplicate (key_of schema row)) row refl)

-- ---- statements

put_spares : (table : ℕ) (r : Result (List Value) SqlError) (rest : List Value → Written) → Good r → ((row : List Value) → Spares (rest row).refusal)
    → Spares (put_then table r rest).refusal
put_spares table (Ok row) rest good all = all row
put_spares table (Err error) rest good all = good

inserted_spares : (table : ℕ) (schema : Schema) (names : Option (List (List ℕ))) (rows : List (List Value)) (tuples : List (List Literal))
    → Spares (inserted table schema names rows tuples).refusal
inserted_spares table schema names rows [] = tt
inserted_spares table schema names rows (tuple ∷ tuples) =
    put_spares table (row_for schema names rows tuple) (λ row. inserted table schema names (rows ++ row ∷ []) tuples) (row_good schema names rows tuple)
    (λ row. inserted_spares table schema names (rows ++ row ∷ []) tuples)

change_spares : (r : Result (Option Change) SqlError) (rest : Written) → Good r → Spares rest.refusal → Spares (change_then r rest).refusal
change_spares (Ok (Some change)) rest good others = others
change_spares (Ok None) rest good others = others
change_spares (Err error) rest good others = good

updated_spares : (table : ℕ) (schema : Schema) (sets : List Set) (rows : List (List Value)) → Spares (updated table schema sets rows).refusal
updated_spares table schema sets [] = tt
updated_spares table schema sets (row ∷ rows) =
    change_spares (row_update table schema sets row) (updated table schema sets rows)
    (then_good (all_assigned schema.columns row sets) (λ after. Ok (change_to table row after)) (all_good schema.columns row sets) (λ after. tt))
    (updated_spares table schema sets rows)

counted_spares : (o : Option SqlError) (count : ℕ) → Spares o → says_of_pages (count_unless o count) ≡ false
counted_spares None count spared = refl
counted_spares (Some error) count spared = spared

schema_spares : (number : ℕ) (o : Option Schema) (rows : List (List Value)) (answer : ℕ → Schema → List (List Value) → Outcome)
    → ((n : ℕ) (schema : Schema) (rows : List (List Value)) → says_of_pages (answer n schema rows).reply ≡ false)
    → says_of_pages (on_schema number o rows answer).reply ≡ false
schema_spares number None rows answer all = refl
schema_spares number (Some schema) rows answer all = all number schema rows

number_spares : (db : Database) (o : Option ℕ) (answer : ℕ → Schema → List (List Value) → Outcome)
    → ((n : ℕ) (schema : Schema) (rows : List (List Value)) → says_of_pages (answer n schema rows).reply ≡ false)
    → says_of_pages (on_number db o answer).reply ≡ false
number_spares db None answer all = refl
number_spares db (Some number) answer all = schema_spares number (slice_get db.schemas number) (rows_of number db) answer all

creation_spares : (o : Option Schema) → says_of_pages (creation o).reply ≡ false
creation_spares None = refl
creation_spares (Some schema) = refl

created_spares : (b : Bool) (o : Option Schema) → says_of_pages (if b then record { reply = replies.Done; changes = [] } else creation o).reply ≡ false
created_spares true o = refl
created_spares false o = creation_spares o

answer_spares : (statement : Stmt) (db : Database) → says_of_pages (answer_to statement db).reply ≡ false
answer_spares (stmt.CreateTable table i definitions) db = created_spares (is_some (table_place db.schemas table)) (schema_declared table definitions)
answer_spares (stmt.Select selected table condition lock) db =
    number_spares db (table_place db.schemas table) (select_answer selected condition) (λ n schema rows. refl)
answer_spares (stmt.Insert table names tuples) db =
    number_spares db (table_place db.schemas table) (insert_answer names tuples)
    (λ n schema rows. counted_spares (inserted n schema names rows tuples).refusal (length (inserted n schema names rows tuples).changes)
    (inserted_spares n schema names rows tuples))
answer_spares (stmt.Update table sets condition) db =
    number_spares db (table_place db.schemas table) (update_answer sets condition)
    (λ n schema rows. let written = updated n schema sets (matching schema.columns condition rows) in
    counted_spares written.refusal (length written.changes) (updated_spares n schema sets (matching schema.columns condition rows)))
answer_spares (stmt.Delete table condition) db =
    number_spares db (table_place db.schemas table) (delete_answer condition) (λ n schema rows. refl)
answer_spares (stmt.Begin snapshot) db = refl
answer_spares stmt.Commit db = refl
answer_spares stmt.Rollback db = refl
answer_spares (stmt.RollbackTo name) db = refl
answer_spares (stmt.Savepoint name) db = refl
answer_spares (stmt.SetAutocommit on) db = refl
answer_spares (stmt.SetLevel scope l) db = refl

refused_spares : (o : Option SqlError) (answer : Outcome) → Spares o → says_of_pages answer.reply ≡ false
    → says_of_pages (unless_refused o answer).reply ≡ false
refused_spares None answer spared others = others
refused_spares (Some error) answer spared others = spared

pub outcome_spares : (statement : Stmt) (db : Database) → says_of_pages (outcome statement db).reply ≡ false
outcome_spares statement db =
    refused_spares (refusal db.schemas statement) (answer_to statement db) (refusal_spares db.schemas statement) (answer_spares statement db)
