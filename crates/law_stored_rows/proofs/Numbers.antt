-- Changes of statements whose literals have 64 bits leave rows whose numbers have 64 bits.
use Rattle.std.proofs.Common.{◌≡◌, ◌∙◌, ℕ, ◌+◌, ℤ, pos, negsuc, ◌+ℤ◌, ◌-ℤ◌, ◌*ℤ◌, neg_ℤ, true, List, [], ◌∷◌, Option, Some, None, Ok, Err, sym}
use Rattle.std.proofs.Common.{subst, arith}
use Rattle.std.specs.Prelude.{slice_get, slice_set, FitsSigned, All}
use Rattle.std.specs.Int.{w64}
use Rattle.std.specs.FinMap.{from_entries, get-empty}
use Rattle.std.proofs.lemmas.Bool.{cond_both}
use Rattle.std.proofs.lemmas.Bool.Decides.{nat_tests}
use Rattle.std.proofs.lemmas.List.Elements.{All-nil, All-cons, All-head, All-tail, All-set, All-weaker}
use Rattle.inno_types.specs.{declared.value.Value.Value, declared.value.Value.TheVariants.Null, declared.value.Value.TheVariants.Int}
use Rattle.inno_types.specs.{declared.value.Column.Column, declared.value.Schema.Schema, declared.stmt.Literal.Literal}
use Rattle.inno_types.specs.declared.stmt.Literal.TheVariants as literal
use Rattle.inno_types.specs.declared.stmt.Expr.{Expr}
use Rattle.inno_types.specs.declared.stmt.Expr.TheVariants as expr
use Rattle.inno_types.specs.{declared.stmt.Set.Set, declared.stmt.Stmt.Stmt, declared.reply.SqlError.TheVariants.OutOfRange}
use Rattle.inno_types.specs.declared.stmt.Stmt.TheVariants.{CreateTable, Insert, Update, Delete}
use Rattle.inno_db.specs.{declared.change.Change.Change, declared.change.Change.TheVariants.Create, declared.change.Change.TheVariants.Put}
use Rattle.inno_db.specs.{declared.change.Change.TheVariants.Remove, Changes.apply_one, Database.Database, Database.place_cmp, Database.rows_of}
use Rattle.inno_db.specs.{Database.key_of, Names.column_place, Names.value_at, Outcome.outcome}
use Rattle.inno_db.specs.Expressions.{Valued, and_then, on_two, negated, in_range, is_bigint, both, literal_given, expr_value}
use Rattle.inno_db.specs.Storing.{misfit, unless_refused, stored, place_in_tuple, literal_at, values_from, put_in, put_at, assigned, all_assigned}
use Rattle.inno_model.specs.Past.{changed}
use Rattle.key_codec.specs.Keys.{Has64Bits}
use Rattle.law_db.proofs.Values.{ok_same, never, and_then-ok}
use Rattle.law_stored_rows.specs.Numbers.{LiteralHas64Bits, ExprHas64Bits, Stores64Bits, ChangeHas64Bits, RowsHave64Bits}
use Rattle.law_stored_rows.proofs.{FittingValues.at_or, Rows.rows_have, Applying.rows_put, Applying.rows_removed, Outcomes.OfTuple, Outcomes.OfUpdated}
use Rattle.law_stored_rows.proofs.{Outcomes.Makes, Outcomes.outcome-each}

-- ---- values that are stored

-- a value that a column takes is stored as it is
stored_same : (column : Column) (value made : Value) → stored column value ≡ Ok made → value ≡ made
stored_same column value made h = elim (misfit column value) as (λ o. ◌≡◌ {A = Valued} (unless_refused o value) (Ok made) → value ≡ made)
    [ None ↦ λ e. ok_same e | Some error ↦ λ e. never e ] h

given-Has64Bits : (l : Literal) (value : Value) → LiteralHas64Bits l → literal_given l ≡ Ok value → Has64Bits value
given-Has64Bits (literal.Int n) value fits h = subst Has64Bits (ok_same h) fits
given-Has64Bits literal.TooBig value fits h = never h
given-Has64Bits l value fits h = subst Has64Bits (ok_same h) tt

bigint-Has64Bits : (n : ℤ) → is_bigint n ≡ true → FitsSigned w64 n
bigint-Has64Bits (pos n) h = record { sfits = grind (arith, nat_tests) }
bigint-Has64Bits (negsuc n) h = record { sfits = grind (arith, nat_tests) }

in_range-Has64Bits : (n : ℤ) (value : Value) → in_range n ≡ Ok value → Has64Bits value
in_range-Has64Bits n value h =
    cond_both (is_bigint n) (Ok (Int n)) (Err OutOfRange) (λ (r : Valued). r ≡ Ok value → Has64Bits value)
    (λ is e. subst Has64Bits (ok_same e) (bigint-Has64Bits n is)) (λ is e. never e) h

on_two-Has64Bits : (f : ℤ → ℤ → ℤ) (a b value : Value) → on_two f a b ≡ Ok value → Has64Bits value
on_two-Has64Bits f (Int a) (Int b) value h = in_range-Has64Bits (f a b) value h
on_two-Has64Bits f a b value h = subst Has64Bits (ok_same h) tt

negated-Has64Bits : (a value : Value) → negated a ≡ Ok value → Has64Bits value
negated-Has64Bits (Int n) value h = in_range-Has64Bits (neg_ℤ n) value h
negated-Has64Bits a value h = subst Has64Bits (ok_same h) tt

both-Has64Bits : (f : ℤ → ℤ → ℤ) (left right : Valued) (value : Value) → both f left right ≡ Ok value → Has64Bits value
both-Has64Bits f left right value h =
    let a = and_then-ok left (λ x. and_then right (λ y. on_two f x y)) value h in
    let b = and_then-ok right (λ y. on_two f a.0 y) value a.2 in
    on_two-Has64Bits f a.0 b.0 value b.2

value_at-Has64Bits : (row : List Value) (place : Option ℕ) → All Has64Bits row → Has64Bits (value_at row place)
value_at-Has64Bits row None all = tt
value_at-Has64Bits row (Some place) all = at_or Has64Bits Null row place tt all

expr-Has64Bits : (columns : List Column) (row : List Value) (e : Expr) (value : Value) → All Has64Bits row → ExprHas64Bits e
    → expr_value columns row e ≡ Ok value → Has64Bits value
expr-Has64Bits columns row (expr.Literal l) value all fits h = given-Has64Bits l value fits h
expr-Has64Bits columns row (expr.Column name) value all fits h = subst Has64Bits (ok_same h) (value_at-Has64Bits row (column_place columns name) all)
expr-Has64Bits columns row (expr.Negate' p e) value all fits h = let a = and_then-ok (expr_value columns row e) negated value h in
    negated-Has64Bits a.0 value a.2
expr-Has64Bits columns row (expr.Add' p a q b) value all fits h = both-Has64Bits ◌+ℤ◌ (expr_value columns row a) (expr_value columns row b) value h
expr-Has64Bits columns row (expr.Subtract' p a q b) value all fits h = both-Has64Bits ◌-ℤ◌ (expr_value columns row a) (expr_value columns row b) value h
expr-Has64Bits columns row (expr.Multiply' p a q b) value all fits h = both-Has64Bits ◌*ℤ◌ (expr_value columns row a) (expr_value columns row b) value h

-- ---- rows that are put

literal_at-Has64Bits : (tuple : List Literal) (place : Option ℕ) → All LiteralHas64Bits tuple → LiteralHas64Bits (literal_at tuple place)
literal_at-Has64Bits tuple None all = tt
literal_at-Has64Bits tuple (Some place) all = at_or LiteralHas64Bits literal.Null tuple place tt all

-- the row of a tuple
values_from-Has64Bits : (names : Option (List (List ℕ))) (tuple : List Literal) (place : ℕ) (columns : List Column) (row : List Value)
    → All LiteralHas64Bits tuple → values_from names tuple place columns ≡ Ok row → All Has64Bits row
values_from-Has64Bits names tuple place [] row all h = subst (All Has64Bits) (ok_same h) (All-nil Has64Bits)
values_from-Has64Bits names tuple place (column ∷ columns) row all h =
    let l = literal_at tuple (place_in_tuple names place column) in
    let a = and_then-ok (and_then (literal_given l) (stored column))
    (λ value. and_then (values_from names tuple (place + 1) columns) (λ values. Ok (value ∷ values))) row h in
    let b = and_then-ok (literal_given l) (stored column) a.0 a.1 in
    let d = and_then-ok (values_from names tuple (place + 1) columns) (λ values. Ok (a.0 ∷ values)) row a.2 in
    let value = given-Has64Bits l b.0 (literal_at-Has64Bits tuple (place_in_tuple names place column) all) b.1 in
    let rest = values_from-Has64Bits names tuple (place + 1) columns d.0 all d.1 in
    subst (All Has64Bits) (ok_same d.2) (All-cons Has64Bits a.0 d.0 (subst Has64Bits (stored_same column b.0 a.0 b.2) value) rest)

put_at-Has64Bits : (columns : List Column) (row after : List Value) (place : Option ℕ) (value : Value) → All Has64Bits row → Has64Bits value
    → put_at columns row place value ≡ Ok after → All Has64Bits after
put_at-Has64Bits columns row after None value all fits h = subst (All Has64Bits) (ok_same h) all
put_at-Has64Bits columns row after (Some place) value all fits h =
    elim (slice_get columns place) as (λ o. put_in o place row value ≡ Ok after → All Has64Bits after) [
      | None ↦ λ e. subst (All Has64Bits) (ok_same e) all
      | Some column ↦ λ e.
          let a = and_then-ok (stored column value) (λ v. Ok (slice_set row place v)) after e in
          subst (All Has64Bits) (ok_same a.2) (All-set Has64Bits row place a.0 (subst Has64Bits (stored_same column value a.0 a.1) fits) all)
    ] h

-- a row after assignments
all_assigned-Has64Bits : (columns : List Column) (row after : List Value) (sets : List Set) → All Has64Bits row
    → All (λ set. ExprHas64Bits set.value) sets → all_assigned columns row sets ≡ Ok after → All Has64Bits after
all_assigned-Has64Bits columns row after [] all fits h = subst (All Has64Bits) (ok_same h) all
all_assigned-Has64Bits columns row after (set ∷ sets) all fits h =
    let a = and_then-ok (assigned columns row set) (λ r. all_assigned columns r sets) after h in
    let b = and_then-ok (expr_value columns row set.value) (put_at columns row (column_place columns set.column)) a.0 a.1 in
    let value = expr-Has64Bits columns row set.value b.0 all (All-head (λ (s : Set). ExprHas64Bits s.value) set sets fits) b.1 in
    all_assigned-Has64Bits columns a.0 after sets (put_at-Has64Bits columns row a.0 (column_place columns set.column) b.0 all value b.2)
    (All-tail (λ (s : Set). ExprHas64Bits s.value) set sets fits) a.2

-- ---- the changes of an outcome

module _ (db : Database) (rows : RowsHave64Bits db) where
  rows_of-Has64Bits : (n : ℕ) → All (All Has64Bits) (rows_of n db)
  rows_of-Has64Bits n = rows_have db n (All Has64Bits) (λ place row there here. rows place row there)

  makes-Has64Bits : (stmt : Stmt) → Stores64Bits stmt → Makes ChangeHas64Bits db stmt
  makes-Has64Bits (CreateTable table if_not_exists definitions) fits = λ schema is. tt
  makes-Has64Bits (Insert table names tuples) fits = λ n schema is.
      All-weaker (All LiteralHas64Bits) (OfTuple ChangeHas64Bits n schema names)
      (λ tuple all row made. values_from-Has64Bits names tuple 0 schema.columns row all made) tuples fits
  makes-Has64Bits (Update table sets condition) fits = λ n schema is.
      All-weaker (All Has64Bits) (OfUpdated ChangeHas64Bits n schema sets)
      (λ row all after made. all_assigned-Has64Bits schema.columns row after sets all fits made) (rows_of n db) (rows_of-Has64Bits n)
  makes-Has64Bits (Delete table condition) fits = λ n schema is.
      All-weaker (All Has64Bits) (λ row. Has64Bits (key_of schema row))
      (λ row all. at_or Has64Bits Null row schema.primary tt all) (rows_of n db) (rows_of-Has64Bits n)
  makes-Has64Bits other fits = tt

  pub outcome-Has64Bits : (stmt : Stmt) → Stores64Bits stmt → All ChangeHas64Bits (outcome stmt db).changes
  outcome-Has64Bits stmt fits = outcome-each ChangeHas64Bits db stmt (makes-Has64Bits stmt fits)

-- ---- changes that are made

pub apply_one-Has64Bits : (db : Database) (change : Change) → RowsHave64Bits db → ChangeHas64Bits change → RowsHave64Bits (apply_one db change)
apply_one-Has64Bits db (Create schema) rows fits = rows
apply_one-Has64Bits db (Put table row) rows fits = rows_put (λ place row. All Has64Bits row) db rows table row fits
apply_one-Has64Bits db (Remove table key) rows fits = rows_removed (λ place row. All Has64Bits row) db rows table key

pub changed-Has64Bits : (db : Database) (changes : List Change) → RowsHave64Bits db → All ChangeHas64Bits changes → RowsHave64Bits (changed db changes)
changed-Has64Bits db [] rows all = rows
changed-Has64Bits db (change ∷ earlier) rows all =
    apply_one-Has64Bits (changed db earlier) change (changed-Has64Bits db earlier rows (All-tail ChangeHas64Bits change earlier all))
    (All-head ChangeHas64Bits change earlier all)

pub empty-Has64Bits : (schemas : List Schema) → RowsHave64Bits (record { schemas = schemas; rows = from_entries [] })
empty-Has64Bits schemas place row is = absurd (let none : None ≡ Some row = sym (get-empty place_cmp place) ∙ is in cc)
