-- What a statement answers and changes depends on its tree alone: so do the truth of a condition, the value of an
-- expression and what refuses either.
use Rattle.std.proofs.Common.{◌≡◌, ℕ, List, [], ◌∷◌, map, Option, Some, None, Result, Ok, Err, Bool, ◌&&◌, refl, sym, ap, ◌∙◌}
use Rattle.std.specs.List.{list_all}
use Rattle.std.specs.Prelude.{filter, slice_get, ◌+ℤ◌, ◌-ℤ◌, ◌*ℤ◌}
use Rattle.inno_types.specs.declared.value.Value.{Value}
use Rattle.inno_types.specs.declared.value.Column.{Column}
use Rattle.inno_types.specs.declared.value.Schema.{Schema}
use Rattle.inno_types.specs.declared.lock.Mode.{Mode}
use Rattle.inno_types.specs.declared.stmt.Filter.{Filter}
use Rattle.inno_types.specs.declared.stmt.Filter.TheVariants as filters
use Rattle.inno_types.specs.declared.stmt.Expr.{Expr}
use Rattle.inno_types.specs.declared.stmt.Expr.TheVariants as expr
use Rattle.inno_types.specs.declared.stmt.Set.{Set}
use Rattle.inno_types.specs.declared.stmt.Selected.{Selected}
use Rattle.inno_types.specs.declared.stmt.Stmt.{Stmt}
use Rattle.inno_types.specs.declared.stmt.Stmt.TheVariants as stmt
use Rattle.inno_types.specs.declared.reply.SqlError.{SqlError}
use Rattle.inno_types.specs.declared.reply.Reply.TheVariants.{Rows}
use Rattle.inno_db.specs.declared.data_type.DataType.{DataType}
use Rattle.inno_db.specs.declared.data_type.DataType.TheVariants.{Number}
use Rattle.inno_db.specs.declared.outcome.Outcome.{Outcome}
use Rattle.inno_db.specs.declared.outcome.Written.{Written}
use Rattle.inno_db.specs.Database.{Database, rows_of}
use Rattle.inno_db.specs.Names.{table_place}
use Rattle.inno_db.specs.declared.truth.Truth.{Truth}
use Rattle.inno_db.specs.Conditions.{truth_of, not_of, and_of, or_of, is_true}
use Rattle.inno_db.specs.Expressions.{expr_value, and_then, both, negated}
use Rattle.inno_db.specs.Typing.{filter_known, where_known, expr_known, set_known, is_same_type, filter_fits, where_fits, expr_fits, whole_fits, set_fits, column_type}
use Rattle.inno_db.specs.Storing.{assigned, all_assigned}
use Rattle.inno_db.specs.Refusals.{refusal, on_table, schema_named, select_refusal, update_refusal, delete_refusal}
use Rattle.inno_db.specs.Outcome.{outcome, matching, updated, row_update, change_to, change_then, select_answer, update_answer, delete_answer, selected_of, answered, counted, deleted, on_rows, on_number, on_schema, answer_to, unless_refused}
use Rattle.law_histories.specs.Trees.{FilterTree, filter_tree, ExprTree, expr_tree, set_tree, where_tree, tree_of}
use Rattle.law_histories.specs.Trees as tree

-- ---- what goes by the tree of a condition

folded : {X : Type 0} → (Filter → X) → (X → X) → (X → X → X) → (X → X → X) → FilterTree → X
folded h n a o (tree.Leaf f) = h f
folded h n a o (tree.Not t) = n (folded h n a o t)
folded h n a o (tree.And t u) = a (folded h n a o t) (folded h n a o u)
folded h n a o (tree.Or t u) = o (folded h n a o t) (folded h n a o u)

module _ {X : Type 0} (h : Filter → X) (n : X → X) (a o : X → X → X) (en : (p : _) (f : Filter) → h (filters.Not' p f) ≡ n (h f))
    (ea : (p : _) (f : Filter) (q : _) (g : Filter) → h (filters.And' p f q g) ≡ a (h f) (h g))
    (eo : (p : _) (f : Filter) (q : _) (g : Filter) → h (filters.Or' p f q g) ≡ o (h f) (h g)) where
  through : (f : Filter) → h f ≡ folded h n a o (filter_tree f)
  unfolding folded
  through (filters.Compare left how right) = refl
  through (filters.Between column turned low high) = refl
  through (filters.In column turned literals) = refl
  through (filters.IsNull column turned) = refl
  through (filters.Not' p f) = en p f ∙ ap n (through f)
  through (filters.And' p f q g) = let e = ea p f q g in let x = through f in let y = through g in cc
  through (filters.Or' p f q g) = let e = eo p f q g in let x = through f in let y = through g in cc

  by_filter : (f g : Filter) → filter_tree f ≡ filter_tree g → h f ≡ h g
  by_filter f g e = through f ∙ ap (λ (t : FilterTree). folded h n a o t) e ∙ sym (through g)

-- what a condition says of each row
abbrev truth_on : Filter → List Column → List Value → Truth
truth_on f columns row = truth_of columns row f

truths : (f g : Filter) → filter_tree f ≡ filter_tree g → truth_on f ≡ truth_on g
truths f g e =
    by_filter truth_on (λ k columns row. not_of (k columns row)) (λ j k columns row. and_of (j columns row) (k columns row))
    (λ j k columns row. or_of (j columns row) (k columns row)) (λ p f. refl) (λ p f q g. refl) (λ p f q g. refl) f g e

filters_known : (columns : List Column) (f g : Filter) → filter_tree f ≡ filter_tree g → filter_known columns f ≡ filter_known columns g
filters_known columns f g e = by_filter (filter_known columns) (λ k. k) (λ j k. j && k) (λ j k. j && k) (λ p f. refl) (λ p f q g. refl) (λ p f q g. refl) f g e

filters_fit : (columns : List Column) (f g : Filter) → filter_tree f ≡ filter_tree g → filter_fits columns f ≡ filter_fits columns g
filters_fit columns f g e = by_filter (filter_fits columns) (λ k. k) (λ j k. j && k) (λ j k. j && k) (λ p f. refl) (λ p f q g. refl) (λ p f q g. refl) f g e

matchings : (f g : Option Filter) → where_tree f ≡ where_tree g → (columns : List Column) (rows : List (List Value))
    → matching columns f rows ≡ matching columns g rows
matchings None None e columns rows = refl
matchings None (Some g) e columns rows = absurd (cc)
matchings (Some f) None e columns rows = absurd (cc)
matchings (Some f) (Some g) e columns rows = ap (λ (k : List Column → List Value → Truth). filter (λ row. is_true (k columns row)) rows) (truths f g (cc))

wheres_known : (f g : Option Filter) → where_tree f ≡ where_tree g → (columns : List Column) → where_known columns f ≡ where_known columns g
wheres_known None None e columns = refl
wheres_known None (Some g) e columns = absurd (cc)
wheres_known (Some f) None e columns = absurd (cc)
wheres_known (Some f) (Some g) e columns = filters_known columns f g (cc)

wheres_fit : (f g : Option Filter) → where_tree f ≡ where_tree g → (columns : List Column) → where_fits columns f ≡ where_fits columns g
wheres_fit None None e columns = refl
wheres_fit None (Some g) e columns = absurd (cc)
wheres_fit (Some f) None e columns = absurd (cc)
wheres_fit (Some f) (Some g) e columns = filters_fit columns f g (cc)

-- ---- what goes by the tree of an expression

reckoned : {X : Type 0} → (Expr → X) → (X → X) → (X → X → X) → (X → X → X) → (X → X → X) → ExprTree → X
reckoned h n a s m (tree.Value e) = h e
reckoned h n a s m (tree.Negate t) = n (reckoned h n a s m t)
reckoned h n a s m (tree.Add t u) = a (reckoned h n a s m t) (reckoned h n a s m u)
reckoned h n a s m (tree.Subtract t u) = s (reckoned h n a s m t) (reckoned h n a s m u)
reckoned h n a s m (tree.Multiply t u) = m (reckoned h n a s m t) (reckoned h n a s m u)

module _ {X : Type 0} (h : Expr → X) (n : X → X) (a s m : X → X → X) (en : (p : _) (e : Expr) → h (expr.Negate' p e) ≡ n (h e))
    (ea : (p : _) (e : Expr) (q : _) (f : Expr) → h (expr.Add' p e q f) ≡ a (h e) (h f))
    (es : (p : _) (e : Expr) (q : _) (f : Expr) → h (expr.Subtract' p e q f) ≡ s (h e) (h f))
    (em : (p : _) (e : Expr) (q : _) (f : Expr) → h (expr.Multiply' p e q f) ≡ m (h e) (h f)) where
  reckons : (e : Expr) → h e ≡ reckoned h n a s m (expr_tree e)
  unfolding reckoned
  reckons (expr.Literal l) = refl
  reckons (expr.Column name) = refl
  reckons (expr.Negate' p e) = en p e ∙ ap n (reckons e)
  reckons (expr.Add' p e q f) = let k = ea p e q f in let x = reckons e in let y = reckons f in cc
  reckons (expr.Subtract' p e q f) = let k = es p e q f in let x = reckons e in let y = reckons f in cc
  reckons (expr.Multiply' p e q f) = let k = em p e q f in let x = reckons e in let y = reckons f in cc

  by_expr : (e f : Expr) → expr_tree e ≡ expr_tree f → h e ≡ h f
  by_expr e f k = reckons e ∙ ap (λ (t : ExprTree). reckoned h n a s m t) k ∙ sym (reckons f)

values : (columns : List Column) (row : List Value) (e f : Expr) → expr_tree e ≡ expr_tree f → expr_value columns row e ≡ expr_value columns row f
values columns row e f k =
    by_expr (expr_value columns row) (λ v. and_then v negated) (both ◌+ℤ◌) (both ◌-ℤ◌) (both ◌*ℤ◌) (λ p e. refl) (λ p e q f. refl) (λ p e q f. refl)
    (λ p e q f. refl) e f k

exprs_known : (columns : List Column) (e f : Expr) → expr_tree e ≡ expr_tree f → expr_known columns e ≡ expr_known columns f
exprs_known columns e f k =
    by_expr (expr_known columns) (λ j. j) (λ i j. i && j) (λ i j. i && j) (λ i j. i && j) (λ p e. refl) (λ p e q f. refl) (λ p e q f. refl) (λ p e q f. refl)
    e f k

-- whether the whole right side fits, and whether it fits as a part
abbrev fit_pair : List Column → DataType → Expr → Bool × Bool
fit_pair columns type e = (whole_fits columns e (Some type), expr_fits columns type e)

abbrev twice : Bool → Bool × Bool
twice b = (b, b)

abbrev two_fit : DataType → Bool × Bool → Bool × Bool → Bool × Bool
two_fit type x y = twice (is_same_type type Number && (x.1 && y.1))

pairs_fit : (columns : List Column) (type : DataType) (e f : Expr) → expr_tree e ≡ expr_tree f → fit_pair columns type e ≡ fit_pair columns type f
pairs_fit columns type e f k =
    by_expr (fit_pair columns type) (λ (x : Bool × Bool). twice (is_same_type type Number && x.1)) (two_fit type) (two_fit type) (two_fit type) (λ p e. refl)
    (λ p e q f. refl) (λ p e q f. refl) (λ p e q f. refl) e f k

wholes_fit : (columns : List Column) (type : Option DataType) (e f : Expr) → expr_tree e ≡ expr_tree f → whole_fits columns e type ≡ whole_fits columns f type
wholes_fit columns None e f k = refl
wholes_fit columns (Some type) e f k = ap (λ (x : Bool × Bool). x.0) (pairs_fit columns type e f k)

-- ---- assignments

column_same : (a b : Set) → set_tree a ≡ set_tree b → a.column ≡ b.column
column_same a b e = ap (λ (t : List ℕ × ExprTree). t.0) e

value_same : (a b : Set) → set_tree a ≡ set_tree b → expr_tree a.value ≡ expr_tree b.value
value_same a b e = ap (λ (t : List ℕ × ExprTree). t.1) e

set_known_same : (columns : List Column) (a b : Set) → set_tree a ≡ set_tree b → set_known columns a ≡ set_known columns b
set_known_same columns a b e =
    let x = column_same a b e in let y = exprs_known columns a.value b.value (value_same a b e) in cc

set_fits_same : (schema : Schema) (a b : Set) → set_tree a ≡ set_tree b → set_fits schema a ≡ set_fits schema b
set_fits_same schema a b e =
    let x = column_same a b e in let y = wholes_fit schema.columns (column_type schema.columns a.column) a.value b.value (value_same a b e) in cc

sets_same : (p : Set → Bool) → ((a b : Set) → set_tree a ≡ set_tree b → p a ≡ p b) → (xs ys : List Set) → map set_tree xs ≡ map set_tree ys
    → list_all p xs ≡ list_all p ys
sets_same p same [] [] e = refl
sets_same p same [] (y ∷ ys) e = absurd (cc)
sets_same p same (x ∷ xs) [] e = absurd (cc)
sets_same p same (x ∷ xs) (y ∷ ys) e = let here = same x y (cc) in let rest = sets_same p same xs ys (cc) in cc

assigned_same : (columns : List Column) (row : List Value) (a b : Set) → set_tree a ≡ set_tree b → assigned columns row a ≡ assigned columns row b
assigned_same columns row a b e =
    let x = column_same a b e in let y = values columns row a.value b.value (value_same a b e) in cc

then_same : {A B : Type 0} (r : Result A SqlError) (f g : A → Result B SqlError) → ((a : A) → f a ≡ g a) → and_then r f ≡ and_then r g
then_same (Ok a) f g h = h a
then_same (Err e) f g h = refl

all_assigned_same : (columns : List Column) (xs ys : List Set) → map set_tree xs ≡ map set_tree ys → (row : List Value)
    → all_assigned columns row xs ≡ all_assigned columns row ys
all_assigned_same columns [] [] e row = refl
all_assigned_same columns [] (y ∷ ys) e row = absurd (cc)
all_assigned_same columns (x ∷ xs) [] e row = absurd (cc)
all_assigned_same columns (x ∷ xs) (y ∷ ys) e row =
    ap (λ (r : Result (List Value) SqlError). and_then r (λ after. all_assigned columns after xs)) (assigned_same columns row x y (cc))
    ∙ then_same (assigned columns row y) (λ after. all_assigned columns after xs) (λ after. all_assigned columns after ys)
    (λ after. all_assigned_same columns xs ys (cc) after)

updated_same : (table : ℕ) (schema : Schema) (xs ys : List Set) → map set_tree xs ≡ map set_tree ys → (rows : List (List Value))
    → updated table schema xs rows ≡ updated table schema ys rows
updated_same table schema xs ys e [] = refl
updated_same table schema xs ys e (row ∷ rows) =
    let x = all_assigned_same schema.columns xs ys e row in let y = updated_same table schema xs ys e rows in
    ap (λ (r : Result (List Value) SqlError). change_then (and_then r (λ after. Ok (change_to table row after))) (updated table schema xs rows)) x
    ∙ ap (λ (w : Written). change_then (row_update table schema ys row) w) y

-- ---- statements

on_rows_same : (db : Database) (table : List ℕ) (f g : ℕ → Schema → List (List Value) → Outcome)
    → ((n : ℕ) (schema : Schema) (rows : List (List Value)) → f n schema rows ≡ g n schema rows) → on_rows db table f ≡ on_rows db table g
on_rows_same db table f g h = at (table_place db.schemas table)
  where
    there : (n : ℕ) (o : Option Schema) → on_schema n o (rows_of n db) f ≡ on_schema n o (rows_of n db) g
    there n None = refl
    there n (Some schema) = h n schema (rows_of n db)

    at : (o : Option ℕ) → on_number db o f ≡ on_number db o g
    at None = refl
    at (Some n) = there n (slice_get db.schemas n)

on_table_same : (o : Option Schema) (f g : Schema → Option SqlError) → ((schema : Schema) → f schema ≡ g schema) → on_table o f ≡ on_table o g
on_table_same None f g h = refl
on_table_same (Some schema) f g h = h schema

module _ (db : Database) (table : List ℕ) (f g : Option Filter) (e : where_tree f ≡ where_tree g) where
  select_same : (selected : Selected) (lock : Option Mode) → outcome (stmt.Select selected table f lock) db ≡ outcome (stmt.Select selected table g lock) db
  select_same selected lock =
      let r =
      on_table_same (schema_named db.schemas table) (select_refusal selected f) (select_refusal selected g)
      (λ schema. let k = wheres_known f g e schema.columns in let t = wheres_fit f g e schema.columns in cc) in
      let a =
      on_rows_same db table (select_answer selected f) (select_answer selected g)
      (λ n schema rows. ap (λ (m : List (List Value)). answered (Rows (map (selected_of schema.columns selected) m)))
      (matchings f g e schema.columns rows)) in
      ap (λ (x : Option SqlError). unless_refused x (answer_to (stmt.Select selected table f lock) db)) r
      ∙ ap (λ (y : Outcome). unless_refused (refusal db.schemas (stmt.Select selected table g lock)) y) a

  delete_same : outcome (stmt.Delete table f) db ≡ outcome (stmt.Delete table g) db
  delete_same =
      let r =
      on_table_same (schema_named db.schemas table) (delete_refusal f) (delete_refusal g)
      (λ schema. let k = wheres_known f g e schema.columns in let t = wheres_fit f g e schema.columns in cc) in
      let a =
      on_rows_same db table (delete_answer f) (delete_answer g)
      (λ n schema rows. ap (λ (m : List (List Value)). counted (record { changes = deleted n schema m; refusal = None }))
      (matchings f g e schema.columns rows)) in
      ap (λ (x : Option SqlError). unless_refused x (answer_to (stmt.Delete table f) db)) r
      ∙ ap (λ (y : Outcome). unless_refused (refusal db.schemas (stmt.Delete table g)) y) a

  update_same : (xs ys : List Set) → map set_tree xs ≡ map set_tree ys → outcome (stmt.Update table xs f) db ≡ outcome (stmt.Update table ys g) db
  update_same xs ys s =
      let r = on_table_same (schema_named db.schemas table) (update_refusal xs f) (update_refusal ys g) (λ schema.
      let k = wheres_known f g e schema.columns in let t = wheres_fit f g e schema.columns in
      let known = sets_same (set_known schema.columns) (set_known_same schema.columns) xs ys s in
      let fit = sets_same (set_fits schema) (set_fits_same schema) xs ys s in cc) in
      let a = on_rows_same db table (update_answer xs f) (update_answer ys g) (λ n schema rows.
      ap (λ (m : List (List Value)). counted (updated n schema xs m)) (matchings f g e schema.columns rows)
      ∙ ap (λ (w : Written). counted w) (updated_same n schema xs ys s (matching schema.columns g rows))) in
      ap (λ (x : Option SqlError). unless_refused x (answer_to (stmt.Update table xs f) db)) r
      ∙ ap (λ (y : Outcome). unless_refused (refusal db.schemas (stmt.Update table ys g)) y) a

-- a statement without boxes
pub plain_same : (a b : Stmt) → tree.Other a ≡ tree_of b → a ≡ b
plain_same a (stmt.Select s t f l) e = absurd (cc)
plain_same a (stmt.Update t sets f) e = absurd (cc)
plain_same a (stmt.Delete t f) e = absurd (cc)
plain_same a other e = cc

pub outcome_same : (a b : Stmt) → tree_of a ≡ tree_of b → (db : Database) → outcome a db ≡ outcome b db
outcome_same (stmt.Select s t f l) (stmt.Select v u g m) e db =
    let x : s ≡ v = cc in let y : t ≡ u = cc in let z : l ≡ m = cc in
    select_same db t f g (cc) s l ∙ ap (λ (s : Selected). outcome (stmt.Select s t g l) db) x ∙ ap (λ (t : List ℕ). outcome (stmt.Select v t g l) db) y ∙ ap
    (λ (l : Option Mode). outcome (stmt.Select v u g l) db) z
outcome_same (stmt.Select s t f l) b e db = absurd (cc)
outcome_same (stmt.Update t xs f) (stmt.Update u ys g) e db =
    let y : t ≡ u = cc in update_same db t f g (cc) xs ys (cc) ∙ ap (λ (t : List ℕ). outcome (stmt.Update t ys g) db) y
outcome_same (stmt.Update t xs f) b e db = absurd (cc)
outcome_same (stmt.Delete t f) (stmt.Delete u g) e db =
    let y : t ≡ u = cc in delete_same db t f g (cc) ∙ ap (λ (t : List ℕ). outcome (stmt.Delete t g) db) y
outcome_same (stmt.Delete t f) b e db = absurd (cc)
outcome_same a b e db = ap (λ (s : Stmt). outcome s db) (plain_same a b e)
