-- Tables keep their numbers where more come behind them.
-- So a name that is found names the same table; `Outcomes` and `Claims` ask it.
use Rattle.std.proofs.Common.{◌≡◌, ◌∙◌, ap, sym, subst, refl, ℕ, zero, suc, ◌+◌, ◌<◌, Bool, true, false, not, cond, List, [], ◌∷◌, ◌++◌, length, length-append}
use Rattle.std.proofs.Common.{Option, Some, None, arith}
use Rattle.std.specs.Prelude.{nat_lt, position, bytes_eq, slice_get}
use Rattle.std.specs.List.{position_or_len}
use Rattle.std.proofs.lemmas.Bool.Decides.{nat_tests}
use Rattle.inno_types.specs.declared.value.Schema.{Schema}
use Rattle.inno_types.specs.declared.reply.SqlError.{SqlError}
use Rattle.inno_types.specs.declared.stmt.Stmt.{Stmt}
use Rattle.inno_types.specs.declared.stmt.Stmt.TheVariants as stmt
use Rattle.inno_db.specs.Names.{table_place}
use Rattle.inno_db.specs.Refusals.{refusal, on_table, schema_at, schema_named, select_refusal, insert_refusal, update_refusal, delete_refusal}
use Rattle.sql_history.specs.Statements.{is_on_rows}

or_len_stays : {X : Type 0} (p : X → Bool) (xs ys : List X) → position_or_len p xs < length xs → position_or_len p (xs ++ ys) ≡ position_or_len p xs
or_len_stays p [] ys lt = absurd (omega arith)
or_len_stays p (x ∷ xs) ys lt = go (p x) lt (or_len_stays p xs ys) where
  go : (b : Bool) → cond (not b) (1 + position_or_len p xs) 0 < suc (length xs)
      → (position_or_len p xs < length xs → position_or_len p (xs ++ ys) ≡ position_or_len p xs)
      → cond (not b) (1 + position_or_len p (xs ++ ys)) 0 ≡ cond (not b) (1 + position_or_len p xs) 0
  go true less later = refl
  go false less later = ap (λ n. 1 + n) (later (omega (arith, less)))

position_stays : {X : Type 0} (p : X → Bool) (xs ys : List X) (n : ℕ) → position p xs ≡ Some n → (n < length xs) × (position p (xs ++ ys) ≡ Some n)
position_stays p xs ys n is = go (nat_lt (position_or_len p xs) (length xs)) refl is where
  go : (b : Bool) → nat_lt (position_or_len p xs) (length xs) ≡ b → cond b (Some (position_or_len p xs)) None ≡ Some n
      → (n < length xs) × (position p (xs ++ ys) ≡ Some n)
  go false at found = (let x = found in cc)
  go true at found =
      let lt : position_or_len p xs < length xs = grind (arith, nat_tests, at) in
      let same : position_or_len p (xs ++ ys) ≡ position_or_len p xs = or_len_stays p xs ys lt in
      let within : nat_lt (position_or_len p (xs ++ ys)) (length (xs ++ ys)) ≡ true = grind (arith, nat_tests, same, lt, length-append xs ys) in
      let number : position_or_len p xs ≡ n = cc in
      (subst (λ m. m < length xs) number lt, rw within (ap Some same ∙ found))

pub place_within : (schemas : List Schema) (name : List ℕ) (n : ℕ) → table_place schemas name ≡ Some n → n < length schemas
place_within schemas name n is = (position_stays (λ schema. bytes_eq schema.name name) schemas [] n is).0

pub place_stays : (schemas more : List Schema) (name : List ℕ) (n : ℕ) → table_place schemas name ≡ Some n → table_place (schemas ++ more) name ≡ Some n
place_stays schemas more name n is = (position_stays (λ schema. bytes_eq schema.name name) schemas more n is).1

pub got_before : (schemas more : List Schema) (n : ℕ) (schema : Schema) → slice_get schemas n ≡ Some schema → slice_get (schemas ++ more) n ≡ Some schema
got_before [] more n schema is = (let x = is in cc)
got_before (first ∷ schemas) more zero schema is = is
got_before (first ∷ schemas) more (suc n) schema is = got_before schemas more n schema is

-- what a statement that isn't refused finds of its table
pub record Found (schemas : List Schema) (name : List ℕ) : Type 0 where
  pub n : ℕ
  pub schema : Schema
  pub at : table_place schemas name ≡ Some n
  pub is : slice_get schemas n ≡ Some schema

pub found_of : (schemas : List Schema) (name : List ℕ) (refuses : Schema → Option SqlError) → on_table (schema_named schemas name) refuses ≡ None
    → Found schemas name
found_of schemas name refuses none = on_place (table_place schemas name) refl where
  on_place : (p : Option ℕ) → table_place schemas name ≡ p → Found schemas name
  on_place None at = absurd (let e = sym (ap (λ o. on_table (schema_at schemas o) refuses) at) ∙ none in cc)
  on_place (Some n) at = on_found (slice_get schemas n) refl where
    on_found : (o : Option Schema) → slice_get schemas n ≡ o → Found schemas name
    on_found None is = absurd (let e = sym (ap (λ o. on_table (schema_at schemas o) refuses) at ∙ ap (λ o. on_table o refuses) is) ∙ none in cc)
    on_found (Some schema) is = record { n = n; schema = schema; at = at; is = is }

pub named_stays : (schemas more : List Schema) (name : List ℕ) (refuses : Schema → Option SqlError) → on_table (schema_named schemas name) refuses ≡ None
    → on_table (schema_named (schemas ++ more) name) refuses ≡ None
named_stays schemas more name refuses none =
    let found = found_of schemas name refuses none in
    let wide : schema_named (schemas ++ more) name ≡ Some found.schema =
    ap (schema_at (schemas ++ more)) (place_stays schemas more name found.n found.at) ∙ got_before schemas more found.n found.schema found.is in
    let here : schema_named schemas name ≡ Some found.schema = ap (schema_at schemas) found.at ∙ found.is in
    ap (λ o. on_table o refuses) wide ∙ (sym (ap (λ o. on_table o refuses) here) ∙ none)

pub unrefused_stays : (schemas more : List Schema) (statement : Stmt) → is_on_rows statement ≡ true → refusal schemas statement ≡ None
    → refusal (schemas ++ more) statement ≡ None
unrefused_stays schemas more (stmt.Select selected name condition lock) rows none = named_stays schemas more name (select_refusal selected condition) none
unrefused_stays schemas more (stmt.Insert name names tuples) rows none = named_stays schemas more name (insert_refusal names tuples) none
unrefused_stays schemas more (stmt.Update name sets condition) rows none = named_stays schemas more name (update_refusal sets condition) none
unrefused_stays schemas more (stmt.Delete name condition) rows none = named_stays schemas more name (delete_refusal condition) none
unrefused_stays schemas more other rows none = absurd (cc)
