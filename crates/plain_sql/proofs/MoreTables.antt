-- Tables that come later leave the numbers and the schemas of those that are there, and refuse no statement on rows.
use Rattle.std.proofs.Common.{◌≡◌, ℕ, zero, suc, ◌+◌, ◌<◌, Bool, true, false, cond, Option, Some, None, List, [], ◌∷◌, ◌++◌, length, refl, sym, ap, ◌∙◌, arith, length-append}
use Rattle.std.proofs.lemmas.Bool.Decides.{nat_tests}
use Rattle.std.specs.Prelude.{nat_lt, not, bytes_eq, slice_get}
use Rattle.std.specs.List.{position, position_or_len}
use Rattle.inno_types.specs.declared.value.Schema.{Schema}
use Rattle.inno_types.specs.declared.stmt.Stmt.{Stmt}
use Rattle.inno_types.specs.declared.stmt.Stmt.TheVariants.{CreateTable, Select, Insert, Update, Delete, Begin, Commit, Rollback, RollbackTo, Savepoint, SetAutocommit, SetLevel}
use Rattle.inno_types.specs.declared.reply.SqlError.{SqlError}
use Rattle.inno_db.specs.Names.{table_place}
use Rattle.inno_db.specs.Refusals.{on_table, schema_at, schema_named, select_refusal, insert_refusal, update_refusal, delete_refusal, refusal}
use Rattle.plain_sql.specs.Finding.{IsOnRows}

-- ---- the first that passes

or_len_stays : {X : Type 0} (p : X → Bool) (xs ys : List X) → position_or_len p xs < length xs → position_or_len p (xs ++ ys) ≡ position_or_len p xs
or_len_stays p [] ys lt = absurd (omega arith)
or_len_stays p (x ∷ xs) ys lt = go (p x) lt (or_len_stays p xs ys) where
  go : (b : Bool) → cond (not b) (1 + position_or_len p xs) 0 < suc (length xs)
      → (position_or_len p xs < length xs → position_or_len p (xs ++ ys) ≡ position_or_len p xs)
      → cond (not b) (1 + position_or_len p (xs ++ ys)) 0 ≡ cond (not b) (1 + position_or_len p xs) 0
  go true less later = refl
  go false less later = ap (λ n. 1 + n) (later (omega (arith, less)))

pub position_stays : {X : Type 0} (p : X → Bool) (xs ys : List X) (n : ℕ) → position p xs ≡ Some n → position p (xs ++ ys) ≡ Some n
position_stays p xs ys n is = go (nat_lt (position_or_len p xs) (length xs)) refl is where
  go : (b : Bool) → nat_lt (position_or_len p xs) (length xs) ≡ b → cond b (Some (position_or_len p xs)) None ≡ Some n → position p (xs ++ ys) ≡ Some n
  go false at found = (let x = found in cc)
  go true at found =
      let lt : position_or_len p xs < length xs = grind (arith, nat_tests, at) in
      let same : position_or_len p (xs ++ ys) ≡ position_or_len p xs = or_len_stays p xs ys lt in
      let within : nat_lt (position_or_len p (xs ++ ys)) (length (xs ++ ys)) ≡ true = grind (arith, nat_tests, same, lt, length-append xs ys) in
      rw within (ap Some same ∙ found)

-- ---- the table of a name

pub got_before : (schemas more : List Schema) (n : ℕ) (schema : Schema) → slice_get schemas n ≡ Some schema → slice_get (schemas ++ more) n ≡ Some schema
got_before [] more n schema is = (let x = is in cc)
got_before (first ∷ schemas) more zero schema is = is
got_before (first ∷ schemas) more (suc n) schema is = got_before schemas more n schema is

named_stays : (schemas more : List Schema) (table : List ℕ) (schema : Schema) → schema_named schemas table ≡ Some schema
    → schema_named (schemas ++ more) table ≡ Some schema
named_stays schemas more table schema is = go (table_place schemas table) refl where
  go : (o : Option ℕ) → table_place schemas table ≡ o → schema_named (schemas ++ more) table ≡ Some schema
  go None at = (let none = sym (ap (schema_at schemas) at) ∙ is in cc)
  go (Some n) at =
      ap (schema_at (schemas ++ more)) (position_stays (λ (s : Schema). bytes_eq s.name table) schemas more n at)
      ∙ got_before schemas more n schema (sym (ap (schema_at schemas) at) ∙ is)

-- ---- a statement that isn't refused

on_table_stays : (schemas more : List Schema) (table : List ℕ) (refuses : Schema → Option SqlError) → on_table (schema_named schemas table) refuses ≡ None
    → on_table (schema_named (schemas ++ more) table) refuses ≡ None
on_table_stays schemas more table refuses is = go (schema_named schemas table) refl where
  go : (o : Option Schema) → schema_named schemas table ≡ o → on_table (schema_named (schemas ++ more) table) refuses ≡ None
  go None at = (let refused = sym (ap (λ o. on_table o refuses) at) ∙ is in cc)
  go (Some schema) at =
      ap (λ o. on_table o refuses) (named_stays schemas more table schema at) ∙ (sym (ap (λ o. on_table o refuses) at) ∙ is)

pub more_tables : (schemas more : List Schema) (stmt : Stmt) → IsOnRows stmt → refusal schemas stmt ≡ None → refusal (schemas ++ more) stmt ≡ None
more_tables schemas more (CreateTable table if_not_exists definitions) on is = absurd on
more_tables schemas more (Select selected table filter lock) on is = on_table_stays schemas more table (select_refusal selected filter) is
more_tables schemas more (Insert table names tuples) on is = on_table_stays schemas more table (insert_refusal names tuples) is
more_tables schemas more (Update table sets filter) on is = on_table_stays schemas more table (update_refusal sets filter) is
more_tables schemas more (Delete table filter) on is = on_table_stays schemas more table (delete_refusal filter) is
more_tables schemas more (Begin snapshot) on is = refl
more_tables schemas more Commit on is = refl
more_tables schemas more Rollback on is = refl
more_tables schemas more (RollbackTo savepoint) on is = refl
more_tables schemas more (Savepoint name) on is = refl
more_tables schemas more (SetAutocommit on-off) on is = refl
more_tables schemas more (SetLevel scope level) on is = refl
