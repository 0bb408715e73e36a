-- What a statement takes of the rows that its search left is the latest.
use Rattle.std.proofs.Common.{◌≡◌, ◌≢◌, ◌∙◌, ap, sym, subst, refl, ℕ, Bool, true, false, not, cond, List, [], ◌∷◌, map, Option, Some, None, Ok, Err, arith}
use Rattle.std.specs.Prelude.{filter, ◌==◌, ◌&&◌, slice_get, slice_set, if◌then◌else◌}
use Rattle.std.specs.List.{AllByRecursion, list_all}
use Rattle.std.specs.FinMap.{entries, get}
use Rattle.std.specs.FinMap.Entries.{where_key}
use Rattle.std.proofs.lemmas.List.{get_or-set_other}
use Rattle.std.proofs.lemmas.Bool.Decides.{nat_tests, Decides-eqb}
use Rattle.inno_types.specs.declared.value.Value.{Value}
use Rattle.inno_types.specs.declared.value.Value.TheVariants as value
use Rattle.inno_types.specs.declared.value.Schema.{Schema}
use Rattle.inno_types.specs.declared.stmt.Filter.{Filter}
use Rattle.inno_types.specs.declared.stmt.Set.{Set}
use Rattle.inno_types.specs.declared.stmt.Stmt.{Stmt}
use Rattle.inno_types.specs.declared.stmt.Stmt.TheVariants.{Select, Update, Delete}
use Rattle.inno_types.specs.declared.reply.SqlError.{SqlError}
use Rattle.inno_types.specs.declared.reply.SqlError.TheVariants.{Syntax, NoColumn}
use Rattle.inno_db.specs.declared.change.Change.TheVariants.{Put}
use Rattle.inno_db.specs.declared.outcome.Outcome.{Outcome}
use Rattle.inno_db.specs.Database.{Database, Place, place_cmp, key_of, key_in, rows_of}
use Rattle.inno_db.specs.Names.{table_place, column_place}
use Rattle.inno_db.specs.Expressions.{and_then, expr_value}
use Rattle.inno_db.specs.Conditions.{matches}
use Rattle.inno_db.specs.Storing.{stored, put_in, put_at, assigned, all_assigned}
use Rattle.inno_db.specs.Typing.{is_primary, column_type, whole_fits, set_fits, set_known, where_known, where_fits}
use Rattle.inno_db.specs.Refusals.{refusal, refused_if, on_table, schema_at, update_refusal}
use Rattle.inno_db.specs.Outcome.{matching, is_same_row, updated, deleted, change_to, change_then, answer_to, unless_refused, on_schema, on_number, update_answer, delete_answer}
use Rattle.inno_db.proofs.Keys.{key_in-at}
use Rattle.inno_db.specs.Keyed.{AreAtTheirKeys, IsKeyed}
use Rattle.law_db.proofs.Values.{ok_same, and_then-ok, both_true}
use Rattle.sql_history.specs.Answers.{IsSameAt, ChangesLatest, GivesLatest, GivesLatestOf, TakesLatest}
use Rattle.law_isolation.specs.Searching.{Searches, is_missed, without_missed}
use Rattle.law_isolation.proofs.Retained.{get_kept, entries_kept, all_stand}

-- ---- lists

all_filtered : {A : Type 0} (P : A → Type 0) (test : A → Bool) (xs : List A) → AllByRecursion P xs → AllByRecursion P (filter test xs)
all_filtered P test [] all = tt
all_filtered P test (x ∷ xs) all =
    let rest = all_filtered P test xs all.1 in
    elim (test x) as (λ b. AllByRecursion P (cond b (x ∷ filter test xs) (filter test xs))) [ true ↦ (all.0, rest) | false ↦ rest ]

keyed_kept : (p : Place → Bool) (es : List (Place × List Value)) (schemas : List Schema) → AreAtTheirKeys schemas es
    → AreAtTheirKeys schemas (where_key place_cmp p es)
keyed_kept p [] schemas keyed = tt
keyed_kept p (e ∷ es) schemas keyed =
    let rest = keyed_kept p es schemas keyed.1 in
    elim (p e.0) as (λ b. AreAtTheirKeys schemas (cond b (e ∷ where_key place_cmp p es) (where_key place_cmp p es))) [ true ↦ (keyed.0, rest) | false ↦ rest ]

-- each row of the table stands at its key
rows_stand : (d : Database) (table : ℕ) (schema : Schema) (es : List (Place × List Value)) → slice_get d.schemas table ≡ Some schema
    → AllByRecursion (λ e. get d.rows e.0 ≡ Some e.1) es → AreAtTheirKeys d.schemas es
    → AllByRecursion (λ row. get d.rows (table, key_of schema row) ≡ Some row)
    (map (λ (e : Place × List Value). e.1) (filter (λ (e : Place × List Value). e.0.0 == table) es))
rows_stand d table schema [] is all keyed = tt
rows_stand d table schema (e ∷ es) is all keyed =
    let rest = rows_stand d table schema es is all.1 keyed.1 in
    elim (e.0.0 == table) as (λ b. (e.0.0 == table) ≡ b → AllByRecursion (λ row. get d.rows (table, key_of schema row) ≡ Some row)
    (map (λ (x : Place × List Value). x.1) (cond b (e ∷ filter (λ (x : Place × List Value). x.0.0 == table) es)
    (filter (λ (x : Place × List Value). x.0.0 == table) es)))) [
      | false ↦ λ other. rest
      | true ↦ λ same.
          let here : e.0.0 ≡ table = (Decides-eqb e.0.0 table).0 same in
          let key : e.0.1 ≡ key_of schema e.1 = keyed.0.1 ∙ ap (λ t. key_in d.schemas t e.1) here ∙ key_in-at d.schemas table schema e.1 is in
          let place : e.0 ≡ (table, key_of schema e.1) = λ i. (here i, key i) in
          (subst (λ (q : Place). get d.rows q ≡ Some e.1) place all.0, rest)
    ] refl

-- ---- an assignment leaves the key

not_true : (b : Bool) → not b ≡ true → b ≡ false
not_true true e = cc
not_true false e = refl

put_leaves : (schema : Schema) (row after : List Value) (v : Value) (place : Option ℕ) → not (is_primary schema.primary place) ≡ true
    → put_at schema.columns row place v ≡ Ok after → key_of schema after ≡ key_of schema row
put_leaves schema row after v None apart h = ap (key_of schema) (sym (ok_same h))
put_leaves schema row after v (Some place) apart h =
    elim (slice_get schema.columns place) as (λ o. put_in o place row v ≡ Ok after → key_of schema after ≡ key_of schema row) [
      | None ↦ λ p. ap (key_of schema) (sym (ok_same p))
      | Some column ↦ λ p.
          let a = and_then-ok (stored column v) (λ w. Ok (slice_set row place w)) after p in
          let differ : schema.primary ≢ place =
          λ same. (let e = not_true (place == schema.primary) apart in let f : (place == schema.primary) ≡ true = grind (arith, nat_tests, same) in cc) in
          ap (key_of schema) (sym (ok_same a.2)) ∙ get_or-set_other row place schema.primary a.0 value.Null differ
    ] h

assigned_leaves : (schema : Schema) (row after : List Value) (set : Set) → set_fits schema set ≡ true → assigned schema.columns row set ≡ Ok after
    → key_of schema after ≡ key_of schema row
assigned_leaves schema row after set typed h =
    let place = column_place schema.columns set.column in
    let a = and_then-ok (expr_value schema.columns row set.value) (put_at schema.columns row place) after h in
    let t = both_true (not (is_primary schema.primary place)) (whole_fits schema.columns set.value (column_type schema.columns set.column)) typed in
    put_leaves schema row after a.0 place t.0 a.2

key_stays : (schema : Schema) (row after : List Value) (sets : List Set) → list_all (set_fits schema) sets ≡ true
    → all_assigned schema.columns row sets ≡ Ok after → key_of schema after ≡ key_of schema row
key_stays schema row after [] typed h = ap (key_of schema) (sym (ok_same h))
key_stays schema row after (set ∷ sets) typed h =
    let t = both_true (set_fits schema set) (list_all (set_fits schema) sets) typed in
    let a = and_then-ok (assigned schema.columns row set) (λ r. all_assigned schema.columns r sets) after h in
    key_stays schema a.0 after sets t.1 a.2 ∙ assigned_leaves schema row a.0 set t.0 a.1

not_refused : (b : Bool) (e : SqlError) (rest : Option SqlError) → refused_if (not b) e rest ≡ None → (b ≡ true) × (rest ≡ None)
not_refused true e rest h = (refl, h)
not_refused false e rest h = cc

sets_fit : (sets : List Set) (condition : Option Filter) (schema : Schema) → update_refusal sets condition schema ≡ None
    → list_all (set_fits schema) sets ≡ true
sets_fit sets condition schema h =
    let a =
    not_refused (list_all (set_known schema.columns) sets && where_known schema.columns condition) NoColumn
    (refused_if (not (list_all (set_fits schema) sets && where_fits schema.columns condition)) (Syntax 0) None) h in
    (both_true (list_all (set_fits schema) sets) (where_fits schema.columns condition)
    (not_refused (list_all (set_fits schema) sets && where_fits schema.columns condition) (Syntax 0) None a.1).0).0

-- ---- what is taken

module _ (latest : Database) (name : List ℕ) (table : ℕ) (schema : Schema) (test found : List Value → Bool)
    (there : table_place latest.schemas name ≡ Some table) (is : slice_get latest.schemas table ≡ Some schema) (keyed : IsKeyed latest) where
  abbrev kept : Place → Bool
  kept place = not ((place.0 == table) && is_missed test found (get latest.rows place))

  abbrev pub shown : Database
  shown = without_missed table test found latest

  pub shown_at : (place : Place) → get shown.rows place ≡ cond (kept place) (get latest.rows place) None
  shown_at place = get_kept latest.rows kept place

  -- a row that stands here is the latest
  same_row : (place : Place) (row : List Value) → get shown.rows place ≡ Some row → IsSameAt shown latest place
  same_row place row stands =
      elim (kept place) as (λ b. get shown.rows place ≡ cond b (get latest.rows place) None → IsSameAt shown latest place) [
        | true ↦ λ e. e
        | false ↦ λ e. (let f = sym e ∙ stands in cc)
      ] (shown_at place)

  keyed_shown : IsKeyed shown
  keyed_shown = subst (AreAtTheirKeys latest.schemas) (sym (entries_kept latest.rows kept)) (keyed_kept kept (entries latest.rows) latest.schemas keyed)

  same_rows : (rows : List (List Value)) → AllByRecursion (λ row. get shown.rows (table, key_of schema row) ≡ Some row) rows
      → AllByRecursion (λ row. IsSameAt shown latest (table, key_of schema row)) rows
  same_rows [] all = tt
  same_rows (row ∷ rows) all = (same_row (table, key_of schema row) row all.0, same_rows rows all.1)

  matched : (condition : Option Filter)
      → AllByRecursion (λ row. IsSameAt shown latest (table, key_of schema row)) (matching schema.columns condition (rows_of table shown))
  matched condition =
      all_filtered (λ row. IsSameAt shown latest (table, key_of schema row)) (matches schema.columns condition) (rows_of table shown)
      (same_rows (rows_of table shown) (rows_stand shown table schema (entries shown.rows) is (all_stand shown.rows) keyed_shown))

  deletes : (rows : List (List Value)) → AllByRecursion (λ row. IsSameAt shown latest (table, key_of schema row)) rows
      → ChangesLatest shown latest (deleted table schema rows)
  deletes [] all = tt
  deletes (row ∷ rows) all = (all.0, deletes rows all.1)

  updates : (sets : List Set) (rows : List (List Value)) → list_all (set_fits schema) sets ≡ true
      → AllByRecursion (λ row. IsSameAt shown latest (table, key_of schema row)) rows → ChangesLatest shown latest (updated table schema sets rows).changes
  updates sets [] typed all = tt
  updates sets (row ∷ rows) typed all =
      let rest = updates sets rows typed all.1 in
      elim (all_assigned schema.columns row sets) as
      (λ r. all_assigned schema.columns row sets ≡ r → ChangesLatest shown latest
      (change_then (and_then r (λ after. Ok (change_to table row after))) (updated table schema sets rows)).changes) [
        | Ok after ↦ λ h.
            let key : key_in latest.schemas table after ≡ key_of schema row =
            key_in-at latest.schemas table schema after is ∙ key_stays schema row after sets typed h in
            let here = subst (λ k. IsSameAt shown latest (table, k)) (sym key) all.0 in
            elim (is_same_row row after) as (λ b. ChangesLatest shown latest
            (change_then (Ok (if b then None else Some (Put table after))) (updated table schema sets rows)).changes) [ true ↦ rest | false ↦ (here, rest) ]
        | Err error ↦ λ h. tt
      ] refl

  by_refusal : (refused : Option SqlError) (answer : Outcome) → (refused ≡ None → ChangesLatest shown latest answer.changes)
      → ChangesLatest shown latest (unless_refused refused answer).changes
  by_refusal None answer all = all refl
  by_refusal (Some error) answer all = tt

  -- the outcome on the table of this name
  on_it : (answer : ℕ → Schema → List (List Value) → Outcome) → ChangesLatest shown latest (answer table schema (rows_of table shown)).changes
      → ChangesLatest shown latest (on_number shown (table_place latest.schemas name) answer).changes
  on_it answer all =
      subst (λ p. ChangesLatest shown latest (on_number shown p answer).changes) (sym there)
      (subst (λ o. ChangesLatest shown latest (on_schema table o (rows_of table shown) answer).changes) (sym is) all)

  pub takes : (statement : Stmt) (condition : Option Filter) → Searches statement name condition → TakesLatest statement shown latest
  takes (Select selected other where' lock) condition searches =
      subst (λ n. GivesLatestOf shown latest (table_place latest.schemas n) where') (sym searches.0)
      (subst (λ p. GivesLatestOf shown latest p where') (sym there) (subst (λ o. GivesLatest shown latest table o where') (sym is) (matched where')))
  takes (Delete other where') condition searches =
      by_refusal (refusal shown.schemas (Delete other where')) (answer_to (Delete other where') shown)
      (λ none. subst (λ n. ChangesLatest shown latest (on_number shown (table_place latest.schemas n) (delete_answer where')).changes) (sym searches.0)
      (on_it (delete_answer where') (deletes (matching schema.columns where' (rows_of table shown)) (matched where'))))
  takes (Update other sets where') condition searches =
      by_refusal (refusal shown.schemas (Update other sets where')) (answer_to (Update other sets where') shown)
      (λ none.
      let at : on_table (schema_at latest.schemas (table_place latest.schemas name)) (update_refusal sets where') ≡ None =
      subst (λ n. on_table (schema_at latest.schemas (table_place latest.schemas n)) (update_refusal sets where') ≡ None) searches.0 none in
      let here : on_table (Some schema) (update_refusal sets where') ≡ None =
      ap (λ o. on_table o (update_refusal sets where')) (sym is) ∙ ap (λ p. on_table (schema_at latest.schemas p) (update_refusal sets where'))
      (sym there) ∙ at in
      subst (λ n. ChangesLatest shown latest (on_number shown (table_place latest.schemas n) (update_answer sets where')).changes) (sym searches.0)
      (on_it (update_answer sets where') (updates sets (matching schema.columns where' (rows_of table shown)) (sets_fit sets where' schema here)
      (matched where'))))
  takes other condition searches = absurd searches
