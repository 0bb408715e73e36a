-- Each row that a change of a statement removes is there when it goes.
use Rattle.std.proofs.Common.{◌≡◌, ◌∙◌, refl, sym, ap, subst, ℕ, Bool, T, true, false, cond, map, reverse, is_some, Some, None, Option, Ok, Err}
use Rattle.std.proofs.Common.{List, [], ◌∷◌, ◌++◌, inl, inr, Ordering}
use Rattle.std.specs.Prelude.{filter, ◌==◌, ◌&&◌, slice_get}
use Rattle.std.specs.Ordering.{eq_by_cmp, is_eq, is_lt}
use Rattle.std.specs.declared.cmp.Ordering.TheVariants.{Less, Equal, Greater}
use Rattle.std.specs.Cmp.{eq_by_cmp_equiv}
use Rattle.std.specs.FinMap.{entries, entries_sorted, find, get, get-entries, is_sorted}
use Rattle.std.specs.FinMap.Entries.{below_all}
use Rattle.std.proofs.lemmas.Cmp.{tied_itself}
use Rattle.std.proofs.lemmas.Bool.Decides.{eqb_tells}
use Rattle.inno_types.specs.declared.value.Value.{Value}
use Rattle.inno_types.specs.declared.value.Schema.{Schema}
use Rattle.inno_types.specs.declared.stmt.Literal.{Literal}
use Rattle.inno_types.specs.declared.stmt.Set.{Set}
use Rattle.inno_types.specs.declared.stmt.Stmt.{Stmt}
use Rattle.inno_types.specs.declared.stmt.Stmt.TheVariants as stmt
use Rattle.inno_db.specs.declared.change.Change.{Change}
use Rattle.inno_db.specs.declared.change.Change.TheVariants.{Create, Put, Remove}
use Rattle.inno_db.specs.declared.outcome.Outcome.{Outcome}
use Rattle.inno_db.specs.Database.{Database, Place, RowMap, place_cmp, key_of, key_in, rows_of}
use Rattle.inno_db.specs.Order.{place_cmp_total}
use Rattle.inno_db.specs.Names.{table_place}
use Rattle.inno_db.specs.Expressions.{and_then}
use Rattle.inno_db.specs.Conditions.{matches}
use Rattle.inno_db.specs.Changes.{apply_one, apply}
use Rattle.inno_db.specs.Refusals.{refusal}
use Rattle.inno_db.specs.Storing.{all_assigned}
use Rattle.inno_db.specs.Outcome.{matching, is_same_row, row_for, put_then, inserted, change_to, change_then, updated, deleted, on_schema, on_number, on_rows, insert_answer, update_answer, delete_answer, answer_to, unless_refused, outcome}
use Rattle.inno_db.proofs.Applying.{get_removed_other}
use Rattle.inno_db.proofs.Keys.{key_in-at}
use Rattle.inno_db.specs.Keyed.{IsKeyed, AreAtTheirKeys, IsAtItsKey}
use Rattle.inno_model.specs.declared.event.Event.{Event}
use Rattle.inno_model.specs.Past.{commits, changed, current}
use Rattle.sql_history.specs.Items.{base}
use Rattle.sql_history.specs.Legal.{IsWriting}
use Rattle.law_past_agreement.specs.Order.{IsOrdered}
use Rattle.law_past_agreement.specs.Rows.{seen}
use Rattle.law_past_agreement.specs.DatabaseTables.{with_all_tables}
use Rattle.law_past_agreement.proofs.Gets.{seen_is}
use Rattle.law_stored_rows.proofs.Rows.{AreFitting-IsKeyed}
use Rattle.law_found_rows.proofs.FittingDatabases.{latest_coded}
use Rattle.shared_lists.specs.Fitting.{FitsThen, RemovesOne}
use Rattle.sql_lists.specs.Kept.{AreStanding, IsInOrder}
use Rattle.write_statement.specs.declared.machine.Part.{Part}
use Rattle.write_statement.specs.Running.{IsChanging}
use Rattle.write_statement.proofs.Changed.{current_is}
use Rattle.write_statement.proofs.Changes.{parts_are}
use Rattle.sql_lists.proofs.MoreTables.{same_map}

abbrev IsThere : Database → Change → Type 0
IsThere db (Remove table key) = is_some (get db.rows (table, key)) ≡ true
IsThere db other = Unit {0}

-- each row that is removed is there by then
abbrev AreThere : Database → List Change → Type 0
AreThere db [] = Unit {0}
AreThere db (change ∷ changes) = IsThere db change × AreThere (apply_one db change) changes

-- so the next one is behind those before it
next_there : (db : Database) (made : List Change) (change : Change) (later : List Change) → AreThere db (made ++ change ∷ later)
    → IsThere (apply db made) change
next_there db [] change later all = all.0
next_there db (first ∷ made) change later all = next_there (apply_one db first) made change later all.1

-- ---- entries of a map

abbrev AreStored : Database → List (Place × List Value) → Type 0
AreStored db [] = Unit {0}
AreStored db (e ∷ es) = (is_some (get db.rows e.0) ≡ true) × AreStored db es

found_too : (b : Bool) (row : List Value) (o : Option (List Value)) → is_some o ≡ true → is_some (cond b (Some row) o) ≡ true
found_too true row o is = refl
found_too false row o is = is

stored : (db : Database) (es : List (Place × List Value)) → ((p : Place) → is_some (find place_cmp p es) ≡ true → is_some (get db.rows p) ≡ true)
    → AreStored db es
stored db [] finds = tt
stored db (e ∷ es) finds = (
  finds e.0 (ap (λ o. is_some (cond (is_eq o) (Some e.1) (find place_cmp e.0 es))) (tied_itself place_cmp_total e.0)),
  stored db es (λ p is. finds p (found_too (eq_by_cmp place_cmp p e.0) e.1 (find place_cmp p es) is)),
)

less_apart : (o : Ordering) → T (is_lt o) → is_eq o ≡ false
less_apart Less h = refl
less_apart Equal h = absurd h
less_apart Greater h = refl

first : (a b : Bool) → T (a && b) → T a
first true b h = tt
first false b h = h

second : (a b : Bool) → T (a && b) → T b
second true b h = h
second false b h = absurd h

-- a removal leaves those of greater keys
stored_then : (db : Database) (table : ℕ) (key : Value) (es : List (Place × List Value)) → T (below_all place_cmp (table, key) es) → AreStored db es
    → AreStored (apply_one db (Remove table key)) es
stored_then db table key [] above all = tt
stored_then db table key (e ∷ es) above all =
    let at : Place = (table, key) in
    let apart : eq_by_cmp place_cmp e.0 at ≡ false =
    (eq_by_cmp_equiv place_cmp_total).symm e.0 at ∙ less_apart (place_cmp at e.0) (first (is_lt (place_cmp at e.0)) (below_all place_cmp at es) above) in
    let later = second (is_lt (place_cmp at e.0)) (below_all place_cmp at es) above in
    (ap is_some (get_removed_other db table key e.0 apart) ∙ all.0, stored_then db table key es later all.1)

-- ---- a DELETE

module _ (schemas : List Schema) (table : ℕ) (schema : Schema) (is : slice_get schemas table ≡ Some schema) (test : List Value → Bool) where
  at_place : (e : Place × List Value) → IsAtItsKey schemas e → e.0.0 ≡ table → ◌≡◌ {A = Place} e.0 (table, key_of schema e.1)
  at_place e at here =
      let kept : e.0.1 ≡ key_of schema e.1 = at.1 ∙ ap (λ t. key_in schemas t e.1) here ∙ key_in-at schemas table schema e.1 is in
      λ i. (here i, kept i)

  abbrev passing : List (Place × List Value) → List (List Value)
  passing es = filter test (map (λ (e : Place × List Value). e.1) (filter (λ (e : Place × List Value). e.0.0 == table) es))

  deleted_there : (es : List (Place × List Value)) → AreAtTheirKeys schemas es → T (is_sorted place_cmp es) → (db : Database) → AreStored db es
      → AreThere db (deleted table schema (passing es))
  deleted_there [] at rising db all = tt
  deleted_there (e ∷ es) at rising db all =
      let rest = deleted_there es at.1 (second (below_all place_cmp e.0 es) (is_sorted place_cmp es) rising) in
      let above = first (below_all place_cmp e.0 es) (is_sorted place_cmp es) rising in
      elim (eqb_tells e.0.0 table) [
        | inr apart ↦ rw apart.0 (rest db all.1)
        | inl here ↦
            let same = at_place e at.0 here.1 in
            rw here.0 (elim (test e.1) as (λ b. AreThere db (deleted table schema (cond b (e.1 ∷ passing es) (passing es)))) [
              | true ↦ (
                subst (λ (p : Place). is_some (get db.rows p) ≡ true) same all.0,
                rest (apply_one db (Remove table (key_of schema e.1)))
                    (stored_then db table (key_of schema e.1) es (subst (λ (p : Place). T (below_all place_cmp p es)) same above) all.1),
              )
              | false ↦ rest db all.1
            ])
      ]

-- ---- what puts rows alone

inserted_there : (db : Database) (table : ℕ) (schema : Schema) (names : Option (List (List ℕ))) (rows : List (List Value)) (tuples : List (List Literal))
    → AreThere db (inserted table schema names rows tuples).changes
inserted_there db table schema names rows [] = tt
inserted_there db table schema names rows (tuple ∷ tuples) =
    elim (row_for schema names rows tuple) as (λ r. AreThere db (put_then table r (λ row. inserted table schema names (rows ++ row ∷ []) tuples)).changes) [
      | Ok row ↦ (tt, inserted_there (apply_one db (Put table row)) table schema names (rows ++ row ∷ []) tuples)
      | Err error ↦ tt
    ]

updated_there : (db : Database) (table : ℕ) (schema : Schema) (sets : List Set) (rows : List (List Value))
    → AreThere db (updated table schema sets rows).changes
updated_there db table schema sets [] = tt
updated_there db table schema sets (row ∷ rows) =
    elim (all_assigned schema.columns row sets)
    as (λ r. AreThere db (change_then (and_then r (λ after. Ok (change_to table row after))) (updated table schema sets rows)).changes) [
      | Ok after ↦ elim (is_same_row row after)
          as (λ b. AreThere db (change_then (Ok (cond b None (Some (Put table after)))) (updated table schema sets rows)).changes) [
            | true ↦ updated_there db table schema sets rows
            | false ↦ (tt, updated_there (apply_one db (Put table after)) table schema sets rows)
          ]
      | Err error ↦ tt
    ]

-- ---- any statement

on_table : (db : Database) (name : List ℕ) (answer : ℕ → Schema → List (List Value) → Outcome)
    → ((n : ℕ) (schema : Schema) → slice_get db.schemas n ≡ Some schema → AreThere db (answer n schema (rows_of n db)).changes)
    → AreThere db (on_rows db name answer).changes
on_table db name answer each =
    elim (table_place db.schemas name) as (λ p. AreThere db (on_number db p answer).changes) [
      | None ↦ tt
      | Some n ↦ elim (slice_get db.schemas n) as (λ o. slice_get db.schemas n ≡ o → AreThere db (on_schema n o (rows_of n db) answer).changes) [
        | None ↦ λ is. tt
        | Some schema ↦ λ is. each n schema is
      ] refl
    ]

answer_there : (db : Database) → IsKeyed db → (statement : Stmt) → IsWriting statement → AreThere db (answer_to statement db).changes
answer_there db keyed (stmt.Insert name names tuples) writes =
    on_table db name (insert_answer names tuples) (λ n schema is. inserted_there db n schema names (rows_of n db) tuples)
answer_there db keyed (stmt.Update name sets condition) writes =
    on_table db name (update_answer sets condition) (λ n schema is. updated_there db n schema sets (matching schema.columns condition (rows_of n db)))
answer_there db keyed (stmt.Delete name condition) writes =
    on_table db name (delete_answer condition) (λ n schema is.
    deleted_there db.schemas n schema is (matches schema.columns condition) (entries db.rows) keyed (entries_sorted db.rows) db
    (stored db (entries db.rows) (λ p found. ap is_some (get-entries db.rows p) ∙ found)))
answer_there db keyed other writes = absurd writes

outcome_there : (db : Database) → IsKeyed db → (statement : Stmt) → IsWriting statement → AreThere db (outcome statement db).changes
outcome_there db keyed statement writes =
    elim (refusal db.schemas statement) as (λ o. AreThere db (unless_refused o (answer_to statement db)).changes) [
      | Some error ↦ tt
      | None ↦ answer_there db keyed statement writes
    ]

-- ---- as the session sees it

module _ (past : List Event) (writer : Option ℕ) (s : ℕ) (part : Part) (next : Database → Outcome) (todo : List Change) (change : Change)
    (r : IsChanging past writer s part next (todo ++ change ∷ [])) (fits : FitsThen past) (ordered : IsOrdered past) (in-order : IsInOrder past)
    (stands : AreStanding past) where
  as_seen : (c : Change) → IsThere (current s past) c → RemovesOne s past c
  as_seen (Create schema) is = tt
  as_seen (Put table row) is = tt
  as_seen (Remove table key) is =
      let there : get (changed (with_all_tables past) (seen past s (commits past))).rows (table, key) ≡ get (current s past).rows (table, key) =
      ap (λ (rows : RowMap). get rows (table, key)) (same_map past s stands in-order) in
      ap is_some (sym (seen_is past s (commits past) (record { table = table; key = key }) ordered) ∙ there) ∙ is

  pub removes_one : RemovesOne s past change
  removes_one =
      let now = base s past in
      let parts = parts_are past writer s part next todo change r in
      let keyed = AreFitting-IsKeyed now (latest_coded past s (reverse r.made) fits ordered in-order r.own_is r.tables).fitting in
      let all = subst (AreThere now) parts.1 (outcome_there now keyed r.statement r.working.writes) in
      as_seen change (subst (λ (db : Database). IsThere db change) (sym (current_is past s r.made r.own_is)) (next_there now r.made change parts.0 all))
