-- The rows that a search found are enough: a part has the outcome that it has over the latest rows with the session's own.
use Rattle.std.proofs.Common.{◌≡◌, ℕ, Bool, true, false, Option, Some, None, List, [], ◌∷◌, ◌++◌, length, reverse, refl, sym, ap, subst, ◌∙◌}
use Rattle.std.proofs.lemmas.List.Elements.{All-nil, All-cons, All-head, All-tail, All-weaker}
use Rattle.std.specs.List.{list_all}
use Rattle.std.specs.Prelude.{All, ◌&&◌, ◌==◌, not, filter, slice_get}
use Rattle.inno_types.specs.declared.value.Value.{Value}
use Rattle.inno_types.specs.declared.value.Schema.{Schema}
use Rattle.inno_types.specs.declared.stmt.Filter.{Filter}
use Rattle.inno_types.specs.declared.stmt.Literal.{Literal}
use Rattle.inno_types.specs.declared.stmt.Set.{Set}
use Rattle.inno_types.specs.declared.stmt.Stmt.{Stmt}
use Rattle.inno_types.specs.declared.stmt.Stmt.TheVariants as stmt
use Rattle.inno_types.specs.declared.reply.SqlError.{SqlError}
use Rattle.inno_types.specs.declared.reply.SqlError.TheVariants.{NoColumn, NoDefault, Syntax, TwiceNamed, WrongCount}
use Rattle.inno_db.specs.declared.change.Change.{Change}
use Rattle.inno_db.specs.declared.outcome.Outcome.{Outcome}
use Rattle.inno_db.specs.Database.{Database, RowMap, rows_of}
use Rattle.inno_db.specs.Names.{table_place}
use Rattle.inno_db.specs.Outcome.{outcome, answer_to, unless_refused, counted, inserted, insert_answer, on_number, on_schema, table_read}
use Rattle.inno_db.specs.Refusals.{refusal, refused_if, on_table, schema_at, schema_named, insert_refusal, update_refusal, delete_refusal, names_known}
use Rattle.inno_db.specs.Refusals.{names_twice, width_of, leaves_out}
use Rattle.inno_db.specs.Typing.{filter_fits, set_fits, set_known, tuple_fits, where_fits, where_known}
use Rattle.inno_db.specs.Keyed.{IsKeyed}
use Rattle.inno_model.specs.declared.event.Event.{Event}
use Rattle.inno_model.specs.Past.{own, commits, changed, current}
use Rattle.law_past_agreement.specs.Order.{created, IsOrdered}
use Rattle.law_past_agreement.specs.Rows.{seen}
use Rattle.law_past_agreement.specs.DatabaseTables.{with_all_tables}
use Rattle.sql_history.specs.Items.{own_before, base}
use Rattle.sql_history.specs.Legal.{IsWriting}
use Rattle.law_found_rows.proofs.FittingDatabases.{latest_coded}
use Rattle.law_found_rows.proofs.FittingChanges.{own_fits}
use Rattle.law_found_rows.specs.Plans.{SearchesFor, IsOpenRange}
use Rattle.law_found_rows.proofs.Covered.{reads_enough, open_range}
use Rattle.law_found_rows.proofs.Fits.{fitting_rows_fit}
use Rattle.law_found_rows.proofs.Passing.{passing_map, rows_of-passing}
use Rattle.law_stored_rows.specs.Fitting.{FitsTables}
use Rattle.law_stored_rows.specs.Numbers.{ChangeHas64Bits}
use Rattle.law_stored_rows.proofs.Applying.{AreFitting-changed}
use Rattle.law_stored_rows.proofs.Numbers.{changed-Has64Bits}
use Rattle.law_stored_rows.proofs.Rows.{AreFitting-IsKeyed}
use Rattle.shared_lists.specs.Fitting.{CanBeCoded, FitsWell, FitsThen}
use Rattle.shared_lists.specs.State.{State}
use Rattle.sql_plan.specs.declared.choice.Plan.{Plan}
use Rattle.sql_plan.specs.Plans.{whole_index}
use Rattle.inno_types.specs.Ranges.{is_within}
use Rattle.sql_plan.specs.Visits.{index_key, IsRowOf}
use Rattle.sql_lists.specs.Kept.{AreStanding, IsInOrder}
use Rattle.sql_lists.proofs.MoreTables.{same_map}
use Rattle.write_statement.specs.declared.machine.Part.{Part}
use Rattle.sql_plan.specs.Planning.{Covers, HoldsKeys, HoldsMatches}
use Rattle.sql_plan.proofs.Inserting.{other_keys}
use Rattle.write_statement.specs.Running.{IsFound, AreEnough, IsChanging}
use Rattle.write_statement.proofs.Changed.{current_changed}

-- ---- the latest rows, with those that the session has changed

module _ (past : List Event) (s : ℕ) (stands : AreStanding past) where
  pub tables_now : created past ≡ (current s past).schemas
  tables_now = stands.tables s

  rows_are : IsInOrder past → (table : ℕ) → rows_of table (changed (with_all_tables past) (seen past s (commits past))) ≡ rows_of table (current s past)
  rows_are in-order table = ap (λ (rows : RowMap). rows_of table (record { schemas = []; rows = rows })) (same_map past s stands in-order)

-- ---- they can be coded

all_front : (P : Change → Type 0) (front later : List Change) → All P (front ++ later) → All P front
all_front P [] later all = All-nil P
all_front P (change ∷ front) later all =
    All-cons P change front (All-head P change (front ++ later) all) (all_front P front later (All-tail P change (front ++ later) all))

current_coded : (past : List Event) (s : ℕ) (later : List Change) → FitsThen past → IsOrdered past → IsInOrder past
    → own s past ≡ later ++ own_before s past → created past ≡ (base s past).schemas → CanBeCoded (current s past)
current_coded past s later fits ordered in-order parts tables =
    let coded = latest_coded past s later fits ordered in-order parts tables in
    let mine : All (FitsWell (created past)) (later ++ own_before s past) = subst (All (FitsWell (created past))) parts (own_fits past s fits ordered) in
    let all : All (FitsWell (base s past).schemas) later =
    subst (λ (schemas : List Schema). All (FitsWell schemas) later) tables (all_front (FitsWell (created past)) later (own_before s past) mine) in
    subst CanBeCoded (sym (current_changed past s later parts)) (record {
      fitting =
          AreFitting-changed (base s past) later coded.fitting
          (All-weaker (FitsWell (base s past).schemas) (FitsTables (base s past).schemas) (λ change both. both.0) later all);
      numbers =
          changed-Has64Bits (base s past) later coded.numbers
          (All-weaker (FitsWell (base s past).schemas) ChangeHas64Bits (λ change both. both.1) later all);
    })

-- each row stands at its key
pub current_keyed : (past : List Event) (writer : Option ℕ) (s : ℕ) (part : Part) (next : Database → Outcome) (todo : List Change)
    → IsChanging past writer s part next todo → FitsThen past → IsOrdered past → IsInOrder past → IsKeyed (current s past)
current_keyed past writer s part next todo r fits ordered in-order =
    AreFitting-IsKeyed (current s past) (current_coded past s (reverse r.made) fits ordered in-order r.own_is r.tables).fitting

-- ---- what a statement reads by its plan

passed_both : (a b : Bool) (error other : SqlError) → refused_if (not a) error (refused_if (not b) other None) ≡ None → b ≡ true
passed_both true true error other is = refl
passed_both true false error other is = cc
passed_both false b error other is = cc

and_right : (a b : Bool) → a && b ≡ true → b ≡ true
and_right true b is = is
and_right false b is = cc

update_fits : (sets : List Set) (filter_by : Filter) (schema : Schema) → update_refusal sets (Some filter_by) schema ≡ None
    → filter_fits schema.columns filter_by ≡ true
update_fits sets filter_by schema is =
    and_right (list_all (set_fits schema) sets) (filter_fits schema.columns filter_by)
    (passed_both (list_all (set_known schema.columns) sets && where_known schema.columns (Some filter_by))
    (list_all (set_fits schema) sets && where_fits schema.columns (Some filter_by)) NoColumn (Syntax 0) is)

delete_fits : (filter_by : Filter) (schema : Schema) → delete_refusal (Some filter_by) schema ≡ None → filter_fits schema.columns filter_by ≡ true
delete_fits filter_by schema is = passed_both (where_known schema.columns (Some filter_by)) (where_fits schema.columns (Some filter_by)) NoColumn (Syntax 0) is

fourth : (a b c d : Bool) (rest : Option SqlError)
    → refused_if (not a) NoColumn (refused_if b TwiceNamed (refused_if (not c) WrongCount (refused_if (not d) (Syntax 0) rest))) ≡ None → d ≡ true
fourth a b c true rest is = refl
fourth true false true false rest is = cc
fourth true false false false rest is = cc
fourth true true c false rest is = cc
fourth false b c false rest is = cc

module _ (db : Database) (n : ℕ) (schema : Schema) (plan : Plan) (there : slice_get db.schemas n ≡ Some schema)
    (fit : All (IsRowOf schema.columns) (rows_of n db)) where
  abbrev in_range : List Value → Bool
  in_range row = is_within plan.range (index_key schema plan.which row)

  -- with the rows of its plan alone it has the same outcome
  abbrev HasSameOutcome : Stmt → Type 0
  HasSameOutcome statement =
      (rows : RowMap) × (rows_of n (record db { rows = rows }) ≡ filter in_range (rows_of n db)) ×
      (outcome statement (record db { rows = rows }) ≡ outcome statement db)

  -- what is refused reads no row
  refused_anyway : (statement : Stmt) (error : SqlError) → refusal db.schemas statement ≡ Some error → HasSameOutcome statement
  refused_anyway statement error is = (
    passing_map in_range db.rows,
    rows_of-passing in_range n db,
    ap (λ o. unless_refused o (answer_to statement (record db { rows = passing_map in_range db.rows }))) is ∙ sym
        (ap (λ o. unless_refused o (answer_to statement db)) is),
  )

  by_condition : (statement : Stmt) (table : List ℕ) (filter_by : Filter) → SearchesFor statement table filter_by → table_place db.schemas table ≡ Some n
      → (refusal db.schemas statement ≡ None → filter_fits schema.columns filter_by ≡ true) → Covers schema filter_by plan → HasSameOutcome statement
  by_condition statement table filter_by searches at fits covers = go (refusal db.schemas statement) refl where
    go : (o : Option SqlError) → refusal db.schemas statement ≡ o → HasSameOutcome statement
    go (Some error) is = refused_anyway statement error is
    go None is = reads_enough db table filter_by n schema plan at there fit (covers (fits is)) statement searches

  all_read : (statement : Stmt) → plan ≡ whole_index → HasSameOutcome statement
  all_read statement is =
      let opens : IsOpenRange plan.range = subst (λ (p : Plan). IsOpenRange p.range) (sym is) (record { holds_some = refl; low = refl; high = refl }) in
      (db.rows, sym (open_range schema plan (rows_of n db) opens), refl)

  found_named : (table : List ℕ) → table_place db.schemas table ≡ Some n → schema_named db.schemas table ≡ Some schema
  found_named table at = ap (schema_at db.schemas) at ∙ there

  module _ (table : List ℕ) (names : Option (List (List ℕ))) (tuples : List (List Literal)) (at : table_place db.schemas table ≡ Some n) where
    inserting : (rows : RowMap) → answer_to (stmt.Insert table names tuples) (record db { rows = rows })
        ≡ counted (inserted n schema names (rows_of n (record db { rows = rows })) tuples)
    inserting rows =
        ap (λ o. on_number (record db { rows = rows }) o (insert_answer names tuples)) at
        ∙ ap (λ o. on_schema n o (rows_of n (record db { rows = rows })) (insert_answer names tuples)) there

    tuples_fit : insert_refusal names tuples schema ≡ None → list_all (λ t. tuple_fits names t 0 schema.columns) tuples ≡ true
    tuples_fit is =
        fourth (names_known schema.columns names) (names_twice names) (list_all (λ t. length t == width_of schema.columns names) tuples)
        (list_all (λ t. tuple_fits names t 0 schema.columns) tuples) (refused_if (leaves_out schema.columns names) NoDefault None) is

    by_tuples : HoldsKeys schema names tuples plan → HasSameOutcome (stmt.Insert table names tuples)
    by_tuples holds = go (refusal db.schemas (stmt.Insert table names tuples)) refl where
      go : (o : Option SqlError) → refusal db.schemas (stmt.Insert table names tuples) ≡ o → HasSameOutcome (stmt.Insert table names tuples)
      go (Some error) is = refused_anyway (stmt.Insert table names tuples) error is
      go None is =
          let rows = passing_map in_range db.rows in
          let fits = tuples_fit (sym (ap (λ o. on_table o (insert_refusal names tuples)) (found_named table at)) ∙ is) in
          let same = ap (λ others. inserted n schema names others tuples) (rows_of-passing in_range n db)
          ∙ other_keys in_range n schema names (rows_of n db) fit tuples (holds fits) in (
            rows,
            rows_of-passing in_range n db,
            ap (λ o. unless_refused o (answer_to (stmt.Insert table names tuples) (record db { rows = rows }))) is
                ∙ (inserting rows ∙ (ap counted same
                ∙ (sym (inserting db.rows) ∙ sym (ap (λ o. unless_refused o (answer_to (stmt.Insert table names tuples) db)) is)))),
          )

  same_outcome : (statement : Stmt) → IsWriting statement → HoldsMatches schema statement plan → table_read db.schemas statement ≡ Some n
      → HasSameOutcome statement
  same_outcome (stmt.Update table sets (Some filter_by)) writes holds at =
      by_condition (stmt.Update table sets (Some filter_by)) table filter_by (refl, refl) at
      (λ is. update_fits sets filter_by schema (sym (ap (λ o. on_table o (update_refusal sets (Some filter_by))) (found_named table at)) ∙ is)) holds
  same_outcome (stmt.Delete table (Some filter_by)) writes holds at =
      by_condition (stmt.Delete table (Some filter_by)) table filter_by (refl, refl) at
      (λ is. delete_fits filter_by schema (sym (ap (λ o. on_table o (delete_refusal (Some filter_by))) (found_named table at)) ∙ is)) holds
  same_outcome (stmt.Update table sets None) writes holds at = all_read (stmt.Update table sets None) holds
  same_outcome (stmt.Delete table None) writes holds at = all_read (stmt.Delete table None) holds
  same_outcome (stmt.Insert table names tuples) writes holds at = by_tuples table names tuples at holds
  same_outcome other writes holds at = absurd writes

-- ---- what was found

same_number : (a b : ℕ) → Some a ≡ Some b → a ≡ b
same_number a b is = cc

pub found_enough : (state : State) (s : ℕ) (part : Part) (rows : List (List Value)) → IsFound state s part rows → AreStanding state.past
    → IsOrdered state.past → IsInOrder state.past → FitsThen state.past → AreEnough s part.stmt rows state.past
found_enough state s part rows r stands ordered in-order fits =
    let past = state.past in
    let read = r.reading in
    let changing = read.changing in
    let db = current s past in
    let tables = tables_now past s stands in
    let coded = current_coded past s (reverse changing.made) fits ordered in-order changing.own_is changing.tables in
    let there : slice_get db.schemas part.table ≡ Some read.schema = ap (λ schemas. slice_get schemas part.table) (sym tables) ∙ read.there in
    let at : table_read db.schemas part.stmt ≡ Some part.table = ap (λ schemas. table_read schemas part.stmt) (sym tables) ∙ changing.table_is in
    let fit = fitting_rows_fit db part.table read.schema coded.fitting coded.numbers there in
    let known = same_outcome db part.table read.schema read.plan there fit part.stmt changing.writes read.enough at in
    let passes : List Value → Bool = λ row. is_within read.plan.range (index_key read.schema read.plan.which row) in
    let rows-there : rows_of part.table (record db { rows = known.0 }) ≡ rows = known.1 ∙
    (ap (filter passes) (sym (rows_are past s stands in-order part.table)) ∙ sym (r.found read.schema read.there)) in
    record {
      db = record db { rows = known.0 };
      read = record {
        tables = sym tables;
        each = λ n is. subst (λ m. rows_of m (record db { rows = known.0 }) ≡ rows) (same_number part.table n (sym at ∙ is)) rows-there;
      };
      same = known.2;
    }
