-- Changes leave the same rows over more tables, and what a session sees of a table stays where tables come to these.
use Rattle.std.proofs.Common.{◌≡◌, ℕ, zero, suc, ◌≤◌, true, Some, List, [], ◌∷◌, ◌++◌, length, refl, sym, ap, subst, ◌∙◌}
use Rattle.std.specs.Prelude.{slice_get}
use Rattle.std.specs.List.{AllByRecursion}
use Rattle.std.specs.FinMap.{remove}
use Rattle.inno_types.specs.declared.value.Value.{Value}
use Rattle.inno_types.specs.declared.value.Schema.{Schema}
use Rattle.inno_types.specs.declared.stmt.Stmt.{Stmt}
use Rattle.inno_db.specs.declared.change.Change.{Change}
use Rattle.inno_db.specs.declared.change.Change.TheVariants.{Create, Put, Remove}
use Rattle.inno_db.specs.Database.{Database, RowMap, key_in, rows_of}
use Rattle.inno_model.specs.declared.event.Event.{Event}
use Rattle.inno_model.specs.Past.{own, commits, opening, changed}
use Rattle.law_past_agreement.specs.Order.{created, IsTabled, IsNoOthers}
use Rattle.law_past_agreement.specs.Rows.{seen}
use Rattle.law_past_agreement.proofs.Tables.{key_stays}
use Rattle.law_past_agreement.specs.DatabaseTables.{with_all_tables}
use Rattle.sql_plan.specs.declared.choice.Plan.{Plan}
use Rattle.shared_lists.specs.Steps.{AreRowsSeen, rows_in_range}
use Rattle.sql_lists.specs.Kept.{made}
use Rattle.sql_lists.proofs.MoreTables.{over, key_over, put_alike, rows_of_map}
use Rattle.sql_lists.proofs.Standing.{schemas_after}
use Rattle.sql_lists.proofs.Staying.{opening_stays}
use Rattle.sql_history.specs.Readings.{is_plain_select}
use Rattle.read_statement.specs.Planning.{IsPlanned}
use Rattle.read_statement.proofs.Tables.{grown, same_seen, table_stays}

-- ---- the same changes over more tables

module _ (db : Database) where
  -- changes of tables that are there before all of them
  pub rows_beside : (more : List Schema) (changes : List Change) → AllByRecursion (IsTabled (length db.schemas)) changes
      → (changed (over db (db.schemas ++ more)) changes).rows ≡ (changed db changes).rows
  rows_beside more [] all = refl
  rows_beside more (Create schema ∷ earlier) all = rows_beside more earlier all.1
  rows_beside more (Put table row ∷ earlier) all =
      put_alike db (db.schemas ++ more) earlier table row (rows_beside more earlier all.1)
      (key_over db (db.schemas ++ more) db.schemas more earlier table row refl all.0
      ∙ sym (ap (λ (l : List Schema). key_in l table row) (schemas_after db earlier) ∙ key_stays db.schemas (made earlier) table row all.0))
  rows_beside more (Remove table key ∷ earlier) all = ap (λ (m : RowMap). remove m (table, key)) (rows_beside more earlier all.1)

-- ---- tables that come later

pub got_before : (schemas more : List Schema) (n : ℕ) (schema : Schema) → slice_get schemas n ≡ Some schema → slice_get (schemas ++ more) n ≡ Some schema
got_before [] more n schema is = (let x = is in cc)
got_before (first ∷ schemas) more zero schema is = is
got_before (first ∷ schemas) more (suc n) schema is = got_before schemas more n schema is

pub planned_stays : (schemas more : List Schema) (statement : Stmt) (table : ℕ) (plan : Plan) → is_plain_select statement ≡ true
    → IsPlanned schemas statement table plan → IsPlanned (schemas ++ more) statement table plan
planned_stays schemas more statement table plan plain p =
    record {
      table_is = table_stays schemas more table statement plain p.table_is;
      schema = p.schema;
      there = got_before schemas more table p.schema p.there;
      indexable = p.indexable;
      has_index = p.has_index;
      chosen = p.chosen;
    }

same_schema : (schemas more : List Schema) (n : ℕ) (first other : Schema) → slice_get schemas n ≡ Some first → slice_get (schemas ++ more) n ≡ Some other
    → slice_get schemas n ≡ Some other
same_schema schemas more n first other there now = there ∙ (sym (got_before schemas more n first there) ∙ now)

-- an entry of another session leaves the rows that are seen in a table
module _ (t s n : ℕ) (e : Event) (h : List Event) (mine : IsNoOthers t e) (same-own : own s (e ∷ h) ≡ own s h) (within : n ≤ commits h)
    (all : AllByRecursion (IsTabled (length (created h))) (seen h s n)) where
  rows_now : (table : ℕ) → rows_of table (changed (with_all_tables h) (seen h s n)) ≡ rows_of table (changed (with_all_tables (e ∷ h)) (seen (e ∷ h) s n))
  rows_now table =
      let more = grown t e h mine in
      let wide : record (with_all_tables h) { schemas = created h ++ more.0 } ≡ with_all_tables (e ∷ h) =
      ap (λ (l : List Schema). record (opening h) { schemas = l }) (sym more.1) ∙ ap (λ (db : Database). record db { schemas = created (e ∷ h) })
      (sym (opening_stays e h t mine)) in
      let one : (changed (with_all_tables h) (seen h s n)).rows ≡ (changed (with_all_tables (e ∷ h)) (seen (e ∷ h) s n)).rows =
      sym (rows_beside (with_all_tables h) more.0 (seen h s n) all)
      ∙ (ap (λ (db : Database). (changed db (seen h s n)).rows) wide ∙ ap (λ (changes : List Change). (changed (with_all_tables (e ∷ h)) changes).rows)
      (sym (same_seen t s n e h mine same-own within))) in
      rows_of_map table (changed (with_all_tables h) (seen h s n)) (changed (with_all_tables (e ∷ h)) (seen (e ∷ h) s n)) one

  pub rows_seen_stay : (table : ℕ) (plan : Plan) (first : Schema) (rows : List (List Value)) → slice_get (created h) table ≡ Some first
      → AreRowsSeen table plan h s n rows → AreRowsSeen table plan (e ∷ h) s n rows
  rows_seen_stay table plan first rows there are = λ schema now.
      let more = grown t e h mine in
      are schema (same_schema (created h) more.0 table first schema there (subst (λ (l : List Schema). slice_get l table ≡ Some schema) more.1 now))
      ∙ ap (rows_in_range plan schema) (rows_now table)
