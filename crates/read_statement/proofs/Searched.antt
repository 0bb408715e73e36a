-- What a search finds, and the reply that a SELECT gives by it.
use Rattle.std.proofs.Common.{◌≡◌, ℕ, true, false, Some, List, ◌++◌, ◌∷◌, [], length, refl, sym, ap, subst, ◌∙◌}
use Rattle.std.specs.Prelude.{All, IfOk, Result, Ok, Err, slice_get}
use Rattle.std.specs.List.{AllByRecursion}
use Rattle.inno_types.specs.declared.value.Schema.{Schema}
use Rattle.inno_db.specs.declared.change.Change.{Change}
use Rattle.inno_db.specs.declared.outcome.Outcome.{Outcome}
use Rattle.inno_db.specs.Database.{Database, rows_of}
use Rattle.inno_db.specs.Outcome.{outcome, table_read}
use Rattle.inno_model.specs.declared.event.Event.{Event}
use Rattle.inno_model.specs.Past.{own, committed, opening, changed}
use Rattle.sql_history.specs.Statements.{schemas_now}
use Rattle.sql_history.specs.Answers.{MaySee, seen_by}
use Rattle.law_past_agreement.specs.Order.{created, IsTabled, IsOrdered}
use Rattle.law_past_agreement.specs.Rows.{seen}
use Rattle.law_past_agreement.proofs.Tables.{own_tabled, committed_tabled}
use Rattle.law_past_agreement.specs.DatabaseTables.{with_all_tables}
use Rattle.plain_sql.specs.Finding.{IsReadFrom}
use Rattle.sql_plan.specs.Visits.{IsRowOf}
use Rattle.shared_lists.specs.Fitting.{FitsThen}
use Rattle.shared_lists.specs.Steps.{rows_in_range}
use Rattle.sql_lists.specs.Kept.{AreStanding, made}
use Rattle.law_found_rows.proofs.FittingDatabases.{seen_coded}
use Rattle.law_found_rows.proofs.Fits.{fitting_rows_fit}
use Rattle.read_statement.specs.declared.machine.Found.{Found}
use Rattle.read_statement.specs.Running.{HasFound, IsSeen}
use Rattle.sql_lists.proofs.Standing.{schemas_after}
use Rattle.read_statement.proofs.MoreTables.{got_before}
use Rattle.read_statement.proofs.Planned.{by_plan}

-- ---- what fits

-- the rows of a table that a session sees are of the table's columns
pub rows_seen_fit : (h : List Event) (s n table : ℕ) (schema : Schema) → FitsThen h → IsOrdered h → slice_get (created h) table ≡ Some schema
    → All (IsRowOf schema.columns) (rows_of table (changed (with_all_tables h) (seen h s n)))
rows_seen_fit h s n table schema fits ordered there =
    let db = changed (with_all_tables h) (seen h s n) in
    let coded = seen_coded h s n fits ordered in
    let there_too : slice_get db.schemas table ≡ Some schema =
    subst (λ (l : List Schema). slice_get l table ≡ Some schema) (sym (schemas_after (with_all_tables h) (seen h s n)))
    (got_before (created h) (made (seen h s n)) table schema there) in
    fitting_rows_fit db table schema coded.fitting coded.numbers there_too

-- ---- the search is over

all_joined : (P : Change → Type 0) (xs ys : List Change) → AllByRecursion P xs → AllByRecursion P ys → AllByRecursion P (xs ++ ys)
all_joined P [] ys all other = other
all_joined P (x ∷ xs) ys all other = (all.0, all_joined P xs ys all.1 other)

pub seen_tabled : (h : List Event) (s n : ℕ) → IsOrdered h → AllByRecursion (IsTabled (length (created h))) (seen h s n)
seen_tabled h s n ordered = all_joined (IsTabled (length (created h))) (own s h) (committed n h) (own_tabled h ordered s) (committed_tabled h ordered n)

-- ---- the reply

module _ (h : List Event) (s : ℕ) (standing : AreStanding h) where
  tables : created h ≡ schemas_now s h
  tables = standing.tables s

  -- the table has the same rows in the database that the view shows
  same_rows : (n table : ℕ) → rows_of table (seen_by s n h) ≡ rows_of table (changed (with_all_tables h) (seen h s n))
  same_rows n table = ap (λ (l : List Schema). rows_of table (changed (record (opening h) { schemas = l }) (seen h s n))) (sym tables)

  pub seen_reply : (found : Found) → HasFound h s found → IsOrdered h → FitsThen h
      → (answer : Outcome) → ((db : Database) → IsReadFrom (created h) found.rows found.stmt db → answer ≡ outcome found.stmt db) → IsSeen h s found.stmt
      answer.reply
  seen_reply found f ordered fits answer answers =
      let v = f.view in
      let p = f.planned in
      let db = seen_by s v.number h in
      let there : slice_get db.schemas found.table ≡ Some p.schema = subst (λ (l : List Schema). slice_get l found.table ≡ Some p.schema) tables p.there in
      let fit : All (IsRowOf p.schema.columns) (rows_of found.table db) =
      subst (All (IsRowOf p.schema.columns)) (sym (same_rows v.number found.table)) (rows_seen_fit h s v.number found.table p.schema fits ordered p.there) in
      let are : found.rows ≡ rows_in_range f.plan p.schema (rows_of found.table db) =
      f.rows p.schema p.there ∙ ap (rows_in_range f.plan p.schema) (sym (same_rows v.number found.table)) in
      let reads : table_read db.schemas found.stmt ≡ Some found.table =
      subst (λ (l : List Schema). table_read l found.stmt ≡ Some found.table) tables p.table_is in
      let answers_too : (other : Database) → IsReadFrom db.schemas found.rows found.stmt other → answer ≡ outcome found.stmt other =
      λ other from. answers other (subst (λ (l : List Schema). IsReadFrom l found.rows found.stmt other) (sym tables) from) in
      let is : answer ≡ outcome found.stmt db =
      by_plan db found.table p.schema there p.indexable fit f.plan answer found.rows are found.stmt f.early.plain reads p.chosen answers_too in
      record {
        found = record {
          l = v.l;
          level_is = v.level_is;
          alike = v.by_view true ∙ sym (v.by_view false);
          db = db;
          sees = subst (λ sight. MaySee sight s found.stmt db h) (sym (v.by_view false)) (v.number, v.view_is, refl);
          answer = ap (λ (x : Outcome). x.reply) is;
        };
        viewed = v.viewed;
      }

  -- the same, of what a call gives that may find no memory
  pub seen_outcome : {E : Type 0} (found : Found) → HasFound h s found → IsOrdered h → FitsThen h → (schemas : List Schema) → schemas ≡ created h
      → (r : Result Outcome E) → IfOk r (λ answer. (db : Database) → IsReadFrom schemas found.rows found.stmt db → answer ≡ outcome found.stmt db) → IfOk r
      (λ answer. IsSeen h s found.stmt answer.reply)
  seen_outcome found f ordered fits schemas same (Ok answer) is =
      seen_reply found f ordered fits answer (λ db from. is db (subst (λ l. IsReadFrom l found.rows found.stmt db) (sym same) from))
  seen_outcome found f ordered fits schemas same (Err e) is = is
