-- The newest rows of all at one moment are a database that a dirty read may see.
use Rattle.std.proofs.Common.{◌≡◌, ◌≢◌, ℕ, true, Some, List, [], ◌∷◌, ◌++◌, refl, sym, ap, subst, ◌∙◌, inl, inr}
use Rattle.std.proofs.lemmas.List.{append-nil}
use Rattle.std.specs.Prelude.{All, Result, Ok, Err, IfOk, slice_get}
use Rattle.inno_types.specs.declared.lock.Level.TheVariants.{ReadUncommitted}
use Rattle.inno_types.specs.declared.value.Value.{Value}
use Rattle.inno_types.specs.declared.value.Schema.{Schema}
use Rattle.inno_types.specs.declared.stmt.Stmt.{Stmt}
use Rattle.inno_db.specs.Database.{Database, rows_of}
use Rattle.inno_db.specs.declared.outcome.Outcome.{Outcome}
use Rattle.inno_db.specs.Outcome.{outcome, table_read}
use Rattle.inno_model.specs.declared.event.Event.{Event}
use Rattle.inno_model.specs.Past.{own, level, commits, opening, changed}
use Rattle.plain_sql.specs.Finding.{IsReadFrom}
use Rattle.sql_history.specs.LooseReading.{newest, IsQuiet, IsLooseReading}
use Rattle.sql_history.specs.Readings.{is_plain_select}
use Rattle.law_past_agreement.specs.Order.{created, IsOrdered}
use Rattle.law_past_agreement.specs.Rows.{seen}
use Rattle.law_past_agreement.specs.DatabaseTables.{with_all_tables}
use Rattle.sql_plan.specs.declared.choice.Plan.{Plan}
use Rattle.sql_plan.specs.Plans.{whole_index}
use Rattle.sql_plan.specs.Visits.{IsRowOf}
use Rattle.shared_lists.specs.Fitting.{FitsThen}
use Rattle.shared_lists.specs.Steps.{AreRowsSeen, rows_in_range}
use Rattle.sql_lists.specs.Kept.{AreStanding, IsInOrder, made}
use Rattle.read_statement.specs.Planning.{IsPlanned}
use Rattle.read_statement.specs.Running.{IsSeen, AreRead}
use Rattle.sql_lists.proofs.Standing.{schemas_after}
use Rattle.sql_lists.proofs.MoreTables.{rows_of_map, rows_before}
use Rattle.read_statement.proofs.Newest.{newest_is}
use Rattle.read_statement.proofs.Planned.{by_plan, by_all, whole_range}
use Rattle.read_statement.proofs.Searched.{rows_seen_fit}

-- ---- the database of all newest rows

module _ (h : List Event) (w : ℕ) (alone : (u : ℕ) → u ≢ w → own u h ≡ []) (ordered : IsOrdered h) (stands : AreStanding h) where
  now_is : newest h ≡ changed (opening h) (seen h w (commits h))
  now_is = newest_is h w ordered alone

  tables_seen : created h ≡ (changed (opening h) (seen h w (commits h))).schemas
  tables_seen = stands.tables w

  tables_now : (newest h).schemas ≡ created h
  tables_now = ap (λ (db : Database). db.schemas) now_is ∙ sym tables_seen

  -- a table has the same rows over all tables that there are now
  rows_alike : (table : ℕ) → IsInOrder h → rows_of table (newest h) ≡ rows_of table (changed (with_all_tables h) (seen h w (commits h)))
  rows_alike table in-order =
      let changes = seen h w (commits h) in
      let parts : created h ≡ ((opening h).schemas ++ made changes) ++ [] =
      tables_seen ∙ (schemas_after (opening h) changes ∙ sym (append-nil ((opening h).schemas ++ made changes))) in
      ap (λ db. rows_of table db) now_is
      ∙ sym (rows_of_map table (changed (with_all_tables h) changes) (changed (opening h) changes)
      (rows_before (opening h) (created h) [] changes parts (in-order w)))

  -- what a statement answers by the rows that were read is what it answers over it
  module _ (stmt : Stmt) (plain : is_plain_select stmt ≡ true) (table : ℕ) (rows : List (List Value)) (read : AreRead h stmt table rows)
      (in-order : IsInOrder h)
      (fits : FitsThen h) (answer : Outcome)
      (answers : (db : Database) → IsReadFrom (created h) rows stmt db → answer ≡ outcome stmt db) where
    abbrev p : IsPlanned (created h) stmt table read.plan
    p = read.planned

    there : slice_get (newest h).schemas table ≡ Some p.schema
    there = ap (λ (l : List Schema). slice_get l table) tables_now ∙ p.there

    reads : table_read (newest h).schemas stmt ≡ Some table
    reads = ap (λ (l : List Schema). table_read l stmt) tables_now ∙ p.table_is

    fit : All (IsRowOf p.schema.columns) (rows_of table (newest h))
    fit = subst (All (IsRowOf p.schema.columns)) (sym (rows_alike table in-order)) (rows_seen_fit h w (commits h) table p.schema fits ordered p.there)

    answers_now : (db : Database) → IsReadFrom (newest h).schemas rows stmt db → answer ≡ outcome stmt db
    answers_now db from = answers db (subst (λ (l : List Schema). IsReadFrom l rows stmt db) tables_now from)

    are_by : (plan : Plan) → AreRowsSeen table plan h w (commits h) rows → rows ≡ rows_in_range plan p.schema (rows_of table (newest h))
    are_by plan seen_rows = seen_rows p.schema p.there ∙ ap (rows_in_range plan p.schema) (sym (rows_alike table in-order))

    pub answer_now : answer ≡ outcome stmt (newest h)
    answer_now = elim (read.newest w alone) [
      | inl ranged ↦ by_plan (newest h) table p.schema there p.indexable fit read.plan answer rows (are_by read.plan ranged) stmt plain reads p.chosen
          answers_now
      | inr all ↦ by_all (newest h) table p.schema there p.indexable fit read.plan answer stmt rows reads
          (are_by whole_index all ∙ whole_range p.schema (rows_of table (newest h))) answers_now
    ]

loose_now : (s : ℕ) (e : Event) (h : List Event) → IsLooseReading s newest (IsQuiet s) (newest (e ∷ h)) (e ∷ h)
loose_now s e h = record { tables = refl; still = λ place row stood quiet. stood.0; moved = λ place. inr (inl refl) }

loose : (s : ℕ) (h : List Event) → h ≢ [] → IsLooseReading s newest (IsQuiet s) (newest h) h
loose s [] some = absurd (some refl)
loose s (e ∷ h) some = loose_now s e h

has_past : (h : List Event) (s : ℕ) → level s h ≡ Some ReadUncommitted → h ≢ []
has_past [] s dirty none = (let x = dirty in cc)
has_past (e ∷ h) s dirty none = cc

-- what a statement answers over it
seen_now : (h : List Event) (s : ℕ) (stmt : Stmt) (answer : Outcome) → h ≢ [] → level s h ≡ Some ReadUncommitted → answer ≡ outcome stmt (newest h)
    → IsSeen h s stmt answer.reply
seen_now h s stmt answer some dirty is =
    record {
      found = record {
        l = ReadUncommitted;
        level_is = dirty;
        alike = refl;
        db = newest h;
        sees = loose s h some;
        answer = ap (λ (o : Outcome). o.reply) is;
      };
      viewed = λ by_view. (let x = by_view in cc);
    }

-- of what a call gives that may find no memory
pub newest_outcome : {E : Type 0} (h : List Event) (w s : ℕ) (stmt : Stmt) (table : ℕ) (rows : List (List Value)) → ((u : ℕ) → u ≢ w → own u h ≡ [])
    → IsOrdered h
    → AreStanding h → IsInOrder h → FitsThen h → level s h ≡ Some ReadUncommitted → is_plain_select stmt ≡ true → AreRead h stmt table rows
    → (schemas : List Schema) → schemas ≡ created h → (r : Result Outcome E) → IfOk r
    (λ answer. (db : Database) → IsReadFrom schemas rows stmt db → answer ≡ outcome stmt db) → IfOk r (λ answer. IsSeen h s stmt answer.reply)
newest_outcome h w s stmt table rows alone ordered stands in-order fits dirty plain read schemas same (Err e) answers = answers
newest_outcome h w s stmt table rows alone ordered stands in-order fits dirty plain read schemas same (Ok answer) answers =
    seen_now h s stmt answer (has_past h s dirty) dirty
    (answer_now h w alone ordered stands stmt plain table rows read in-order fits answer
    (λ db from. answers db (subst (λ (l : List Schema). IsReadFrom l rows stmt db) (sym same) from)))
