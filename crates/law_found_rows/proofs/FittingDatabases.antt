-- Databases of a history whose changes fitted when they were made.
use Rattle.inno_model.specs.declared.event.Event.TheVariants as events
use Rattle.std.proofs.Common.{◌≡◌, ℕ, ◌<◌, List, [], ◌∷◌, ◌++◌, length, refl, sym, subst, ◌∙◌}
use Rattle.std.proofs.lemmas.List.{append-nil, append_assoc}
use Rattle.std.proofs.lemmas.List.Elements.{All-nil, All-cons, All-head, All-tail, All-append, All-weaker}
use Rattle.std.specs.{Prelude.All}
use Rattle.inno_model.specs.{declared.event.Event.Event, Past.own, Past.commits, Past.committed, Past.opening, Past.changed}
use Rattle.law_past_agreement.proofs.Tables.{key_stays}
use Rattle.sql_history.specs.Items.{own_before, base}
use Rattle.sql_lists.specs.Kept.{made, AreInOrder, IsInOrder}
use Rattle.sql_lists.proofs.Standing.{schemas_after}
use Rattle.shared_lists.specs.Fitting.{CanBeCoded, FitsWell, FitsThen}
use Rattle.law_found_rows.proofs.FittingChanges.{none_there, tables_storable, own_fits, own_before_fits, committed_fits}
use Rattle.inno_types.specs.{declared.value.Value.Value, declared.value.Schema.Schema, declared.stmt.Stmt.Stmt}
use Rattle.inno_db.specs.declared.change.Change.TheVariants.{Create, Put, Remove}
use Rattle.inno_db.specs.{declared.change.Change.Change, Database.Database, Database.key_in, Outcome.outcome}
use Rattle.law_past_agreement.specs.{Order.created, Order.IsOrdered, Rows.seen, DatabaseTables.with_all_tables}
use Rattle.law_stored_rows.specs.{Storable.AreStorable, Fitting.FitsTables, Fitting.AreFitting, Numbers.ChangeHas64Bits, Numbers.Stores64Bits}
use Rattle.law_stored_rows.proofs.Applying.{AreFitting-apply_one, AreFitting-changed, AreFitting-no_rows, AreFitting-mixed}
use Rattle.law_stored_rows.proofs.{Numbers.changed-Has64Bits, Numbers.empty-Has64Bits, Numbers.outcome-Has64Bits, Outcomes.outcome-FitsTables}

-- ---- the two parts of what fits

tables_fit : (schemas : List Schema) (changes : List Change) → All (FitsWell schemas) changes → All (FitsTables schemas) changes
tables_fit schemas changes all = All-weaker (FitsWell schemas) (FitsTables schemas) (λ change fits. fits.0) changes all

numbers_fit : (schemas : List Schema) (changes : List Change) → All (FitsWell schemas) changes → All ChangeHas64Bits changes
numbers_fit schemas changes all = All-weaker (FitsWell schemas) ChangeHas64Bits (λ change fits. fits.1) changes all

both_fit : (schemas : List Schema) (changes : List Change) → All (FitsTables schemas) changes → All ChangeHas64Bits changes → All (FitsWell schemas) changes
both_fit schemas [] tables numbers = All-nil (FitsWell schemas)
both_fit schemas (change ∷ changes) tables numbers =
    All-cons (FitsWell schemas) change changes (All-head (FitsTables schemas) change changes tables, All-head ChangeHas64Bits change changes numbers)
    (both_fit schemas changes (All-tail (FitsTables schemas) change changes tables) (All-tail ChangeHas64Bits change changes numbers))

pub statement_fits : (stmt : Stmt) (db : Database) → CanBeCoded db → Stores64Bits stmt → All (FitsWell db.schemas) (outcome stmt db).changes
statement_fits stmt db coded stores =
    both_fit db.schemas (outcome stmt db).changes (outcome-FitsTables db coded.fitting stmt) (outcome-Has64Bits db coded.numbers stmt stores)

-- ---- over all tables

-- the tables of the opening, and those that were made since
created_since : (past : List Event) → (more : List Schema) × (created past ≡ (opening past).schemas ++ more)
created_since [] = ([], refl)
created_since (events.Opened db ∷ past) = ([], sym (append-nil db.schemas))
created_since (events.Changed s (Create schema) ∷ past) =
    let before = created_since past in (before.0 ++ schema ∷ [], rw before.1 (append_assoc (opening past).schemas before.0 (schema ∷ [])))
created_since (events.Changed s (Put table row) ∷ past) = created_since past
created_since (events.Changed s (Remove table key) ∷ past) = created_since past
created_since (e ∷ past) = created_since past

opening_coded : (past : List Event) → FitsThen past → CanBeCoded (opening past)
opening_coded [] fits = record { fitting = AreFitting-no_rows [] none_there; numbers = empty-Has64Bits [] }
opening_coded (events.Opened db ∷ past) fits = fits
opening_coded (events.Changed s change ∷ past) fits = opening_coded past fits.1
opening_coded (e ∷ past) fits = opening_coded past fits

-- rows fit with more tables, too
more_tables_fit : (db : Database) (tables more : List Schema) → tables ≡ db.schemas ++ more → AreStorable tables → AreFitting db
    → AreFitting (record { schemas = tables; rows = db.rows })
more_tables_fit db tables more is storable fits =
    AreFitting-mixed tables db.rows storable (λ place row there. record { db = db; fitting = fits; more = more; tables = is; there = there })

pub seen_coded : (past : List Event) (s n : ℕ) → FitsThen past → IsOrdered past → CanBeCoded (changed (with_all_tables past) (seen past s n))
seen_coded past s n fits ordered =
    let since = created_since past in
    let opened = opening_coded past fits in
    let all = All-append (FitsWell (created past)) (own s past) (committed n past) (own_fits past s fits ordered) (committed_fits past n fits ordered) in
    record {
      fitting =
          AreFitting-changed (with_all_tables past) (seen past s n)
          (more_tables_fit (opening past) (created past) since.0 since.1 (tables_storable past fits) opened.fitting)
          (tables_fit (created past) (seen past s n) all);
      numbers = changed-Has64Bits (with_all_tables past) (seen past s n) opened.numbers (numbers_fit (created past) (seen past s n) all);
    }

-- ---- over the tables that changes make themselves

module _ (db : Database) (fits : AreFitting db) (tables : List Schema) (storable : AreStorable tables) where
  key_after : (more : List Schema) (earlier : List Change) (table : ℕ) (row : List Value) → tables ≡ (db.schemas ++ made earlier) ++ more
      → table < length (db.schemas ++ made earlier) → key_in tables table row ≡ key_in (changed db earlier).schemas table row
  key_after more earlier table row is lt =
      rw (is, schemas_after db earlier) (key_stays (db.schemas ++ made earlier) more table row lt)

  -- the rows fit all tables, of which some may have been made later
  rows_fit : (more : List Schema) (changes : List Change) → tables ≡ (db.schemas ++ made changes) ++ more → AreInOrder db.schemas changes
      → All (FitsTables tables) changes → AreFitting (record { schemas = tables; rows = (changed db changes).rows })
  rows_fit more [] is in_order all = more_tables_fit db tables more (rw append-nil at is) storable fits
  rows_fit more (Create schema ∷ earlier) is in_order all =
      let later : tables ≡ (db.schemas ++ made earlier) ++ (schema ∷ more) =
      rw (← append_assoc db.schemas (made earlier) (schema ∷ []), append_assoc (db.schemas ++ made earlier) (schema ∷ []) more) at is in
      rows_fit (schema ∷ more) earlier later in_order.1 (All-tail (FitsTables tables) (Create schema) earlier all)
  rows_fit more (Put table row ∷ earlier) is in_order all =
      let before = rows_fit more earlier is in_order.1 (All-tail (FitsTables tables) (Put table row) earlier all) in
      rw (← key_after more earlier table row is in_order.0)
      (AreFitting-apply_one (record { schemas = tables; rows = (changed db earlier).rows }) (Put table row) before
      (All-head (FitsTables tables) (Put table row) earlier all))
  rows_fit more (Remove table key ∷ earlier) is in_order all =
      let before = rows_fit more earlier is in_order.1 (All-tail (FitsTables tables) (Remove table key) earlier all) in
      AreFitting-apply_one (record { schemas = tables; rows = (changed db earlier).rows }) (Remove table key) before
      (All-head (FitsTables tables) (Remove table key) earlier all)

order_of_rest : (tables : List Schema) (later changes : List Change) → AreInOrder tables (later ++ changes) → AreInOrder tables changes
order_of_rest tables [] changes in_order = in_order
order_of_rest tables (change ∷ later) changes in_order = order_of_rest tables later changes in_order.1

pub latest_coded : (past : List Event) (s : ℕ) (later : List Change) → FitsThen past → IsOrdered past → IsInOrder past
    → own s past ≡ later ++ own_before s past → created past ≡ (base s past).schemas → CanBeCoded (base s past)
latest_coded past s later fits ordered in_order parts tables =
    let opened = opening_coded past fits in
    let changes = own_before s past ++ committed (commits past) past in
    let all =
    All-append (FitsWell (created past)) (own_before s past) (committed (commits past) past) (own_before_fits past s fits ordered)
    (committed_fits past (commits past) fits ordered) in
    let mine : AreInOrder (opening past).schemas (later ++ changes) =
    rw (parts, append_assoc later (own_before s past) (committed (commits past) past)) at (in_order s) in
    let is : created past ≡ ((opening past).schemas ++ made changes) ++ [] =
    tables ∙ schemas_after (opening past) changes ∙ sym (append-nil ((opening past).schemas ++ made changes)) in
    record {
      fitting = subst (λ (schemas : List Schema). AreFitting (record { schemas = schemas; rows = (changed (opening past) changes).rows })) tables
          (rows_fit (opening past) opened.fitting (created past) (tables_storable past fits) [] changes is
          (order_of_rest (opening past).schemas later changes mine) (tables_fit (created past) changes all));
      numbers = changed-Has64Bits (opening past) changes opened.numbers (numbers_fit (created past) changes all);
    }
