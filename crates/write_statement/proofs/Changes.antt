-- Making the changes of an outcome, one by one.
use Rattle.std.proofs.Common.{◌≡◌, ℕ, ◌+◌, ◌<◌, ◌≤◌, true, eqb, Option, List, [], ◌∷◌, ◌++◌, length, take, reverse, refl, sym, ap, subst, ◌∙◌, inl, inr}
use Rattle.std.proofs.Common.{arith}
use Rattle.std.proofs.lemmas.Bool.Decides.{nat_tests}
use Rattle.std.proofs.lemmas.List.{append_assoc, length-append, reverse-append, take-append-le, take_all}
use Rattle.std.proofs.lemmas.List.Elements.{All-head, All-tail}
use Rattle.std.proofs.lemmas.List.Sums.{sum_by-cons}
use Rattle.std.specs.Prelude.{All}
use Rattle.std.specs.List.{AllByRecursion}
use Rattle.inno_types.specs.declared.value.Schema.{Schema}
use Rattle.inno_types.specs.declared.stmt.Stmt.{Stmt}
use Rattle.inno_db.specs.declared.change.Change.{Change}
use Rattle.inno_db.specs.declared.change.Change.TheVariants.{Create, Put, Remove}
use Rattle.inno_db.specs.Database.{Database}
use Rattle.inno_db.specs.Outcome.{outcome, table_read}
use Rattle.inno_db.specs.Changes.{apply}
use Rattle.inno_db.specs.declared.outcome.Outcome.{Outcome}
use Rattle.inno_model.specs.declared.event.Event.{Event}
use Rattle.inno_model.specs.declared.event.Event.TheVariants as events
use Rattle.inno_model.specs.Past.{own}
use Rattle.law_db.specs.RowChanges.{AreOfTables, AreApplicable}
use Rattle.law_db.proofs.Applicable.{outcome-AreApplicable}
use Rattle.sql_grammar.specs.Grammar.{Spells}
use Rattle.sql_history.specs.Items.{own_before, base, undoes}
use Rattle.sql_history.specs.LooseReading.{newest}
use Rattle.sql_history.specs.Counts.{rows_of_entry, rows_kept, most_rows}
use Rattle.sql_history.specs.Legal.{IsWriting, ChangesBy, MayChange}
use Rattle.law_past_agreement.specs.Order.{created, IsTabled, IsOfRow, IsOrdered}
use Rattle.law_stored_rows.proofs.Spelled.{spelled-Has64Bits}
use Rattle.law_found_rows.proofs.FittingDatabases.{latest_coded, statement_fits}
use Rattle.shared_lists.specs.Fitting.{FitsWell, FitsThen}
use Rattle.sql_lists.specs.Kept.{IsInOrder}
use Rattle.write_statement.specs.declared.machine.Part.{Part}
use Rattle.write_statement.specs.Parts.{IsCut, GoesOnWith, behind}
use Rattle.law_claims.specs.Claims.{Tables, Row, RestsOn, Stands}
use Rattle.law_claims.proofs.Keeping.{all_kept, kept_is_free, kept_by_own}
use Rattle.write_statement.specs.Running.{IsChanging, basis_for}
use Rattle.write_statement.proofs.PartByPart.{goes_here}
use Rattle.giving_up.proofs.Writing.{of_writing}
use Rattle.giving_up.proofs.Own.{did_same, over_same, working_own}

-- ---- lists

-- the change that stands last is the next one
next_first : (todo : List Change) (change : Change) → reverse (todo ++ change ∷ []) ≡ change ∷ reverse todo
next_first todo change = reverse-append todo (change ∷ [])

one_more_made : (made : List Change) (change : Change) → reverse (made ++ change ∷ []) ≡ change ∷ reverse made
one_more_made made change = reverse-append made (change ∷ [])

pub taken : (made later : List Change) → take (length made) (made ++ later) ≡ made
taken made later = take-append-le (length made) made later (omega arith) ∙ take_all (length made) made (omega arith)

All-behind : (P : Change → Type 0) (before later : List Change) → All P (before ++ later) → All P later
All-behind P [] later all = all
All-behind P (change ∷ before) later all = All-behind P before later (All-tail P change (before ++ later) all)

-- ---- the tables that they are of

tabled_in : (schemas : List Schema) (before : List Change) (change : Change) (later : List Change) → AreOfTables schemas (before ++ change ∷ later)
    → IsTabled (length schemas) change
tabled_in schemas [] (Create schema) later of-tables = tt
tabled_in schemas [] (Put table row) later of-tables = of-tables.0
tabled_in schemas [] (Remove table key) later of-tables = of-tables.0
tabled_in schemas (Create schema ∷ before) change later of-tables = absurd of-tables
tabled_in schemas (Put table row ∷ before) change later of-tables = tabled_in schemas before change later of-tables.1
tabled_in schemas (Remove table key ∷ before) change later of-tables = tabled_in schemas before change later of-tables.1

-- what makes a table alone makes no change of a row
alone_created : (tables : ℕ) (schema : Schema) (before : List Change) (change : Change) (later : List Change)
    → before ++ change ∷ later ≡ Create schema ∷ [] → IsTabled tables change
alone_created tables schema [] (Create other) later is = tt
alone_created tables schema [] (Put table row) later is = cc
alone_created tables schema [] (Remove table key) later is = cc
alone_created tables schema (first ∷ []) change later is = cc
alone_created tables schema (first ∷ second ∷ before) change later is = cc

tabled_of : (db : Database) (changes before : List Change) (change : Change) (later : List Change) → AreApplicable db changes
    → changes ≡ before ++ change ∷ later → IsTabled (length db.schemas) change
tabled_of db changes before change later applicable is =
    elim applicable [
      | inl of-tables ↦ tabled_in db.schemas before change later (subst (AreOfTables db.schemas) is of-tables)
      | inr creation ↦ alone_created (length db.schemas) creation.0 before change later (sym is ∙ creation.1)
    ]

-- ---- the next change

-- what the history holds with the entry
pub with_entry : (s rows : ℕ) (change : Change) (h : List Event) → rows ≡ rows_of_entry (events.Changed s change) → rows_kept h + rows ≤ most_rows
    → rows_kept (events.Changed s change ∷ h) ≤ most_rows
with_entry s rows change h is fits = omega (arith, is, fits, sum_by-cons rows_of_entry (events.Changed s change) h)

changes_by : (s : ℕ) (past : List Event) (statement : Stmt) → IsWriting statement → ChangesBy s statement past
changes_by s past = of_writing (λ statement. ChangesBy s statement past) (λ table columns tuples. tt) (λ table sets condition. tt) (λ table condition. tt)

no_table_more : (t : ℕ) (change : Change) (h : List Event) → IsOfRow change → created (events.Changed t change ∷ h) ≡ created h
no_table_more t (Create schema) h of-row = absurd of-row
no_table_more t (Put table row) h of-row = refl
no_table_more t (Remove table key) h of-row = refl

module _ (past : List Event) (writer : Option ℕ) (s : ℕ) (part : Part) (next : Database → Outcome) (todo : List Change) (change : Change)
    (r : IsChanging past writer s part next (todo ++ change ∷ [])) where
  -- what comes behind it
  abbrev behind_it : List Change
  behind_it = reverse todo ++ (next (apply (base s past) (r.made ++ reverse (todo ++ change ∷ [])))).changes

  pub parts_are : (later : List Change) × ((outcome r.statement (base s past)).changes ≡ r.made ++ change ∷ later)
  parts_are =
      let more : List Change = (next (apply (base s past) (r.made ++ reverse (todo ++ change ∷ [])))).changes in (
        behind_it,
        (goes_here past writer s part next (todo ++ change ∷ []) r).changes
            ∙ (append_assoc r.made (reverse (todo ++ change ∷ [])) more ∙ ap (λ (xs : List Change). r.made ++ (xs ++ more)) (next_first todo change)),
      )

  pub tabled : IsTabled (length (created past)) change
  tabled =
      subst (λ (schemas : List Schema). IsTabled (length schemas) change) (sym r.tables)
      (tabled_of (base s past) (outcome r.statement (base s past)).changes r.made change parts_are.0 (outcome-AreApplicable r.statement (base s past))
      parts_are.1)

  pub may_change : rows_kept (events.Changed s change ∷ past) ≤ most_rows → MayChange Spells s change past
  may_change within =
      record {
        is_open = r.working.is_open;
        not_over = r.goes_on.not_over;
        statement = r.statement;
        takes = r.working.takes;
        by = changes_by s past r.statement r.working.writes;
        free = λ place is other ne.
            kept_is_free s place past writer (all_kept s Tables (Row place) past writer (r.keeps Tables tt)) (newest past) other ne;
        within = within;
      }

  -- it fits its table
  pub fits : FitsThen past → IsOrdered past → IsInOrder past → FitsWell (created past) change
  fits then ordered in-order =
      let coded = latest_coded past s (reverse r.made) then ordered in-order r.own_is r.tables in
      let stores = spelled-Has64Bits r.working.takes.asks.0 r.statement r.working.takes.asks.2 in
      let all : All (FitsWell (base s past).schemas) (r.made ++ change ∷ parts_are.0) =
      subst (All (FitsWell (base s past).schemas)) parts_are.1 (statement_fits r.statement (base s past) coded stores) in
      subst (λ (schemas : List Schema). FitsWell schemas change) (sym r.tables)
      (All-head (FitsWell (base s past).schemas) change parts_are.0 (All-behind (FitsWell (base s past).schemas) r.made (change ∷ parts_are.0) all))

  -- the history tells it
  module _ (of-row : IsOfRow change) where
    abbrev after : List Event
    after = events.Changed s change ∷ past

    mine : eqb s s ≡ true
    mine = grind (arith, nat_tests)

    own_now : own s after ≡ change ∷ own s past
    own_now = rw mine refl

    -- it was to be made, and is made
    basis_now : (todo ++ change ∷ []) ++ own s past ≡ todo ++ own s after
    basis_now = append_assoc todo (change ∷ []) (own s past) ∙ ap (λ (xs : List Change). todo ++ xs) (sym own_now)

    abbrev StandsOn : List Change → List Change → Type 0
    StandsOn changes all = Stands (basis_for r.searched changes) (λ db. GoesOnWith r.statement db all next) (base s past)

    told_next : r.made ++ reverse (todo ++ change ∷ []) ≡ (r.made ++ change ∷ []) ++ reverse todo
    told_next = ap (λ (xs : List Change). r.made ++ xs) (next_first todo change) ∙ sym (append_assoc r.made (change ∷ []) (reverse todo))

    made_own : own s after ≡ reverse (r.made ++ change ∷ []) ++ own_before s after
    made_own = own_now ∙ (ap (λ changes. change ∷ changes) r.own_is ∙ ap (λ changes. changes ++ own_before s past) (sym (one_more_made r.made change)))

    rows_alone : AllByRecursion IsOfRow (own s after)
    rows_alone = subst (AllByRecursion IsOfRow) (sym own_now) (of-row, r.working.rows_alone)

    pub changing_then : IsChanging after writer s part next todo
    changing_then =
        record {
          statement = r.statement;
          working = working_own (events.Changed s change) past s mine refl refl refl refl refl refl rows_alone r.statement part.alone r.working;
          goes_on =
              record {
                not_over = over_same (events.Changed s change) past s mine refl refl refl ∙ r.goes_on.not_over;
                not_undone = did_same
                    (events.Changed s change) past s mine refl refl undoes refl ∙ r.goes_on.not_undone;
              };
          before_is = r.before_is;
          tables = no_table_more s change past of-row ∙ r.tables;
          writes = r.writes;
          cut = subst (λ (schemas : List Schema). IsCut schemas part.stmt (behind part)) (sym (no_table_more s change past of-row)) r.cut;
          table_is = ap (λ schemas. table_read schemas part.stmt) (no_table_more s change past of-row) ∙ r.table_is;
          made = r.made ++ change ∷ [];
          own_is = made_own;
          searched = r.searched;
          searched_is = r.searched_is;
          keeps = λ claim rests.
              kept_by_own (events.Changed s change) s claim past writer mine
              (r.keeps claim (subst (λ (changes : List Change). RestsOn (base s past).schemas (basis_for r.searched changes) claim) (sym basis_now) rests));
          goes = subst (StandsOn (todo ++ own s after)) told_next
              (subst (λ (changes : List Change). StandsOn changes (r.made ++ reverse (todo ++ change ∷ []))) basis_now r.goes);
        }

    -- and it stands behind those that stood before the statement
    pub stands_now : part.before < length (own s after)
    stands_now =
        let before : length (own_before s past) ≤ length (own s past) = omega (arith, ap length r.own_is, length-append (reverse r.made) (own_before s past)) in
        omega (arith, before, r.before_is, ap length own_now)
