-- In the step that tells a tuple's row, or finds one with its key, what an INSERT comes to goes on, or is settled.
-- No entry of another comes between the look at the key and the history's entry: both are in one step.
use Rattle.std.proofs.Common.{◌≡◌, ◌∙◌, ap, sym, subst, refl, ℕ, Bool, true, false, List, [], ◌∷◌, ◌++◌, reverse, Option, Some, None, is_some, Ok, Err, inl}
use Rattle.std.proofs.Common.{inr, arith}
use Rattle.std.proofs.lemmas.Bool.Decides.{nat_tests}
use Rattle.std.proofs.lemmas.List.{reverse-append}
use Rattle.std.proofs.lemmas.Cmp.{tied_itself}
use Rattle.std.specs.Prelude.{slice_get, ◌||◌}
use Rattle.std.specs.FinMap.{get}
use Rattle.std.specs.Ordering.{is_eq}
use Rattle.inno_types.specs.declared.value.Value.{Value}
use Rattle.inno_types.specs.declared.value.Schema.{Schema}
use Rattle.inno_types.specs.declared.stmt.Literal.{Literal}
use Rattle.inno_types.specs.declared.stmt.Stmt.{Stmt}
use Rattle.inno_types.specs.declared.stmt.Stmt.TheVariants.{Insert}
use Rattle.inno_types.specs.declared.reply.Reply.TheVariants.{Fail}
use Rattle.inno_types.specs.declared.reply.SqlError.{SqlError}
use Rattle.inno_types.specs.declared.reply.SqlError.TheVariants.{Duplicate}
use Rattle.inno_db.specs.declared.change.Change.{Change}
use Rattle.inno_db.specs.declared.change.Change.TheVariants.{Create, Put, Remove}
use Rattle.inno_db.specs.Database.{Database, Place, key_of, key_in}
use Rattle.inno_db.specs.Order.{place_cmp_total}
use Rattle.inno_db.specs.Names.{table_place}
use Rattle.inno_db.specs.Changes.{apply}
use Rattle.inno_db.specs.Refusals.{refusal}
use Rattle.inno_db.specs.Storing.{row_of_tuple}
use Rattle.inno_db.specs.Outcome.{outcome}
use Rattle.inno_db.specs.Keyed.{IsKeyed}
use Rattle.inno_db.proofs.Keys.{key_in-at}
use Rattle.inno_model.specs.declared.event.Event.{Event}
use Rattle.inno_model.specs.declared.event.Event.TheVariants.{Changed}
use Rattle.inno_model.specs.Past.{own, changed, current}
use Rattle.sql_history.specs.Items.{own_before, base}
use Rattle.law_db.specs.RowChanges.{AreOfTables}
use Rattle.law_db.specs.Beside.{is_change_at, touches, AreApart, AreOfRows}
use Rattle.law_db.proofs.Apart.{schemas_stay, get_untouched, beside_commutes}
use Rattle.law_claims.specs.Claims.{Tables, Row, Rows, Basis, RestsOn, LeavesBasis, Stands}
use Rattle.law_claims.proofs.Standing.{of_rows, touches_append}
use Rattle.law_claims.proofs.Outcomes.{keyed_behind}
use Rattle.write_statement.specs.Parts.{GoesOnWith}
use Rattle.write_statement.proofs.Changed.{changed_all, current_changed}
use Rattle.write_statement.proofs.TupleByTuple.{parts_unrefused}
use Rattle.law_locked_work.specs.Inserting.{resting, IsInserting}
use Rattle.law_locked_work.proofs.Tuples.{goes_on, is_taken, is_unmade}

pub rows_reverse : (changes : List Change) → AreOfRows changes → AreOfRows (reverse changes)
rows_reverse [] rows = tt
rows_reverse (Create schema ∷ changes) rows = absurd rows
rows_reverse (Put table row ∷ changes) rows =
    subst AreOfRows (sym (reverse-append (Put table row ∷ []) changes)) (rows_append (reverse changes) (Put table row ∷ []) (rows_reverse changes rows) tt)
  where
    rows_append : (some others : List Change) → AreOfRows some → AreOfRows others → AreOfRows (some ++ others)
    rows_append [] others a b = b
    rows_append (Create schema ∷ some) others a b = absurd a
    rows_append (Put table row ∷ some) others a b = rows_append some others a b
    rows_append (Remove table key ∷ some) others a b = rows_append some others a b
rows_reverse (Remove table key ∷ changes) rows =
    subst AreOfRows (sym (reverse-append (Remove table key ∷ []) changes))
    (rows_append (reverse changes) (Remove table key ∷ []) (rows_reverse changes rows) tt)
  where
    rows_append : (some others : List Change) → AreOfRows some → AreOfRows others → AreOfRows (some ++ others)
    rows_append [] others a b = b
    rows_append (Create schema ∷ some) others a b = absurd a
    rows_append (Put table row ∷ some) others a b = rows_append some others a b
    rows_append (Remove table key ∷ some) others a b = rows_append some others a b

or_true : (a : Bool) → (a || true) ≡ true
or_true true = refl
or_true false = refl

-- a change of one's own more leaves what the statement acts on
base_stays : (s : ℕ) (change : Change) (past : List Event) → base s (Changed s change ∷ past) ≡ base s past
base_stays s change past = refl

module _ (statement : Stmt) (name : List ℕ) (names : Option (List (List ℕ))) (n : ℕ) (schema : Schema) (s : ℕ) (made : List Change) (tuple : List Literal)
    (tuples : List (List Literal)) (past : List Event) (r : IsInserting statement name names n schema s made (tuple ∷ tuples) past)
    (keyed : IsKeyed (current s past)) where
  abbrev here : Database
  here = current s past

  now_is : here ≡ changed (base s past) (reverse made)
  now_is = current_changed past s (reverse made) r.own_is

  made_rows : AreOfRows (reverse made)
  made_rows = rows_reverse made r.rows

  same_tables : here.schemas ≡ (base s past).schemas
  same_tables = ap (λ (d : Database). d.schemas) now_is ∙ schemas_stay (base s past) (reverse made) made_rows

  -- behind others' changes that leave what it rests on
  module _ (basis : Basis) (others : List Change) (leaves : LeavesBasis basis (base s past) others)
      (among : (place : Place) → touches (base s past).schemas (own s past) place ≡ true → touches (base s past).schemas basis.changes place ≡ true) where
    abbrev below : Database
    below = changed (base s past) others

    others_rows : AreOfRows others
    others_rows = of_rows (base s past).schemas others (leaves Tables tt)

    made_apart : AreApart (base s past).schemas (reverse made) others
    made_apart place mine =
        let in_own : touches (base s past).schemas (own s past) place ≡ true =
        ap (λ (cs : List Change). touches (base s past).schemas cs place) r.own_is
        ∙ touches_append (base s past).schemas (reverse made) (own_before s past) place
        ∙ ap (λ b. b || touches (base s past).schemas (own_before s past) place) mine in
        leaves (Row place) (inl (among place in_own))

    there_is : apply below made ≡ changed here others
    there_is =
        sym (changed_all below made)
        ∙ (sym (beside_commutes (base s past) (reverse made) others made_rows others_rows made_apart)
        ∙ ap (λ (d : Database). changed d others) (sym now_is))

    tables_there : (apply below made).schemas ≡ (base s past).schemas
    tables_there = ap (λ (d : Database). d.schemas) there_is ∙ (schemas_stay here others others_rows ∙ same_tables)

    keyed_there : IsKeyed (apply below made)
    keyed_there =
        subst IsKeyed (sym there_is)
        (keyed_behind here others (subst (λ (ss : List Schema). AreOfTables ss others) (sym same_tables) (leaves Tables tt)) keyed)

    goes_there : GoesOnWith statement below made (outcome (Insert name names (tuple ∷ tuples)))
    goes_there = r.goes others narrower
      where
        narrower : LeavesBasis (resting (own s past) None) (base s past) others
        narrower Tables rests = leaves Tables tt
        narrower (Row place) (inl touched) = leaves (Row place) (inl (among place touched))
        narrower (Row place) (inr at) = (let none : None ≡ Some place = at in cc)
        narrower (Rows name condition) rests = absurd rests

    named_there : table_place (apply below made).schemas name ≡ Some n
    named_there = ap (λ (ss : List Schema). table_place ss name) tables_there ∙ r.named

    schema_there : slice_get (apply below made).schemas n ≡ Some schema
    schema_there = ap (λ (ss : List Schema). slice_get ss n) tables_there ∙ r.there

    unrefused_there : refusal (apply below made).schemas (Insert name names (tuple ∷ tuples)) ≡ None
    unrefused_there = ap (λ (ss : List Schema). refusal ss (Insert name names (tuple ∷ tuples))) tables_there ∙ r.unrefused

    -- the row at a place that it rests on
    row_there : (place : Place) → RestsOn (base s past).schemas basis (Row place) → get (apply below made).rows place ≡ get here.rows place
    row_there place rests =
        ap (λ (d : Database). get d.rows place) there_is
        ∙ get_untouched here others place others_rows (ap (λ (ss : List Schema). touches ss others place) same_tables ∙ leaves (Row place) rests)

    goes_with : (row : List Value) → row_of_tuple schema.columns names tuple ≡ Ok row → get here.rows (n, key_of schema row) ≡ None
        → RestsOn (base s past).schemas basis (Row (n, key_of schema row))
        → GoesOnWith statement below (made ++ Put n row ∷ []) (outcome (Insert name names tuples))
    goes_with row is absent rests =
        goes_on statement name names tuple tuples below made n schema keyed_there named_there schema_there unrefused_there goes_there row is
        (row_there (n, key_of schema row) rests ∙ absent)

    refused_there : (row : List Value) → row_of_tuple schema.columns names tuple ≡ Ok row → is_some (get here.rows (n, key_of schema row)) ≡ true
        → RestsOn (base s past).schemas basis (Row (n, key_of schema row)) → (outcome statement below).reply ≡ Fail (Duplicate (key_of schema row))
    refused_there row is taken rests =
        is_taken statement name names tuple tuples below made n schema keyed_there named_there schema_there unrefused_there goes_there row is
        (ap is_some (row_there (n, key_of schema row) rests) ∙ taken)

    unmade_there : (error : SqlError) → row_of_tuple schema.columns names tuple ≡ Err error → (outcome statement below).reply ≡ Fail error
    unmade_there error is =
        is_unmade statement name names tuple tuples below made n schema keyed_there named_there schema_there unrefused_there goes_there error is

  -- ---- its row is told

  module _ (row : List Value) (is : row_of_tuple schema.columns names tuple ≡ Ok row) where
    abbrev place : Place
    place = (n, key_of schema row)

    put_at : (schemas : List Schema) → slice_get schemas n ≡ Some schema → is_change_at schemas place (Put n row) ≡ true
    put_at schemas at =
        subst (λ (k : Value). is_change_at schemas (n, k) (Put n row) ≡ true) (key_in-at schemas n schema row at)
        (ap is_eq (tied_itself place_cmp_total (n, key_in schemas n row)))

    pub told : get here.rows place ≡ None
        → IsInserting statement name names n schema s (made ++ Put n row ∷ []) tuples (Changed s (Put n row) ∷ past)
    told absent =
        record {
          named = r.named;
          there = r.there;
          unrefused = (parts_unrefused names tuple tuples (base s past).schemas name r.unrefused).1;
          rows = rows_one made r.rows;
          own_is = own_one;
          goes = subst (λ (changes : List Change). Stands (resting changes None)
              (λ db. GoesOnWith statement db (made ++ Put n row ∷ []) (outcome (Insert name names tuples))) (base s past))
              (sym own_next)
              (λ others leaves. goes_with (resting (Put n row ∷ own s past) None) others leaves later row is absent (inl here_too));
        }
      where
        own_next : own s (Changed s (Put n row) ∷ past) ≡ Put n row ∷ own s past
        own_next = grind (arith, nat_tests)

        own_one : own s (Changed s (Put n row) ∷ past) ≡ reverse (made ++ Put n row ∷ []) ++ own_before s past
        own_one =
            own_next ∙ (ap (λ (cs : List Change). Put n row ∷ cs) r.own_is
            ∙ ap (λ (cs : List Change). cs ++ own_before s past) (sym (reverse-append made (Put n row ∷ []))))

        rows_one : (changes : List Change) → AreOfRows changes → AreOfRows (changes ++ Put n row ∷ [])
        rows_one [] rows = tt
        rows_one (Create schema ∷ changes) rows = absurd rows
        rows_one (Put table other ∷ changes) rows = rows_one changes rows
        rows_one (Remove table key ∷ changes) rows = rows_one changes rows

        later : (place : Place) → touches (base s past).schemas (own s past) place ≡ true → touches (base s past).schemas (Put n row ∷ own s past) place ≡ true
        later place touched = ap (λ b. is_change_at (base s past).schemas place (Put n row) || b) touched ∙ or_true
            (is_change_at (base s past).schemas place (Put n row))

        here_too : touches (base s past).schemas (Put n row ∷ own s past) place ≡ true
        here_too = ap (λ b. b || touches (base s past).schemas (own s past) place) (put_at (base s past).schemas r.there)

    -- ---- a row is there

    pub taken : is_some (get here.rows place) ≡ true
        → Stands (resting (own s past) (Some place)) (λ db. (outcome statement db).reply ≡ Fail (Duplicate (key_of schema row))) (base s past)
    taken at = λ others leaves. refused_there (resting (own s past) (Some place)) others leaves (λ place touched. touched) row is at (inr refl)

  -- ---- its values make no row

  pub refused : (error : SqlError) → row_of_tuple schema.columns names tuple ≡ Err error
      → Stands (resting (own s past) None) (λ db. (outcome statement db).reply ≡ Fail error) (base s past)
  refused error is = λ others leaves. unmade_there (resting (own s past) None) others leaves (λ place touched. touched) error is
