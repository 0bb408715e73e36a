-- The parts of a statement: what comes first, what is done with one of them, and what comes next.
use Rattle.std.proofs.Common.{◌≡◌, ℕ, ◌+◌, Bool, true, Option, Some, None, List, [], ◌∷◌, ◌++◌, length, reverse, refl, sym, ap, subst, ◌∙◌, arith}
use Rattle.std.proofs.Common.{inl, inr}
use Rattle.std.proofs.lemmas.Bool.{false≢true}
use Rattle.std.proofs.lemmas.List.{append-nil, append_assoc, length-append}
use Rattle.std.specs.Prelude.{slice_get}
use Rattle.inno_types.specs.declared.value.Value.{Value}
use Rattle.inno_types.specs.declared.value.Schema.{Schema}
use Rattle.inno_types.specs.declared.stmt.Literal.{Literal}
use Rattle.inno_types.specs.declared.stmt.Stmt.{Stmt}
use Rattle.inno_types.specs.declared.stmt.Stmt.TheVariants as stmt
use Rattle.inno_types.specs.declared.reply.Reply.{Reply}
use Rattle.inno_types.specs.declared.reply.Reply.TheVariants as replies
use Rattle.inno_db.specs.declared.change.Change.{Change}
use Rattle.inno_db.specs.declared.outcome.Outcome.{Outcome}
use Rattle.inno_db.specs.declared.outcome.Written.{Written}
use Rattle.inno_db.specs.Database.{Database, Place, rows_of}
use Rattle.inno_db.specs.Changes.{apply}
use Rattle.inno_db.specs.Names.{table_place}
use Rattle.inno_db.specs.Refusals.{refusal}
use Rattle.inno_db.specs.Outcome.{outcome, answer_to, unless_refused, counted, count_unless, on_rows, on_number, on_schema, insert_answer, update_answer, delete_answer, deleted, matching, table_read}
use Rattle.inno_db.specs.Keyed.{IsKeyed}
use Rattle.inno_db.proofs.Applying.{apply-append}
use Rattle.inno_model.specs.declared.event.Event.{Event}
use Rattle.inno_model.specs.Past.{own, commits, committed, opening, changed, current}
use Rattle.law_past_agreement.specs.Order.{created}
use Rattle.sql_history.specs.Items.{own_before, base}
use Rattle.sql_history.specs.Legal.{IsWriting}
use Rattle.write_statement.specs.Following.{counted_on, followed, followed_by}
use Rattle.giving_up.specs.Replies.{is_count, is_refusal}
use Rattle.write_statement.specs.Parts.{with_tuple, left_of, rest_of, IsCut, behind, of_part, of_rest, GoesOnWith, IsFirstPart}
use Rattle.write_statement.specs.declared.machine.Part.{Part}
use Rattle.law_db.specs.RowChanges.{AreOfTables}
use Rattle.law_db.specs.Beside.{touches}
use Rattle.law_db.proofs.Apart.{schemas_stay}
use Rattle.law_claims.specs.Claims.{Claim, Tables, Basis, Keeps, RestsOn, LeavesBasis, Stands}
use Rattle.law_claims.proofs.Standing.{of_rows, stands_now, stands_as}
use Rattle.law_claims.proofs.Keeping.{all_kept}
use Rattle.law_claims.proofs.Outcomes.{keyed_behind}
use Rattle.giving_up.specs.Leaving.{IsWorking}
use Rattle.write_statement.specs.Running.{IsEarly, IsChanging, IsMade, basis_for, search_of, refused_at}
use Rattle.giving_up.proofs.Touched.{touched_front, touched_later}
use Rattle.write_statement.proofs.Bases.{IsSearchOf, wider, touched_reverse, count_stands, refused_stands, others_behind}
use Rattle.write_statement.proofs.Bases.{same_tables, leaves_there}
use Rattle.giving_up.proofs.Writing.{of_writing}
use Rattle.write_statement.proofs.TupleByTuple.{insert_split, parts_unrefused}

-- ---- a statement that changes rows counts its changes

abbrev CountsChanges : Outcome → Type 0
CountsChanges o = is_count o.reply ≡ true → o.reply ≡ replies.Count (length o.changes)

written_counts : (written : Written) → CountsChanges (counted written)
written_counts written =
    elim written.refusal
    as (λ r. is_count (count_unless r (length written.changes)) ≡ true → count_unless r (length written.changes) ≡ replies.Count (length written.changes)) [
      | None ↦ λ is. refl
      | Some error ↦ λ is. absurd (false≢true is)
    ]

rows_count : (db : Database) (table : List ℕ) (answer : ℕ → Schema → List (List Value) → Outcome)
    → ((n : ℕ) (schema : Schema) (rows : List (List Value)) → CountsChanges (answer n schema rows)) → CountsChanges (on_rows db table answer)
rows_count db table answer each =
    elim (table_place db.schemas table) as (λ p. CountsChanges (on_number db p answer)) [
      | None ↦ λ is. absurd (false≢true is)
      | Some n ↦ elim (slice_get db.schemas n) as (λ o. CountsChanges (on_schema n o (rows_of n db) answer)) [
        | None ↦ λ is. absurd (false≢true is)
        | Some schema ↦ each n schema (rows_of n db)
      ]
    ]

answers_count : (db : Database) (statement : Stmt) → IsWriting statement → CountsChanges (answer_to statement db)
answers_count db (stmt.Insert table names tuples) writes =
    rows_count db table (insert_answer names tuples) (λ n schema rows. written_counts _)
answers_count db (stmt.Update table sets condition) writes =
    rows_count db table (update_answer sets condition) (λ n schema rows. written_counts _)
answers_count db (stmt.Delete table condition) writes =
    rows_count db table (delete_answer condition)
    (λ n schema rows. written_counts (record { changes = deleted n schema (matching schema.columns condition rows); refusal = None }))
answers_count db other writes = absurd writes

counts_changes : (db : Database) (statement : Stmt) → IsWriting statement → CountsChanges (outcome statement db)
counts_changes db statement writes =
    elim (refusal db.schemas statement) as (λ o. CountsChanges (unless_refused o (answer_to statement db))) [
      | None ↦ answers_count db statement writes
      | Some error ↦ λ is. absurd (false≢true is)
    ]

-- ---- a part and what comes behind it

-- where the whole isn't refused, the part isn't
pub part_unrefused : (schemas : List Schema) (statement : Stmt) (later : List (List Literal)) → IsCut schemas statement later → refusal schemas statement ≡ None
part_unrefused schemas statement [] cut = cut.1
part_unrefused schemas (stmt.Insert table names (tuple ∷ [])) (next ∷ later) cut = (parts_unrefused names tuple (next ∷ later) schemas table cut).0
part_unrefused schemas other (next ∷ later) cut = absurd cut

followed_refused : (reply : Reply) (first rest : Outcome) → is_refusal reply ≡ true → followed reply first rest ≡ first
followed_refused (replies.Fail error) first rest is = refl
followed_refused other first rest is = absurd (false≢true is)

followed_counted : (reply : Reply) (first rest : Outcome) → is_count reply ≡ true
    → followed reply first rest ≡ record { reply = counted_on (length first.changes) rest.reply; changes = first.changes ++ rest.changes }
followed_counted (replies.Count n) first rest is = refl
followed_counted other first rest is = absurd (false≢true is)

-- what is refused of a part is refused of all
refused_left : (db : Database) → IsKeyed db → (statement : Stmt) (later : List (List Literal)) → IsCut db.schemas statement later
    → is_refusal (outcome statement db).reply ≡ true → (outcome (left_of statement later) db).reply ≡ (outcome statement db).reply
refused_left db keyed statement [] cut is = refl
refused_left db keyed (stmt.Insert table names (tuple ∷ [])) (next ∷ later) cut is =
    let first = outcome (stmt.Insert table names (tuple ∷ [])) db in
    let rest = outcome (stmt.Insert table names (next ∷ later)) (apply db first.changes) in
    ap (λ (o : Outcome). o.reply) (insert_split table names db tuple (next ∷ later) keyed cut ∙ followed_refused first.reply first rest is)
refused_left db keyed other (next ∷ later) cut is = absurd cut

-- what is counted of a part goes on with the rest
abbrev GoesOn : Outcome → Outcome → Outcome → Type 0
GoesOn whole first rest = (whole.changes ≡ first.changes ++ rest.changes) × (whole.reply ≡ counted_on (length first.changes) rest.reply)

goes_on : (whole first rest : Outcome) → whole ≡ followed_by first rest → is_count first.reply ≡ true → GoesOn whole first rest
goes_on whole first rest is counts =
    let here = is ∙ followed_counted first.reply first rest counts in (ap (λ (o : Outcome). o.changes) here, ap (λ (o : Outcome). o.reply) here)

counted_left : (db : Database) → IsKeyed db → (statement : Stmt) (later : List (List Literal)) → IsWriting statement → IsCut db.schemas statement later
    → is_count (outcome statement db).reply ≡ true
    → GoesOn (outcome (left_of statement later) db) (outcome statement db) (rest_of statement later (apply db (outcome statement db).changes))
counted_left db keyed statement [] writes cut is =
    let changes : List Change = (outcome statement db).changes in
    let none : length changes ≡ length changes + 0 = omega arith in
    (sym (append-nil changes), counts_changes db statement writes is ∙ ap replies.Count none)
counted_left db keyed (stmt.Insert table names (tuple ∷ [])) (next ∷ later) writes cut is =
    let first = outcome (stmt.Insert table names (tuple ∷ [])) db in
    goes_on (outcome (stmt.Insert table names (tuple ∷ next ∷ later)) db) first (outcome (stmt.Insert table names (next ∷ later)) (apply db first.changes))
    (insert_split table names db tuple (next ∷ later) keyed cut) is
counted_left db keyed other (next ∷ later) writes cut is = absurd cut

-- ---- the whole goes on with the rest

counted_twice : (a b : ℕ) (reply : Reply) → counted_on a (counted_on b reply) ≡ counted_on (a + b) reply
counted_twice a b (replies.Count n) = (let same : a + (b + n) ≡ (a + b) + n = omega arith in ap replies.Count same)
counted_twice a b other = refl

refused_on : (made : ℕ) (reply : Reply) → is_refusal reply ≡ true → counted_on made reply ≡ reply
refused_on made (replies.Fail error) is = refl
refused_on made other is = absurd (false≢true is)

module _ (statement : Stmt) (db : Database) (made : List Change) where
  goes_counted : (next rest : Database → Outcome) (first : Outcome) → GoesOnWith statement db made next
      → GoesOn (next (apply db made)) first (rest (apply (apply db made) first.changes)) → GoesOnWith statement db (made ++ first.changes) rest
  goes_counted next rest first goes on =
      let there : rest (apply (apply db made) first.changes) ≡ rest (apply db (made ++ first.changes)) = ap rest (sym (apply-append db made first.changes)) in
      record {
        changes =
            goes.changes
            ∙ (ap (λ (xs : List Change). made ++ xs) (on.0 ∙ ap (λ (o : Outcome). first.changes ++ o.changes) there)
            ∙ sym (append_assoc made first.changes (rest (apply db (made ++ first.changes))).changes));
        reply =
            goes.reply
            ∙ (ap (counted_on (length made)) (on.1 ∙ ap (λ (o : Outcome). counted_on (length first.changes) o.reply) there)
            ∙ (counted_twice (length made) (length first.changes) (rest (apply db (made ++ first.changes))).reply
            ∙ ap (λ n. counted_on n (rest (apply db (made ++ first.changes))).reply) (sym (length-append made first.changes))));
      }

-- ---- what is done with a part

-- the whole goes on with what comes next, over the rows as they are
pub goes_here : (past : List Event) (writer : Option ℕ) (s : ℕ) (part : Part) (next : Database → Outcome) (todo : List Change)
    (r : IsChanging past writer s part next todo) → GoesOnWith r.statement (base s past) (r.made ++ reverse todo) next
goes_here past writer s part next todo r =
    stands_now (basis_for r.searched (todo ++ own s past)) (λ db. GoesOnWith r.statement db (r.made ++ reverse todo) next) (base s past) r.goes

module _ (past : List Event) (writer : Option ℕ) (s : ℕ) (part : Part) (r : IsChanging past writer s part (of_part part) [])
    (tables : created past ≡ (current s past).schemas) (keyed : IsKeyed (current s past)) where
  abbrev here : Database
  here = current s past

  -- over what the statement acts on with others' changes
  module _ (basis : Basis) (more : (claim : Claim) → RestsOn (base s past).schemas (basis_for r.searched (own s past)) claim
      → RestsOn (base s past).schemas basis claim)
      (among : (place : Place) → touches (base s past).schemas (own s past) place ≡ true → touches (base s past).schemas basis.changes place ≡ true)
      (others : List Change) (leaves : LeavesBasis basis (base s past) others) where
    abbrev below : Database
    below = changed (base s past) others

    goes_there : GoesOnWith r.statement below r.made (of_part part)
    goes_there =
        subst (λ (changes : List Change). GoesOnWith r.statement below changes (of_part part)) (append-nil r.made)
        (r.goes others (λ claim rests. leaves claim (more claim rests)))

    abbrev there : Database
    there = apply below r.made

    there_is : there ≡ changed here others
    there_is = others_behind past writer s part r basis others leaves among

    tables_left : AreOfTables here.schemas others
    tables_left = leaves_there past writer s part r basis others leaves among Tables tt

    keyed_there : IsKeyed there
    keyed_there = subst IsKeyed (sym there_is) (keyed_behind here others tables_left keyed)

    cut_there : IsCut there.schemas part.stmt (behind part)
    cut_there =
        let same : created past ≡ there.schemas = tables ∙ (sym (schemas_stay here others (of_rows here.schemas others tables_left))
        ∙ ap (λ (d : Database). d.schemas) (sym there_is)) in
        subst (λ (schemas : List Schema). IsCut schemas part.stmt (behind part)) same r.cut

    -- where the part comes to the same, what is counted goes on
    counted_there : outcome part.stmt (changed here others) ≡ outcome part.stmt here → (todo : List Change)
        → is_count (outcome part.stmt here).reply ≡ true → (outcome part.stmt here).changes ≡ reverse todo
        → GoesOnWith r.statement below (r.made ++ reverse todo) (of_rest part)
    counted_there same todo counts changes =
        let first = outcome part.stmt there in
        let alike : first ≡ outcome part.stmt here = ap (outcome part.stmt) there_is ∙ same in
        let on = counted_left there keyed_there part.stmt (behind part) r.writes cut_there (ap (λ (o : Outcome). is_count o.reply) alike ∙ counts) in
        subst (λ (xs : List Change). GoesOnWith r.statement below (r.made ++ xs) (of_rest part)) (ap (λ (o : Outcome). o.changes) alike ∙ changes)
        (goes_counted r.statement below r.made (of_part part) (of_rest part) first goes_there on)

    -- and its refusal is that of the whole
    refused_there : outcome part.stmt (changed here others) ≡ outcome part.stmt here → (kept : Reply) → is_refusal kept ≡ true
        → (outcome part.stmt here).reply ≡ kept → (outcome r.statement below).reply ≡ kept
    refused_there same kept is answer =
        let alike : (outcome part.stmt there).reply ≡ kept = ap (λ (o : Outcome). o.reply) (ap (outcome part.stmt) there_is ∙ same) ∙ answer in
        let of-all = refused_left there keyed_there part.stmt (behind part) cut_there (ap is_refusal alike ∙ is) ∙ alike in
        goes_there.reply ∙ (ap (counted_on (length r.made)) of-all ∙ refused_on (length r.made) kept is)

  -- ---- it is counted

  module _ (todo : List Change) (counts : is_count (outcome part.stmt here).reply ≡ true) (changes : (outcome part.stmt here).changes ≡ reverse todo) where
    abbrev after : Basis
    after = basis_for (search_of part.stmt) (todo ++ own s past)

    stands_counted : Stands after (λ db. GoesOnWith r.statement db (r.made ++ reverse todo) (of_rest part)) (base s past)
    stands_counted = λ others leaves.
        let schemas = (base s past).schemas in
        let among : (place : Place) → touches schemas (own s past) place ≡ true → touches schemas (todo ++ own s past) place ≡ true =
        touched_later schemas todo (own s past) in
        let there = leaves_there past writer s part r after others leaves among in
        let same_schemas = same_tables past writer s part r after others leaves among in
        counted_there after (wider schemas part.stmt r.searched r.searched_is (own s past) (todo ++ own s past) among None) among others leaves
        (count_stands here others after there part.stmt r.writes refl counts (todo_among same_schemas)) todo counts changes where
          todo_among : here.schemas ≡ (base s past).schemas → (place : Place) → touches here.schemas (outcome part.stmt here).changes place ≡ true
              → touches here.schemas (todo ++ own s past) place ≡ true
          todo_among same place is =
              touched_front here.schemas todo (own s past) place
              (sym (touched_reverse here.schemas todo place) ∙ (ap (λ (cs : List Change). touches here.schemas cs place) (sym changes) ∙ is))

    -- its changes come next
    pub part_counted : IsChanging past writer s part (of_rest part) todo
    part_counted =
        record {
          statement = r.statement;
          working = r.working;
          goes_on = r.goes_on;
          before_is = r.before_is;
          tables = r.tables;
          writes = r.writes;
          cut = r.cut;
          table_is = r.table_is;
          made = r.made;
          own_is = r.own_is;
          searched = search_of part.stmt;
          searched_is = inr refl;
          keeps = λ claim rests. all_kept s Tables claim past writer (r.keeps Tables tt);
          goes = stands_counted;
        }

  -- ---- it is refused

  module _ (kept : Reply) (refused : is_refusal kept ≡ true) (answer : kept ≡ (outcome part.stmt here).reply) where
    abbrev pub refusal_basis : Basis
    refusal_basis = record { changes = own s past; searched = search_of part.stmt; refused_at = refused_at part.table kept }

    pub refusal_wider : (claim : Claim) → RestsOn (base s past).schemas (basis_for r.searched (own s past)) claim
        → RestsOn (base s past).schemas refusal_basis claim
    refusal_wider =
        wider (base s past).schemas part.stmt r.searched r.searched_is (own s past) (own s past) (λ place is. is) (refused_at part.table kept)

    -- that is the refusal of the whole, whatever others commit
    pub part_refused : Stands refusal_basis (λ db. (outcome r.statement db).reply ≡ kept) (base s past)
    part_refused = λ others leaves.
        let among : (place : Place) → touches (base s past).schemas (own s past) place ≡ true
        → touches (base s past).schemas (own s past) place ≡ true = λ place is. is in
        let there = leaves_there past writer s part r refusal_basis others leaves among in
        let cut = subst (λ (schemas : List Schema). IsCut schemas part.stmt (behind part)) tables r.cut in
        let reads = subst (λ (schemas : List Schema). table_read schemas part.stmt ≡ Some part.table) tables r.table_is in
        refused_there refusal_basis refusal_wider among others leaves
        (refused_stands here others refusal_basis there part.table keyed kept refl part.stmt (behind part) r.writes refl cut
        (part_unrefused here.schemas part.stmt (behind part) cut) reads refused (sym answer)) kept refused (sym answer)

-- ---- the first part

zero_more : (reply : Reply) → reply ≡ counted_on 0 reply
zero_more (replies.Count n) = (let same : n ≡ 0 + n = omega arith in ap replies.Count same)
zero_more other = refl

cut_writes : (schemas : List Schema) (statement : Stmt) (later : List (List Literal)) → IsCut schemas statement later → IsWriting (left_of statement later)
    → IsWriting statement
cut_writes schemas statement [] cut writes = writes
cut_writes schemas (stmt.Insert table names (tuple ∷ [])) (next ∷ later) cut writes = tt
cut_writes schemas other (next ∷ later) cut writes = absurd cut

left_table : (schemas : List Schema) (statement : Stmt) (later : List (List Literal))
    → table_read schemas (left_of statement later) ≡ table_read schemas statement
left_table schemas statement [] = refl
left_table schemas (stmt.Insert table names tuples) (next ∷ later) = refl
left_table schemas other (next ∷ later) = refl

pub starts : (past : List Event) (writer : Option ℕ) (s : ℕ) (statement : Stmt) (table : ℕ) (alone : Bool) (before : ℕ) (part : Part)
    → IsEarly s statement alone past → Keeps s Tables past writer → before ≡ length (own s past) → created past ≡ (current s past).schemas
    → table_read (created past) statement ≡ Some table → IsFirstPart (created past) statement table alone before part
    → IsChanging past writer s part (of_part part) []
starts past writer s statement table alone before part early right before-is tables table-is first =
    record {
      statement = statement;
      working = subst (λ own. IsWorking s statement own past) (sym first.alone_is) early.working;
      goes_on = early.goes_on;
      before_is = first.before_is ∙ (before-is ∙ ap length early.unchanged);
      tables = tables ∙ ap (λ (changes : List Change). (changed (opening past) (changes ++ committed (commits past) past)).schemas) early.unchanged;
      writes = cut_writes (created past) part.stmt (behind part) first.cut (subst IsWriting (sym first.left) early.working.writes);
      cut = first.cut;
      table_is =
          sym (left_table (created past) part.stmt (behind part))
          ∙ (ap (table_read (created past)) first.left ∙ (table-is ∙ ap Some (sym first.table_is)));
      made = [];
      own_is = early.unchanged;
      searched = None;
      searched_is = inl refl;
      keeps = λ claim rests. all_kept s Tables claim past writer right;
      goes = λ others leaves.
          subst (λ (st : Stmt). GoesOnWith statement (changed (base s past) others) [] (outcome st)) (sym first.left)
          (record { changes = refl; reply = zero_more (outcome statement (changed (base s past) others)).reply });
    }

-- ---- the next part, or none

next_cut : (schemas : List Schema) (statement : Stmt) (tuple : List Literal) (later : List (List Literal)) → IsCut schemas statement (tuple ∷ later)
    → IsCut schemas (with_tuple tuple statement) later
next_cut schemas (stmt.Insert table names (before ∷ [])) tuple [] cut = (refl, (parts_unrefused names before (tuple ∷ []) schemas table cut).1)
next_cut schemas (stmt.Insert table names (before ∷ [])) tuple (next ∷ later) cut = (parts_unrefused names before (tuple ∷ next ∷ later) schemas table cut).1
next_cut schemas other tuple later cut = absurd cut

next_table : (schemas : List Schema) (statement : Stmt) (tuple : List Literal) → table_read schemas (with_tuple tuple statement) ≡ table_read schemas statement
next_table schemas (stmt.Insert table names tuples) tuple = refl
next_table schemas other tuple = refl

next_writes : (statement : Stmt) (tuple : List Literal) → IsWriting statement → IsWriting (with_tuple tuple statement)
next_writes statement tuple =
    of_writing (λ st. IsWriting (with_tuple tuple st)) (λ table names tuples. tt) (λ table sets condition. tt) (λ table condition. tt) statement

next_goes : (schemas : List Schema) (whole : Stmt) (db : Database) (made : List Change) (statement : Stmt) (tuple : List Literal) (later : List (List Literal))
    → IsCut schemas statement (tuple ∷ later) → GoesOnWith whole db made (rest_of statement (tuple ∷ later))
    → GoesOnWith whole db made (outcome (left_of (with_tuple tuple statement) later))
next_goes schemas whole db made (stmt.Insert table names (before ∷ [])) tuple [] cut goes = goes
next_goes schemas whole db made (stmt.Insert table names (before ∷ [])) tuple (next ∷ later) cut goes = goes
next_goes schemas whole db made other tuple later cut goes = absurd cut

-- an INSERT has searched for no rows
none_searched : (schemas : List Schema) (statement : Stmt) (tuple : List Literal) (later : List (List Literal)) → IsCut schemas statement (tuple ∷ later)
    → (searched : Option Stmt) → IsSearchOf searched statement → searched ≡ None
none_searched schemas (stmt.Insert table names (before ∷ [])) tuple later cut searched is = elim is [ inl none ↦ none | inr same ↦ same ]
none_searched schemas other tuple later cut searched is = absurd cut

module _ (past : List Event) (writer : Option ℕ) (s : ℕ) (part : Part) (r : IsChanging past writer s part (of_rest part) []) where
  pub goes_next : (tuple : List Literal) (after : Part) → behind part ≡ tuple ∷ behind after → after.stmt ≡ with_tuple tuple part.stmt
      → after.table ≡ part.table → after.alone ≡ part.alone → after.before ≡ part.before → IsChanging past writer s after (of_part after) []
  goes_next tuple after is stmt-is same-table alone-is before-is =
      let cut = subst (IsCut (created past) part.stmt) is r.cut in
      record {
        statement = r.statement;
        working = subst (λ alone. IsWorking s r.statement alone past) (sym alone-is) r.working;
        goes_on = r.goes_on;
        before_is = before-is ∙ r.before_is;
        tables = r.tables;
        writes = subst IsWriting (sym stmt-is) (next_writes part.stmt tuple r.writes);
        cut =
            subst (λ (st : Stmt). IsCut (created past) st (behind after)) (sym stmt-is)
            (next_cut (created past) part.stmt tuple (behind after) cut);
        table_is =
            ap (table_read (created past)) stmt-is
            ∙ (next_table (created past) part.stmt tuple ∙ (r.table_is ∙ ap Some (sym same-table)));
        made = r.made;
        own_is = r.own_is;
        searched = r.searched;
        searched_is = inl (none_searched (created past) part.stmt tuple (behind after) cut r.searched r.searched_is);
        keeps = r.keeps;
        goes = stands_as
            (basis_for r.searched (own s past)) (λ db. GoesOnWith r.statement db (r.made ++ []) (of_rest part))
            (λ db. GoesOnWith r.statement db (r.made ++ []) (of_part after)) (base s past) (λ db goes.
            subst (λ (st : Stmt). GoesOnWith r.statement db (r.made ++ []) (outcome (left_of st (behind after)))) (sym stmt-is)
            (next_goes (created past) r.statement db (r.made ++ []) part.stmt tuple (behind after) cut
            (subst (λ (later : List (List Literal)). GoesOnWith r.statement db (r.made ++ []) (rest_of part.stmt later)) is goes))) r.goes;
      }

  -- no tuple is left
  pub all_made : behind part ≡ [] → IsMade past writer s part.alone part.before
  all_made none =
      let goes = subst (λ (later : List (List Literal)). GoesOnWith r.statement (base s past) (r.made ++ []) (rest_of part.stmt later)) none
      (goes_here past writer s part (of_rest part) [] r) in
      let all : (outcome r.statement (base s past)).changes ≡ r.made = goes.changes ∙ (append-nil (r.made ++ []) ∙ append-nil r.made) in
      let many : length (r.made ++ []) + 0 ≡ length (outcome r.statement (base s past)).changes =
      omega (arith, ap length all, ap length (append-nil r.made)) in
      record {
        statement = r.statement;
        working = r.working;
        goes_on = r.goes_on;
        before_is = r.before_is;
        answer = goes.reply ∙ ap replies.Count many;
        own_is = r.own_is ∙ ap (λ (changes : List Change). reverse changes ++ own_before s past) (sym all);
      }
