-- What a part's changes rest on, and that what is settled of a part stands on that.
use Rattle.std.proofs.Common.{◌≡◌, ℕ, true, Option, Some, None, List, [], ◌∷◌, reverse, refl, sym, ap, subst, ◌∙◌, ◌⊎◌, inl, inr}
use Rattle.std.proofs.Common.{arith}
use Rattle.std.proofs.lemmas.Bool.Decides.{nat_tests}
use Rattle.std.proofs.lemmas.Bool.{false≢true}
use Rattle.std.proofs.lemmas.List.Sorted.{list_any-IsPermutation, IsPermutation-reverse}
use Rattle.std.specs.List.{AllByRecursion}
use Rattle.inno_types.specs.declared.value.Schema.{Schema}
use Rattle.inno_types.specs.declared.stmt.Literal.{Literal}
use Rattle.inno_types.specs.declared.stmt.Stmt.{Stmt}
use Rattle.inno_types.specs.declared.stmt.Stmt.TheVariants as stmt
use Rattle.inno_types.specs.declared.reply.Reply.{Reply}
use Rattle.inno_types.specs.declared.reply.Reply.TheVariants as replies
use Rattle.inno_types.specs.declared.reply.SqlError.{SqlError}
use Rattle.inno_types.specs.declared.reply.SqlError.TheVariants as errors
use Rattle.inno_db.specs.declared.change.Change.{Change}
use Rattle.inno_db.specs.Database.{Database, Place}
use Rattle.inno_db.specs.Changes.{apply}
use Rattle.inno_db.specs.Refusals.{refusal}
use Rattle.inno_db.specs.Outcome.{outcome, insert_answer, table_read}
use Rattle.inno_db.specs.Keyed.{IsKeyed}
use Rattle.inno_model.specs.declared.event.Event.{Event}
use Rattle.inno_model.specs.Past.{own, changed, current}
use Rattle.law_past_agreement.specs.Order.{IsOfRow}
use Rattle.sql_history.specs.Items.{own_before, base}
use Rattle.sql_history.specs.Legal.{IsWriting}
use Rattle.law_db.specs.Beside.{is_change_at, touches, AreApart, AreOfRows}
use Rattle.law_db.proofs.Apart.{schemas_stay, beside_commutes}
use Rattle.law_db.proofs.Searching.{on_rows-alike, outcome-alike}
use Rattle.law_claims.specs.Claims.{Claim, Tables, Row, Rows, Leaves, Basis, RestsOn, LeavesBasis, SearchesFor, IsRefusedAt}
use Rattle.law_claims.proofs.Standing.{of_rows, rests_as, leaves_behind}
use Rattle.law_claims.proofs.Outcomes.{search_stands, counted_stands, refusal_stands}
use Rattle.giving_up.proofs.Touched.{front_rows, touched_front}
use Rattle.write_statement.specs.declared.machine.Part.{Part}
use Rattle.giving_up.specs.Replies.{is_count, is_refusal}
use Rattle.write_statement.specs.Parts.{has_parts, IsCut, of_part}
use Rattle.write_statement.specs.Running.{IsChanging, basis_for, search_of, refused_at}
use Rattle.write_statement.proofs.Changed.{changed_all, current_changed}

pub touched_reverse : (schemas : List Schema) (changes : List Change) (place : Place) → touches schemas (reverse changes) place ≡ touches schemas changes place
touched_reverse schemas changes place =
    sym (list_any-IsPermutation (is_change_at schemas place) changes (reverse changes) (IsPermutation-reverse changes))

-- ---- more basis

abbrev pub IsSearchOf : Option Stmt → Stmt → Type 0
IsSearchOf searched statement = (searched ≡ None) ⊎ (searched ≡ search_of statement)

pub wider : (schemas : List Schema) (statement : Stmt) (searched : Option Stmt) → IsSearchOf searched statement → (some more : List Change)
    → ((place : Place) → touches schemas some place ≡ true → touches schemas more place ≡ true) → (refused : Option Place) (claim : Claim)
    → RestsOn schemas (basis_for searched some) claim
    → RestsOn schemas (record { changes = more; searched = search_of statement; refused_at = refused }) claim
wider schemas statement searched is some more among refused Tables rests = tt
wider schemas statement searched is some more among refused (Row place) (inl touched) = inl (among place touched)
wider schemas statement searched is some more among refused (Row place) (inr at) = (let none : None ≡ Some place = at in cc)
wider schemas statement searched (inl none) some more among refused (Rows name condition) rests =
    absurd (subst (λ (o : Option Stmt). SearchesFor o name condition) none rests)
wider schemas statement searched (inr same) some more among refused (Rows name condition) rests =
    subst (λ (o : Option Stmt). SearchesFor o name condition) same rests

-- ---- what is settled of one statement

few_tuples : (schemas : List Schema) (name : List ℕ) (names : Option (List (List ℕ))) (first second : List Literal) (tuples later : List (List Literal))
    → IsCut schemas (stmt.Insert name names (first ∷ second ∷ tuples)) later → ⊥
few_tuples schemas name names first second tuples [] cut =
    let many : has_parts (stmt.Insert name names (first ∷ second ∷ tuples)) ≡ true = grind (arith, nat_tests) in false≢true (sym cut.0 ∙ many)
few_tuples schemas name names first second tuples (next ∷ later) cut = cut

same_number : (a b : ℕ) → Some a ≡ Some b → a ≡ b
same_number a b same = cc

module _ (db : Database) (others : List Change) (basis : Basis) (leaves : LeavesBasis basis db others) where
  tables : (changed db others).schemas ≡ db.schemas
  tables = schemas_stay db others (of_rows db.schemas others (leaves Tables tt))

  count_of : (reply : Reply) → is_count reply ≡ true → (n : ℕ) × (reply ≡ replies.Count n)
  count_of (replies.Count n) is = (n, refl)
  count_of other is = absurd (false≢true is)

  -- it is counted
  pub count_stands : (statement : Stmt) → IsWriting statement → basis.searched ≡ search_of statement → is_count (outcome statement db).reply ≡ true
      → ((place : Place) → touches db.schemas (outcome statement db).changes place ≡ true → touches db.schemas basis.changes place ≡ true)
      → outcome statement (changed db others) ≡ outcome statement db
  count_stands (stmt.Insert name names tuples) writes searched counts among =
      let count = count_of (outcome (stmt.Insert name names tuples) db).reply counts in
      counted_stands db others basis leaves name names tuples count.0 count.1 among
  count_stands (stmt.Update name sets condition) writes searched counts among =
      search_stands db others basis leaves (stmt.Update name sets condition) refl tt searched
  count_stands (stmt.Delete name condition) writes searched counts among =
      search_stands db others basis leaves (stmt.Delete name condition) refl tt searched
  count_stands other writes searched counts among = absurd writes

  error_of : (reply : Reply) → is_refusal reply ≡ true → (error : SqlError) × (reply ≡ replies.Fail error)
  error_of (replies.Fail error) is = (error, refl)
  error_of other is = absurd (false≢true is)

  none_put : (name : List ℕ) (names : Option (List (List ℕ)))
      → outcome (stmt.Insert name names []) (changed db others) ≡ outcome (stmt.Insert name names []) db
  none_put name names =
      outcome-alike (stmt.Insert name names []) (changed db others) db tables
      (on_rows-alike (changed db others) db name (insert_answer names []) tables (λ table schema named is. refl))

  -- it is refused
  module _ (table : ℕ) (keyed : IsKeyed db) (kept : Reply) (at : basis.refused_at ≡ refused_at table kept) where
    at_place : (error : SqlError) → kept ≡ replies.Fail error → (name : List ℕ) → table_read db.schemas (stmt.Insert name None []) ≡ Some table
        → IsRefusedAt db.schemas name error basis
    at_place (errors.Duplicate key) is name reads = λ other named.
        at ∙ (ap (refused_at table) is ∙ ap (λ (n : ℕ). Some (n, key)) (same_number table other (sym reads ∙ named)))
    at_place other is name reads = tt

    pub refused_stands : (statement : Stmt) (later : List (List Literal)) → IsWriting statement → basis.searched ≡ search_of statement
        → IsCut db.schemas statement later → refusal db.schemas statement ≡ None → table_read db.schemas statement ≡ Some table
        → is_refusal kept ≡ true → (outcome statement db).reply ≡ kept → outcome statement (changed db others) ≡ outcome statement db
    refused_stands (stmt.Insert name names []) later writes searched cut none reads refused reply = none_put name names
    refused_stands (stmt.Insert name names (tuple ∷ [])) later writes searched cut none reads refused reply =
        let error = error_of kept refused in
        refusal_stands db others basis leaves keyed name names tuple error.0 none (reply ∙ error.1) (at_place error.0 error.1 name reads)
    refused_stands (stmt.Insert name names (first ∷ second ∷ tuples)) later writes searched cut none reads refused reply =
        absurd (few_tuples db.schemas name names first second tuples later cut)
    refused_stands (stmt.Update name sets condition) later writes searched cut none reads refused reply =
        search_stands db others basis leaves (stmt.Update name sets condition) refl tt searched
    refused_stands (stmt.Delete name condition) later writes searched cut none reads refused reply =
        search_stands db others basis leaves (stmt.Delete name condition) refl tt searched
    refused_stands other later writes searched cut none reads refused reply = absurd writes

-- ---- behind the changes that are made

module _ (past : List Event) (writer : Option ℕ) (s : ℕ) (part : Part) (r : IsChanging past writer s part (of_part part) [])
    (basis : Basis) (others : List Change) (leaves : LeavesBasis basis (base s past) others)
    (among : (place : Place) → touches (base s past).schemas (own s past) place ≡ true → touches (base s past).schemas basis.changes place ≡ true) where
  others_rows : AreOfRows others
  others_rows = of_rows (base s past).schemas others (leaves Tables tt)

  made_rows : AreOfRows (reverse r.made)
  made_rows = front_rows (reverse r.made) (own_before s past) (subst (AllByRecursion IsOfRow) r.own_is r.working.rows_alone)

  made_apart : AreApart (base s past).schemas (reverse r.made) others
  made_apart place mine =
      let here : touches (base s past).schemas (own s past) place ≡ true =
      ap (λ (cs : List Change). touches (base s past).schemas cs place) r.own_is
      ∙ touched_front (base s past).schemas (reverse r.made) (own_before s past) place mine in
      leaves (Row place) (inl (among place here))

  now_is : current s past ≡ changed (base s past) (reverse r.made)
  now_is = current_changed past s (reverse r.made) r.own_is

  -- others' changes may be made behind those that are made
  pub others_behind : apply (changed (base s past) others) r.made ≡ changed (current s past) others
  others_behind =
      sym (changed_all (changed (base s past) others) r.made)
      ∙ (sym (beside_commutes (base s past) (reverse r.made) others made_rows others_rows made_apart)
      ∙ ap (λ (d : Database). changed d others) (sym now_is))

  pub same_tables : (current s past).schemas ≡ (base s past).schemas
  same_tables = ap (λ (d : Database). d.schemas) now_is ∙ schemas_stay (base s past) (reverse r.made) made_rows

  -- and leave the basis there
  pub leaves_there : LeavesBasis basis (current s past) others
  leaves_there claim rests =
      let was = leaves claim (rests_as (current s past).schemas (base s past).schemas same_tables basis claim rests) in
      subst (λ (d : Database). Leaves claim d others) (sym now_is)
      (leaves_behind (base s past) (reverse r.made) others made_rows others_rows made_apart claim was)
