-- The first and the last of an INSERT's tuples, others' commits between them, and what has to be kept for each.
-- The laws of `insert_told` end here. How one tuple goes on is told in `Telling`.
use Rattle.std.proofs.Common.{◌≡◌, ◌∙◌, ap, sym, subst, refl, ℕ, ◌+◌, true, false, List, [], ◌∷◌, ◌++◌, length, reverse, Option, Some, None, inl, inr, arith}
use Rattle.std.proofs.lemmas.List.{append-nil}
use Rattle.std.specs.Prelude.{slice_get, ◌||◌}
use Rattle.std.specs.Ordering.{is_eq}
use Rattle.std.specs.declared.cmp.Ordering.{Ordering}
use Rattle.std.specs.declared.cmp.Ordering.TheVariants.{Less, Equal, Greater}
use Rattle.inno_types.specs.declared.value.Value.{Value}
use Rattle.inno_types.specs.declared.value.Schema.{Schema}
use Rattle.inno_types.specs.declared.stmt.Literal.{Literal}
use Rattle.inno_types.specs.declared.stmt.Stmt.{Stmt}
use Rattle.inno_types.specs.declared.stmt.Stmt.TheVariants.{Insert}
use Rattle.inno_types.specs.declared.reply.Reply.{Reply}
use Rattle.inno_types.specs.declared.reply.Reply.TheVariants as replies
use Rattle.inno_types.specs.declared.reply.Reply.TheVariants.{Count}
use Rattle.inno_db.specs.declared.change.Change.{Change}
use Rattle.inno_db.specs.declared.change.Change.TheVariants.{Put}
use Rattle.inno_db.specs.declared.outcome.Outcome.{Outcome}
use Rattle.inno_db.specs.Database.{Database, Place, place_cmp, key_of, key_in}
use Rattle.inno_db.proofs.Tables.{place_cmp-IsAntisymmetric}
use Rattle.inno_db.specs.Names.{table_place}
use Rattle.inno_db.specs.Changes.{apply}
use Rattle.inno_db.specs.Refusals.{refusal}
use Rattle.inno_db.specs.Outcome.{outcome, counted, nothing}
use Rattle.inno_db.proofs.Keys.{key_in-at}
use Rattle.inno_model.specs.declared.event.Event.{Event}
use Rattle.inno_model.specs.Past.{own, changed}
use Rattle.sql_history.specs.Items.{own_before, base}
use Rattle.law_db.specs.Beside.{is_change_at, touches}
use Rattle.law_db.proofs.Apart.{schemas_stay}
use Rattle.law_claims.specs.Claims.{Claim, Tables, Row, Rows, RestsOn, Stands, GoesBeside}
use Rattle.law_claims.proofs.Standing.{of_rows, stands_now, stands_then}
use Rattle.law_claims.proofs.Outcomes.{whole_is}
use Rattle.write_statement.specs.Following.{counted_on}
use Rattle.write_statement.specs.Parts.{GoesOnWith}
use Rattle.write_statement.proofs.Changed.{changed_all}
use Rattle.law_locked_work.specs.Inserting.{resting, IsInserting}
use Rattle.law_locked_work.proofs.Telling.{rows_reverse}

zero_more : (reply : Reply) → reply ≡ counted_on 0 reply
zero_more (replies.Count n) = (let same : n ≡ 0 + n = omega arith in ap replies.Count same)
zero_more other = refl

module _ (name : List ℕ) (names : Option (List (List ℕ))) (n : ℕ) (schema : Schema) (s : ℕ) where
  -- before the first tuple
  pub begins : (tuples : List (List Literal)) (past : List Event) → table_place (base s past).schemas name ≡ Some n
      → slice_get (base s past).schemas n ≡ Some schema → refusal (base s past).schemas (Insert name names tuples) ≡ None
      → own s past ≡ own_before s past → IsInserting (Insert name names tuples) name names n schema s [] tuples past
  begins tuples past named there unrefused unchanged =
      record {
        named = named;
        there = there;
        unrefused = unrefused;
        rows = tt;
        own_is = unchanged;
        goes = λ others leaves.
            record { changes = refl; reply = zero_more (outcome (Insert name names tuples) (changed (base s past) others)).reply };
      }

  module _ (statement : Stmt) (made : List Change) where
    -- behind the last
    pub ends : (past : List Event) → IsInserting statement name names n schema s made [] past
        → ((outcome statement (base s past)).changes ≡ made) × ((outcome statement (base s past)).reply ≡ Count (length made))
    ends past r =
        let db : Database = base s past in
        let goes : GoesOnWith statement db made (outcome (Insert name names [])) =
        stands_now (resting (own s past) None) (λ d. GoesOnWith statement d made (outcome (Insert name names []))) db r.goes in
        let tables : (apply db made).schemas ≡ db.schemas =
        ap (λ (d : Database). d.schemas) (sym (changed_all db made)) ∙ schemas_stay db (reverse made) (rows_reverse made r.rows) in
        let last : outcome (Insert name names []) (apply db made) ≡ counted nothing =
        whole_is (apply db made) name names [] n schema (ap (λ (ss : List Schema). table_place ss name) tables ∙ r.named)
        (ap (λ (ss : List Schema). slice_get ss n) tables ∙ r.there)
        (ap (λ (ss : List Schema). refusal ss (Insert name names [])) tables ∙ r.unrefused) in
        let many : length made + 0 ≡ length made = omega arith in (
          goes.changes ∙ (ap (λ (o : Outcome). made ++ o.changes) last ∙ append-nil made),
          goes.reply ∙ (ap (λ (o : Outcome). counted_on (length made) o.reply) last ∙ ap replies.Count many),
        )

    -- what others commit between two tuples
    pub stays : (tuples : List (List Literal)) (old new : List Event) → own s new ≡ own s old → own_before s new ≡ own_before s old
        → GoesBeside (resting (own s old) None) s old new → IsInserting statement name names n schema s made tuples old
        → IsInserting statement name names n schema s made tuples new
    stays tuples old new owns before beside r =
        let tables : (base s new).schemas ≡ (base s old).schemas =
        ap (λ (d : Database). d.schemas) beside.base_is ∙ schemas_stay (base s old) beside.others
        (of_rows (base s old).schemas beside.others (beside.leaves Tables tt)) in
        record {
          named = ap (λ (ss : List Schema). table_place ss name) tables ∙ r.named;
          there = ap (λ (ss : List Schema). slice_get ss n) tables ∙ r.there;
          unrefused = ap (λ (ss : List Schema). refusal ss (Insert name names tuples)) tables ∙ r.unrefused;
          rows = r.rows;
          own_is = owns ∙ (r.own_is ∙ ap (λ (cs : List Change). reverse made ++ cs) (sym before));
          goes =
              subst (λ (cs : List Change). Stands (resting cs None) (λ d. GoesOnWith statement d made (outcome (Insert name names tuples))) (base s new))
              (sym owns)
              (subst (Stands (resting (own s old) None) (λ d. GoesOnWith statement d made (outcome (Insert name names tuples)))) (sym beside.base_is)
              (stands_then (resting (own s old) None) (λ d. GoesOnWith statement d made (outcome (Insert name names tuples))) (base s old) beside.others
              r.goes beside.leaves));
        }

-- ---- what is kept

tied : (o : Ordering) → is_eq o ≡ true → o ≡ Equal
tied Less e = cc
tied Equal e = refl
tied Greater e = cc

-- With the place of the row that is told all is kept that the rest goes on by, and with the place of the row that is there all that the refusal rests on.
module _ (keeps : Claim → Type 0) (schemas : List Schema) (n : ℕ) (schema : Schema) (row : List Value) (there : slice_get schemas n ≡ Some schema)
    (changes : List Change) (kept : (claim : Claim) → RestsOn schemas (resting changes None) claim → keeps claim)
    (mine : keeps (Row (n, key_of schema row))) where
  pub kept_told : (claim : Claim) → RestsOn schemas (resting (Put n row ∷ changes) None) claim → keeps claim
  kept_told Tables rests = kept Tables tt
  kept_told (Row place) (inl touched) =
      elim (is_change_at schemas place (Put n row))
      as (λ b. is_change_at schemas place (Put n row) ≡ b → (b || touches schemas changes place) ≡ true → keeps (Row place)) [
        | true ↦ λ is e.
            let same : place ≡ (n, key_in schemas n row) = place_cmp-IsAntisymmetric place (n, key_in schemas n row)
            (tied (place_cmp place (n, key_in schemas n row)) is) in
            subst (λ (p : Place). keeps (Row p)) (sym (same ∙ ap (λ (k : Value). (n, k)) (key_in-at schemas n schema row there))) mine
        | false ↦ λ not e. kept (Row place) (inl e)
      ] refl touched
  kept_told (Row place) (inr at) = (let none : None ≡ Some place = at in cc)
  kept_told (Rows name condition) rests = absurd rests

  same_place : (a b : Place) → Some a ≡ Some b → a ≡ b
  same_place a b e = cc

  pub kept_taken : (claim : Claim) → RestsOn schemas (resting changes (Some (n, key_of schema row))) claim → keeps claim
  kept_taken Tables rests = kept Tables tt
  kept_taken (Row place) (inl touched) = kept (Row place) (inl touched)
  kept_taken (Row place) (inr at) = subst (λ (p : Place). keeps (Row p)) (same_place (n, key_of schema row) place at) mine
  kept_taken (Rows name condition) rests = absurd rests
