-- Each table of a legal history was there at the opening, or was declared, or is made by a transaction that is still open.
use Rattle.std.proofs.Common.{◌≡◌, refl, sym, subst, ap, ℕ, ◌-◌, false, List, [], ◌∷◌, length, drop, inl, inr, ◌⊎◌, arith}
use Rattle.std.specs.Prelude.{All}
use Rattle.std.specs.List.{list_any}
use Rattle.std.proofs.lemmas.Bool.Decides.{Decides-eqb}
use Rattle.std.proofs.lemmas.List.Elements.{All-nil, All-push, All-weaker}
use Rattle.inno_types.specs.declared.value.Schema.{Schema}
use Rattle.inno_db.specs.declared.change.Change.{Change}
use Rattle.inno_db.specs.declared.change.Change.TheVariants.{Create, Put, Remove}
use Rattle.inno_model.specs.declared.event.Event.{Event}
use Rattle.inno_model.specs.declared.event.Event.TheVariants.{Opened, Begin, Changed, Undone, Committed, RolledBack}
use Rattle.inno_model.specs.Past.{own, oldest, opening}
use Rattle.sql_history.specs.Items.{Language}
use Rattle.sql_history.specs.Legal.{IsLegal, MayCommit}
use Rattle.law_past_agreement.specs.Order.{created, is_creation, IsUndoable, MayCome, IsOrdered}
use Rattle.law_histories.proofs.Alike.{ReadsOne}
use Rattle.law_histories.proofs.Entries.{by_session, closed_own}
use Rattle.law_logged_histories.specs.Creations.{HasNoOpenCreation}
use Rattle.law_logged_histories.proofs.Outcomes.{MakeOnly}
use Rattle.law_logged_histories.proofs.Ends.{DeclareOnly}
use Rattle.law_logged_histories.proofs.Kept.{commits_declared}

-- the changes make this table
abbrev Make : Schema → List Change → Type 0
Make schema [] = ⊥
Make schema (Create other ∷ changes) = (other ≡ schema) ⊎ Make schema changes
Make schema (change ∷ changes) = Make schema changes

make_more : (schema : Schema) (change : Change) (changes : List Change) → Make schema changes → Make schema (change ∷ changes)
make_more schema (Create other) changes made = inr made
make_more schema (Put table row) changes made = made
make_more schema (Remove table key) changes made = made

none_made : (schema : Schema) (changes : List Change) → list_any is_creation changes ≡ false → Make schema changes → ⊥
none_made schema [] none made = made
none_made schema (Create other ∷ changes) none made = (cc)
none_made schema (Put table row ∷ changes) none made = none_made schema changes none made
none_made schema (Remove table key ∷ changes) none made = none_made schema changes none made

oldest_rest : (keep : ℕ) (change : Change) (before : List Change) → length before ≡ keep → oldest keep (change ∷ before) ≡ before
oldest_rest keep change before same =
    let one : length (change ∷ before) - keep ≡ 1 = omega (arith, same) in ap (λ n. drop n (change ∷ before)) one

-- a change of a row that is put back was no table's making
undone_make : (schema : Schema) (keep : ℕ) (changes : List Change) → IsUndoable keep changes → Make schema changes → Make schema (oldest keep changes)
undone_make schema keep [] undoes made = absurd undoes
undone_make schema keep (Create other ∷ before) undoes made = absurd undoes.0
undone_make schema keep (Put table row ∷ before) undoes made =
    subst (Make schema) (sym (oldest_rest keep (Put table row) before undoes.1)) made
undone_make schema keep (Remove table key ∷ before) undoes made =
    subst (Make schema) (sym (oldest_rest keep (Remove table key) before undoes.1)) made

module _ (says : Language) (P : Schema → Type 0) (declare : DeclareOnly says P) (one : ReadsOne says) where
  made_is : (schema : Schema) (changes : List Change) → MakeOnly P changes → Make schema changes → P schema
  made_is schema [] only made = absurd made
  made_is schema (Create other ∷ changes) only (inl same) = subst P same only.0
  made_is schema (Create other ∷ changes) only (inr made) = made_is schema changes only.1 made
  made_is schema (Put table row ∷ changes) only made = made_is schema changes only.1 made
  made_is schema (Remove table key ∷ changes) only made = made_is schema changes only.1 made

  -- the table is so, or an open transaction has made it
  abbrev IsMet : List Event → Schema → Type 0
  IsMet past schema = P schema ⊎ ((s : ℕ) × Make schema (own s past))

  none_open : {A : Type 0} (schema : Schema) (s t : ℕ) (past : List Event) → t ≡ s → own t past ≡ [] → Make schema (own s past) → A
  none_open schema s t past same none made = absurd (subst (Make schema) (subst (λ u. own u past ≡ []) same none) made)

  stays_met : (e : Event) (past : List Event) → IsLegal says (e ∷ past) → MayCome past e → (schema : Schema) → IsMet past schema → IsMet (e ∷ past) schema
  stays_met e past legal may schema (inl so) = inl so
  stays_met (Begin t n l) past legal may schema (inr by) =
      by_session t by.0 (λ is same. none_open schema by.0 t past same (closed_own says t past legal.1 may.1) by.1) (λ is. inr (by.0, rw is by.1))
  stays_met (Changed t change) past legal may schema (inr by) =
      by_session t by.0 (λ is same. inr (by.0, rw is (make_more schema change (own by.0 past) by.1))) (λ is. inr (by.0, rw is by.1))
  stays_met (Undone t keep) past legal may schema (inr by) =
      by_session t by.0
      (λ is same. inr (by.0, rw is (undone_make schema keep (own by.0 past) (subst (λ u. IsUndoable keep (own u past)) same may.1) by.1)))
      (λ is. inr (by.0, rw is by.1))
  stays_met (Committed t) past legal may schema (inr by) =
      by_session t by.0
      (λ is same. inl (made_is schema (own by.0 past)
      (commits_declared says P declare one by.0 past legal.1 (subst (λ u. MayCommit says u past) same legal.0.2)) by.1))
      (λ is. inr (by.0, rw is by.1))
  stays_met (RolledBack t) past legal may schema (inr by) =
      by_session t by.0 (λ is same. none_open schema by.0 t past same may.1 by.1) (λ is. inr (by.0, rw is by.1))
  stays_met e past legal may schema (inr by) = inr by

  all_stay : (e : Event) (past : List Event) → IsLegal says (e ∷ past) → IsOrdered (e ∷ past) → All (IsMet past) (created past)
      → All (IsMet (e ∷ past)) (created past)
  all_stay e past legal ordered all = All-weaker (IsMet past) (IsMet (e ∷ past)) (stays_met e past legal ordered.0) (created past) all

  all_met : (past : List Event) → IsLegal says past → IsOrdered past → All P (opening past).schemas → All (IsMet past) (created past)
  all_met [] legal ordered all = All-nil (IsMet [])
  all_met (Opened db ∷ past) legal ordered all = All-weaker P (IsMet (Opened db ∷ past)) (λ schema so. inl so) db.schemas all
  all_met (Changed s (Create schema) ∷ past) legal ordered all =
      let e = Changed s (Create schema) in
      All-push (IsMet (e ∷ past)) (created past) schema (all_stay e past legal ordered (all_met past legal.1 ordered.1 all))
      (inr (s, rw ((Decides-eqb s s).1 refl) (inl refl)))
  all_met (e ∷ past) legal ordered all = all_stay e past legal ordered (all_met past legal.1 ordered.1 all)

  pub tables_declared : (past : List Event) → IsLegal says past → IsOrdered past → HasNoOpenCreation past → All P (opening past).schemas
      → All P (created past)
  tables_declared past legal ordered none all =
      All-weaker (IsMet past) P
      (λ schema met. elim met [ inl so ↦ so | inr by ↦ absurd (none_made schema (own by.0 past) (none by.0) by.1) ]) (created past)
      (all_met past legal ordered all)
