-- A statement has the same outcome over a database with more tables.
-- What a statement names stands in both under one number (proofs/Names.antt); `Changes` and `Claims` go on from here.
use Rattle.std.proofs.Common.{◌≡◌, ◌∙◌, ap, sym, refl, ℕ, ◌<◌, true, List, [], ◌∷◌, length, Some, None}
use Rattle.std.specs.Prelude.{slice_get, filter}
use Rattle.inno_types.specs.declared.value.Value.{Value}
use Rattle.inno_types.specs.declared.value.Schema.{Schema}
use Rattle.inno_types.specs.declared.stmt.Stmt.{Stmt}
use Rattle.inno_types.specs.declared.stmt.Stmt.TheVariants as stmt
use Rattle.inno_db.specs.declared.outcome.Outcome.{Outcome}
use Rattle.inno_db.specs.Database.{Database, rows_of}
use Rattle.inno_db.specs.Names.{table_place}
use Rattle.inno_db.specs.Refusals.{refusal, select_refusal, insert_refusal, update_refusal, delete_refusal}
use Rattle.inno_db.specs.Outcome.{outcome, answer_to, on_rows, on_number, on_schema, select_answer, insert_answer, update_answer, delete_answer, unless_refused}
use Rattle.sql_history.specs.Statements.{is_on_rows}
use Rattle.law_db.specs.Beside.{passed}
use Rattle.law_db.proofs.Passing.{same_passing}
use Rattle.law_locked_work.specs.Wider.{Widens}
use Rattle.law_locked_work.proofs.Names.{place_within, place_stays, got_before, Found, found_of, unrefused_stays}

filter_all : (rows : List (List Value)) → filter (λ row. true) rows ≡ rows
filter_all [] = refl
filter_all (row ∷ rows) = ap (λ (rs : List (List Value)). row ∷ rs) (filter_all rows)

module _ (some wide : Database) (widens : Widens some wide) where
  -- the rows of each table that was there
  pub rows_wide : (n : ℕ) → n < length some.schemas → rows_of n wide ≡ rows_of n some
  rows_wide n within =
      sym (filter_all (rows_of n wide))
      ∙ (same_passing n (λ row. true) wide some (λ key. ap (passed (λ row. true)) (widens.rows (n, key) within)) ∙ filter_all (rows_of n some))

  on_rows_wide : (name : List ℕ) (answer : ℕ → Schema → List (List Value) → Outcome) → Found some.schemas name
      → on_rows wide name answer ≡ on_rows some name answer
  on_rows_wide name answer found =
      let at : table_place wide.schemas name ≡ Some found.n =
      ap (λ (ss : List Schema). table_place ss name) widens.tables ∙ place_stays some.schemas widens.more name found.n found.at in
      let is : slice_get wide.schemas found.n ≡ Some found.schema =
      ap (λ (ss : List Schema). slice_get ss found.n) widens.tables ∙ got_before some.schemas widens.more found.n found.schema found.is in
      ap (λ p. on_number wide p answer) at
      ∙ (ap (λ o. on_schema found.n o (rows_of found.n wide) answer) is
      ∙ (ap (λ (rows : List (List Value)). answer found.n found.schema rows) (rows_wide found.n (place_within some.schemas name found.n found.at))
      ∙ sym (ap (λ p. on_number some p answer) found.at ∙ ap (λ o. on_schema found.n o (rows_of found.n some) answer) found.is)))

  answer_wide : (statement : Stmt) → is_on_rows statement ≡ true → refusal some.schemas statement ≡ None → answer_to statement wide ≡ answer_to statement some
  answer_wide (stmt.Select selected name condition lock) rows none =
      on_rows_wide name (select_answer selected condition) (found_of some.schemas name (select_refusal selected condition) none)
  answer_wide (stmt.Insert name names tuples) rows none =
      on_rows_wide name (insert_answer names tuples) (found_of some.schemas name (insert_refusal names tuples) none)
  answer_wide (stmt.Update name sets condition) rows none =
      on_rows_wide name (update_answer sets condition) (found_of some.schemas name (update_refusal sets condition) none)
  answer_wide (stmt.Delete name condition) rows none =
      on_rows_wide name (delete_answer condition) (found_of some.schemas name (delete_refusal condition) none)
  answer_wide other rows none = absurd (cc)

  pub unrefused_wide : (statement : Stmt) → is_on_rows statement ≡ true → refusal some.schemas statement ≡ None → refusal wide.schemas statement ≡ None
  unrefused_wide statement rows none =
      ap (λ (ss : List Schema). refusal ss statement) widens.tables ∙ unrefused_stays some.schemas widens.more statement rows none

  pub outcome_wide : (statement : Stmt) → is_on_rows statement ≡ true → refusal some.schemas statement ≡ None → outcome statement wide ≡ outcome statement some
  outcome_wide statement rows none =
      ap (λ o. unless_refused o (answer_to statement wide)) (unrefused_wide statement rows none)
      ∙ (answer_wide statement rows none ∙ sym (ap (λ o. unless_refused o (answer_to statement some)) none))
