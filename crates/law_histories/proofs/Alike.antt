-- Languages in which a text is read as one statement, up to what no history tells apart.
use Rattle.std.proofs.Common.{◌≡◌, ◌∙◌, ap, sym, subst, refl, ℕ, Bool, true, false, List, ◌⊎◌}
use Rattle.inno_types.specs.declared.stmt.Stmt.{Stmt}
use Rattle.inno_types.specs.declared.stmt.Stmt.TheVariants as stmt
use Rattle.inno_db.specs.Database.{Database}
use Rattle.inno_db.specs.Outcome.{outcome}
use Rattle.inno_model.specs.declared.event.Event.{Event}
use Rattle.inno_model.specs.Past.{under_way, did, begins_txn}
use Rattle.sql_history.specs.Items.{Language, Asks}
use Rattle.sql_history.specs.Settings.{Setting, set_by}
use Rattle.sql_history.specs.Statements.{is_on_rows, is_select}
use Rattle.sql_history.specs.Waiting.{is_victim}
use Rattle.sql_history.specs.Legal.{BeginsBy, CommitsBy, IsSettled, UndoesBy, RollsBackBy, is_alone, ChangesBy}

-- They answer alike over every database, and are the same but for how their conditions and expressions lie.
pub record Alike (a b : Stmt) : Type 0 where
  pub rows : is_on_rows a ≡ is_on_rows b
  pub select : is_select a ≡ is_select b
  pub answers : (db : Database) → outcome a db ≡ outcome b db
  pub same : is_on_rows a ≡ false → a ≡ b

-- each text is read as one statement
abbrev pub ReadsOne : Language → Type 0
ReadsOne says = (text : List ℕ) (a b : Stmt) → says text a → says text b → Alike a b

module _ (says : Language) (one : ReadsOne says) where
  pub asked : (s : ℕ) (a b : Stmt) (past older : List Event) → under_way s older ≡ under_way s past → Asks says s a older → Asks says s b past → Alike a b
  asked s a b past older same p q =
      let text : p.0 ≡ q.0 = (let x = p.1 in let y = q.1 in cc) in
      one p.0 a b p.2 (subst (λ (t : List ℕ). says t b) (sym text) q.2)

-- a statement on rows sets nothing
pub sets_nothing : (a : Stmt) (made : ℕ) (is_open : Bool) (before : Setting) → is_on_rows a ≡ true → set_by a made is_open before ≡ before
sets_nothing (stmt.Select selected table condition lock) made is_open before rows = refl
sets_nothing (stmt.Insert table columns tuples) made is_open before rows = refl
sets_nothing (stmt.Update table sets condition) made is_open before rows = refl
sets_nothing (stmt.Delete table condition) made is_open before rows = refl
sets_nothing other made is_open before rows = absurd (cc)

pub alike_set : (a b : Stmt) (made : ℕ) (is_open : Bool) (before : Setting) → Alike a b → set_by a made is_open before ≡ set_by b made is_open before
alike_set a b made is_open before alike =
    elim (is_on_rows a) as (λ r. is_on_rows a ≡ r → set_by a made is_open before ≡ set_by b made is_open before) [
      | true ↦ λ is. sets_nothing a made is_open before is ∙ sym (sets_nothing b made is_open before (sym alike.rows ∙ is))
      | false ↦ λ is. ap (λ x. set_by x made is_open before) (alike.same is)
    ] refl

-- ---- what may be done for a statement on rows

pub commits_rows : (s : ℕ) (setting : Setting) (a : Stmt) (past : List Event) → is_on_rows a ≡ true → CommitsBy s setting a past → IsSettled s setting a past
commits_rows s setting (stmt.Select selected table condition lock) past rows by = by.1
commits_rows s setting (stmt.Insert table columns tuples) past rows by = by.1
commits_rows s setting (stmt.Update table sets condition) past rows by = by.1
commits_rows s setting (stmt.Delete table condition) past rows by = by.1
commits_rows s setting other past rows by = absurd (cc)

pub rolls_back_rows : (s : ℕ) (setting : Setting) (a : Stmt) (past : List Event) → is_on_rows a ≡ true → RollsBackBy s setting a past
    → (did is_victim s past ≡ true) ⊎ (is_alone s setting past ≡ true)
rolls_back_rows s setting (stmt.Select selected table condition lock) past rows by = by.1
rolls_back_rows s setting (stmt.Insert table columns tuples) past rows by = by.1
rolls_back_rows s setting (stmt.Update table sets condition) past rows by = by.1
rolls_back_rows s setting (stmt.Delete table condition) past rows by = by.1
rolls_back_rows s setting other past rows by = absurd (cc)

-- a SELECT changes nothing
pub select_changes : (s : ℕ) (a : Stmt) (past : List Event) → is_select a ≡ true → ChangesBy s a past → ⊥
select_changes s (stmt.Select selected table condition lock) past select by = by
select_changes s other past select by = absurd (cc)

-- ---- what leaves its session's changes to the transaction that was open

abbrev pub keeps_changes : Stmt → Bool
keeps_changes (stmt.CreateTable table if_not_exists definitions) = true
keeps_changes (stmt.Begin snapshot) = true
keeps_changes stmt.Commit = true
keeps_changes (stmt.SetAutocommit on) = true
keeps_changes (stmt.SetLevel scope level) = true
keeps_changes other = false

pub keeper_apart : (a : Stmt) → keeps_changes a ≡ true → is_on_rows a ≡ false
keeper_apart (stmt.CreateTable table if_not_exists definitions) keeps = refl
keeper_apart (stmt.Begin snapshot) keeps = refl
keeper_apart stmt.Commit keeps = refl
keeper_apart (stmt.SetAutocommit on) keeps = refl
keeper_apart (stmt.SetLevel scope level) keeps = refl
keeper_apart other keeps = absurd (cc)

pub keeper_changes : (s : ℕ) (a : Stmt) (past : List Event) → keeps_changes a ≡ true → did begins_txn s past ≡ false → ChangesBy s a past → ⊥
keeper_changes s (stmt.CreateTable table if_not_exists definitions) past keeps not by = (cc)
keeper_changes s (stmt.Begin snapshot) past keeps not by = by
keeper_changes s stmt.Commit past keeps not by = by
keeper_changes s (stmt.SetAutocommit on) past keeps not by = by
keeper_changes s (stmt.SetLevel scope level) past keeps not by = by
keeper_changes s other past keeps not by = absurd (cc)

pub keeper_undoes : (s keep : ℕ) (setting : Setting) (a : Stmt) (past : List Event) → keeps_changes a ≡ true → did begins_txn s past ≡ false
    → UndoesBy s keep setting a past → ⊥
keeper_undoes s keep setting (stmt.CreateTable table if_not_exists definitions) past keeps not by = (cc)
keeper_undoes s keep setting (stmt.Begin snapshot) past keeps not by = (let x = by.0 in cc)
keeper_undoes s keep setting stmt.Commit past keeps not by = (let x = by.0 in cc)
keeper_undoes s keep setting (stmt.SetAutocommit on) past keeps not by = (let x = by.0 in cc)
keeper_undoes s keep setting (stmt.SetLevel scope level) past keeps not by = (let x = by.0 in cc)
keeper_undoes s keep setting other past keeps not by = absurd (cc)

-- COMMIT and SET begin nothing
abbrev pub never_begins : Stmt → Bool
never_begins stmt.Commit = true
never_begins (stmt.SetAutocommit on) = true
never_begins other = false

pub never_begun : (s : ℕ) (setting : Setting) (a : Stmt) (past : List Event) → never_begins a ≡ true → BeginsBy s setting a past → ⊥
never_begun s setting stmt.Commit past never by = (cc)
never_begun s setting (stmt.SetAutocommit on) past never by = (cc)
never_begun s setting other past never by = absurd (cc)
