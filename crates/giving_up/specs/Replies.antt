-- Why a statement that changes rows may reply so, and what its reply rests on.
use Rattle.std.specs.Prelude.{◌≡◌, ◌⊎◌, ℕ, ◌+◌, ◌<◌, Bool, true, false, not, Option, List, length, take}
use Rattle.inno_types.specs.declared.stmt.Stmt.{Stmt}
use Rattle.inno_types.specs.declared.stmt.Stmt.TheVariants as stmt
use Rattle.inno_types.specs.declared.reply.Reply.{Reply}
use Rattle.inno_types.specs.declared.reply.Reply.TheVariants as replies
use Rattle.inno_db.specs.Database.{Database, Place}
use Rattle.inno_db.specs.Outcome.{outcome}
use Rattle.inno_model.specs.declared.event.Event.{Event}
use Rattle.inno_model.specs.Moments.{Sometime}
use Rattle.inno_model.specs.Past.{own, IsOpen}
use Rattle.sql_history.specs.Items.{base, point, HasMade}
use Rattle.sql_history.specs.Counts.{rows_kept, most_rows}
use Rattle.sql_history.specs.Legal.{LacksPages}
use Rattle.law_histories.specs.Space.{is_of_pages}
use Rattle.law_db.specs.Beside.{touches}
use Rattle.law_claims.specs.Claims.{Basis, KeepsBasis, Stands}

-- an error that the statement itself has on its database
abbrev pub is_refusal : Reply → Bool
is_refusal (replies.Fail error) = not (is_of_pages error)
is_refusal other = false

abbrev pub is_count : Reply → Bool
is_count (replies.Count n) = true
is_count other = false

-- the statement puts rows
abbrev pub PutsRows : Stmt → Type 0
PutsRows (stmt.Insert table columns tuples) = Unit {0}
PutsRows (stmt.Update table sets condition) = Unit {0}
PutsRows other = ⊥

-- Why a statement may reply so that has made so many of its changes.
abbrev pub MayAnswer : ℕ → Stmt → ℕ → Reply → List Event → Type 0
MayAnswer s statement count (replies.Count n) past =
    (replies.Count n ≡ (outcome statement (base s (point s past))).reply) × (count ≡ length (outcome statement (base s (point s past))).changes)
MayAnswer s statement count (replies.Fail error) past =
    ((is_of_pages error ≡ false) × (replies.Fail error ≡ (outcome statement (base s (point s past))).reply)) ⊎ LacksPages error
MayAnswer s statement count replies.NoMemory past = Unit {0}
MayAnswer s statement count (replies.RunLimit rows) past = (most_rows < rows) × PutsRows statement × Sometime (λ h. rows ≡ rows_kept h + 1) s past
MayAnswer s statement count other past = ⊥

-- At its point its transaction was open, and it had made so many of its changes.
pub record HasReply (s : ℕ) (statement : Stmt) (kept : Reply) (past : List Event) : Type 0 where
  pub was_open : IsOpen s (point s past)
  pub count : ℕ
  pub made : HasMade count s (outcome statement (base s (point s past))).changes (point s past)
  pub answers : MayAnswer s statement count kept past

-- ---- what a reply rests on

-- the first so many changes, and the refusal if it is one
pub record AnswersAlike (count : ℕ) (kept : Reply) (statement : Stmt) (some other : Database) : Type 0 where
  pub changes : take count (outcome statement some).changes ≡ take count (outcome statement other).changes
  pub reply : is_refusal kept ≡ true → (outcome statement some).reply ≡ (outcome statement other).reply

-- what the reply of a statement that has made so many changes rests on is kept
pub record KeepsReply (s count : ℕ) (kept : Reply) (statement : Stmt) (past : List Event) (writer : Option ℕ) : Type 0 where
  pub basis : Basis
  pub keeps : KeepsBasis s (base s past).schemas basis past writer
  pub among : (place : Place) → touches (base s past).schemas (own s past) place ≡ true → touches (base s past).schemas basis.changes place ≡ true
  pub stands : Stands basis (λ db. AnswersAlike count kept statement db (base s past)) (base s past)
