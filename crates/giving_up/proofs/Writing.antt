-- Statements that change rows: what they see, and what of them never comes.
use Rattle.std.proofs.Common.{◌≡◌, ◌∙◌, ℕ, true, false, Option, Some, None, List, [], ◌∷◌, refl, sym, ap, inl, inr}
use Rattle.std.proofs.lemmas.Bool.{false≢true}
use Rattle.std.specs.Prelude.{is_some}
use Rattle.inno_types.specs.declared.stmt.Stmt.{Stmt}
use Rattle.inno_types.specs.declared.stmt.Stmt.TheVariants as stmt
use Rattle.inno_types.specs.declared.stmt.Filter.{Filter}
use Rattle.inno_types.specs.declared.stmt.Literal.{Literal}
use Rattle.inno_types.specs.declared.stmt.Set.{Set}
use Rattle.inno_types.specs.declared.lock.Level.{Level}
use Rattle.inno_types.specs.declared.lock.Level.TheVariants.{ReadUncommitted, ReadCommitted, RepeatableRead, Serializable}
use Rattle.inno_db.specs.declared.change.Change.{Change}
use Rattle.inno_db.specs.Database.{Database, Place}
use Rattle.inno_db.specs.Outcome.{outcome}
use Rattle.inno_db.specs.Changes.{place_of}
use Rattle.inno_model.specs.Past.{level, IsOpen, IsClosed}
use Rattle.inno_model.specs.declared.event.Event.{Event}
use Rattle.sql_history.specs.Items.{base}
use Rattle.sql_history.specs.Settings.{Setting}
use Rattle.sql_history.specs.Statements.{Sight, is_on_rows, locking_sight}
use Rattle.sql_history.specs.LooseReading.{IsLooseReading}
use Rattle.sql_history.specs.Answers.{MaySee, IsSameWhere, ChangesLatest}
use Rattle.sql_history.specs.Legal.{IsWriting, sight_in}

pub of_writing : (P : Stmt → Type 0)
    → ((table : List ℕ) (columns : Option (List (List ℕ))) (tuples : List (List Literal)) → P (stmt.Insert table columns tuples))
    → ((table : List ℕ) (sets : List Set) (condition : Option Filter) → P (stmt.Update table sets condition))
    → ((table : List ℕ) (condition : Option Filter) → P (stmt.Delete table condition)) → (statement : Stmt) → IsWriting statement → P statement
of_writing P insert update delete (stmt.Insert table columns tuples) writes = insert table columns tuples
of_writing P insert update delete (stmt.Update table sets condition) writes = update table sets condition
of_writing P insert update delete (stmt.Delete table condition) writes = delete table condition
of_writing P insert update delete other writes = absurd writes

pub on_rows : (statement : Stmt) → IsWriting statement → is_on_rows statement ≡ true
on_rows = of_writing (λ statement. is_on_rows statement ≡ true) (λ table columns tuples. refl) (λ table sets condition. refl) (λ table condition. refl)

-- ---- the latest rows

same_where : (db : Database) (place : Option Place) → IsSameWhere db db place
same_where db None = tt
same_where db (Some place) = refl

latest_itself : (db : Database) (changes : List Change) → ChangesLatest db db changes
latest_itself db [] = tt
latest_itself db (change ∷ changes) = (same_where db (place_of db.schemas change), latest_itself db changes)

reads_base : (s : ℕ) (at : List Event) → IsOpen s at → IsLooseReading s (base s) (λ place h. Unit {0}) (base s at) at
reads_base s [] is-open = absurd (false≢true is-open)
reads_base s (e ∷ past) is-open = record { tables = refl; still = λ place row was quiet. was.0; moved = λ place. inr (inl refl) }

-- a statement that reads rows at moments of its own may see the latest ones
sees_locking : (l : Level) (s : ℕ) (statement : Stmt) (at : List Event) → MaySee Sight.of_moments s statement (base s at) at
    → MaySee (locking_sight l) s statement (base s at) at
sees_locking ReadUncommitted s statement at sees = sees
sees_locking ReadCommitted s statement at sees = sees
sees_locking RepeatableRead s statement at sees = refl
sees_locking Serializable s statement at sees = refl

pub sees_base : (l : Level) (s : ℕ) (setting : Setting) (past at : List Event) → IsOpen s at → (statement : Stmt) → IsWriting statement
    → MaySee (sight_in l s setting statement past) s statement (base s at) at
sees_base l s setting past at is-open (stmt.Insert table columns tuples) writes = refl
sees_base l s setting past at is-open (stmt.Update table sets condition) writes =
    sees_locking l s (stmt.Update table sets condition) at
    (reads_base s at is-open, latest_itself (base s at) (outcome (stmt.Update table sets condition) (base s at)).changes)
sees_base l s setting past at is-open (stmt.Delete table condition) writes =
    sees_locking l s (stmt.Delete table condition) at
    (reads_base s at is-open, latest_itself (base s at) (outcome (stmt.Delete table condition) (base s at)).changes)
sees_base l s setting past at is-open other writes = absurd writes

locks_no_view : (l : Level) → locking_sight l ≡ Sight.of_view → ⊥
locks_no_view ReadUncommitted is = cc
locks_no_view ReadCommitted is = cc
locks_no_view RepeatableRead is = cc
locks_no_view Serializable is = cc

-- it reads by no view
pub no_view : (l : Level) (s : ℕ) (setting : Setting) (past : List Event) (statement : Stmt) → IsWriting statement
    → sight_in l s setting statement past ≡ Sight.of_view → ⊥
no_view l s setting past (stmt.Insert table columns tuples) writes is = cc
no_view l s setting past (stmt.Update table sets condition) writes is = locks_no_view l is
no_view l s setting past (stmt.Delete table condition) writes is = locks_no_view l is
no_view l s setting past other writes is = absurd writes

-- an open transaction has a level
pub some_of : {X : Type 0} (o : Option X) → is_some o ≡ true → (x : X) × (o ≡ Some x)
some_of None is = absurd (false≢true is)
some_of (Some x) is = (x, refl)

pub none_of : {X : Type 0} (o : Option X) → is_some o ≡ false → o ≡ None
none_of None is = refl
none_of (Some x) is = absurd (false≢true (sym is))

-- ---- what the lists tell of a session's transaction

pub closed_as_told : (s : ℕ) (past : List Event) (o : Option Level) → o ≡ level s past → is_some o ≡ false → IsClosed s past
closed_as_told s past o told none = sym told ∙ none_of o none

pub open_as_told : (s : ℕ) (past : List Event) (o : Option Level) → o ≡ level s past → is_some o ≡ true → IsOpen s past
open_as_told s past o told some = ap is_some (sym told) ∙ some
