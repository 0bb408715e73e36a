-- An INSERT that is worked off tuple by tuple, each of them settled in the step that tells its row, or finds one there.
-- Whoever works off an INSERT under record locks is to keep it between tuples; the statement machine has no such step yet.
use Rattle.std.specs.Prelude.{◌≡◌, ℕ, List, ◌++◌, reverse, Option, Some, None, slice_get}
use Rattle.inno_types.specs.declared.value.Schema.{Schema}
use Rattle.inno_types.specs.declared.stmt.Literal.{Literal}
use Rattle.inno_types.specs.declared.stmt.Stmt.{Stmt}
use Rattle.inno_types.specs.declared.stmt.Stmt.TheVariants.{Insert}
use Rattle.inno_db.specs.declared.change.Change.{Change}
use Rattle.inno_db.specs.Database.{Place}
use Rattle.inno_db.specs.Names.{table_place}
use Rattle.inno_db.specs.Outcome.{outcome}
use Rattle.inno_db.specs.Refusals.{refusal}
use Rattle.inno_model.specs.declared.event.Event.{Event}
use Rattle.inno_model.specs.Past.{own}
use Rattle.sql_history.specs.Items.{own_before, base}
use Rattle.law_db.specs.Beside.{AreOfRows}
use Rattle.law_claims.specs.Claims.{Basis, Stands}
use Rattle.write_statement.specs.Parts.{GoesOnWith}

-- What an INSERT rests on amid its tuples: the places of its session's changes, and the row for which a tuple was refused.
abbrev pub resting : List Change → Option Place → Basis
resting changes refused = record { changes = changes; searched = None; refused_at = refused }

-- Over what it acts on its outcome goes on, behind the changes that it has made, with that of the tuples left.
pub record IsInserting (statement : Stmt) (name : List ℕ) (names : Option (List (List ℕ))) (n : ℕ) (schema : Schema) (s : ℕ) (made : List Change)
    (tuples : List (List Literal)) (past : List Event) : Type 0 where
  pub named : table_place (base s past).schemas name ≡ Some n
  pub there : slice_get (base s past).schemas n ≡ Some schema
  pub unrefused : refusal (base s past).schemas (Insert name names tuples) ≡ None
  pub rows : AreOfRows made
  pub own_is : own s past ≡ reverse made ++ own_before s past
  pub goes : Stands (resting (own s past) None) (λ db. GoesOnWith statement db made (outcome (Insert name names tuples))) (base s past)
