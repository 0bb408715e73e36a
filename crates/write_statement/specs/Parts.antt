-- The parts of a statement. An INSERT has one for each of its tuples, any other statement has one.
use Rattle.std.specs.Prelude.{◌≡◌, ℕ, ◌≤◌, nat_lt, Bool, false, None, List, [], ◌∷◌, ◌++◌, length, reverse}
use Rattle.inno_types.specs.declared.value.Schema.{Schema}
use Rattle.inno_types.specs.declared.stmt.Literal.{Literal}
use Rattle.inno_types.specs.declared.stmt.Stmt.{Stmt}
use Rattle.inno_types.specs.declared.stmt.Stmt.TheVariants as stmt
use Rattle.inno_db.specs.declared.outcome.Outcome.{Outcome}
use Rattle.inno_db.specs.Database.{Database}
use Rattle.inno_db.specs.Changes.{apply}
use Rattle.inno_db.specs.declared.change.Change.{Change}
use Rattle.inno_db.specs.Outcome.{outcome, counted, nothing}
use Rattle.inno_db.specs.Refusals.{refusal}
use Rattle.write_statement.specs.Following.{counted_on}
use Rattle.write_statement.specs.declared.machine.Part.{Part}

abbrev pub tuples_of : Stmt → ℕ
tuples_of (stmt.Insert table columns tuples) = length tuples
tuples_of other = 0

-- an INSERT of several tuples
abbrev pub has_parts : Stmt → Bool
has_parts (stmt.Insert table columns tuples) = nat_lt 1 (length tuples)
has_parts other = false

-- an INSERT with this tuple alone
abbrev pub with_tuple : List Literal → Stmt → Stmt
with_tuple tuple (stmt.Insert table columns tuples) = stmt.Insert table columns (tuple ∷ [])
with_tuple tuple other = other

-- a part, and the tuples behind it
abbrev pub left_of : Stmt → List (List Literal) → Stmt
left_of statement [] = statement
left_of (stmt.Insert table columns tuples) (tuple ∷ later) = stmt.Insert table columns (tuples ++ tuple ∷ later)
left_of other (tuple ∷ later) = other

-- nothing is left
abbrev pub nothing_left : Database → Outcome
nothing_left db = counted nothing

-- the outcome of what comes behind a part
abbrev pub rest_of : Stmt → List (List Literal) → Database → Outcome
rest_of statement [] = nothing_left
rest_of (stmt.Insert table columns tuples) (tuple ∷ later) = outcome (stmt.Insert table columns (tuple ∷ later))
rest_of other (tuple ∷ later) = nothing_left

-- Where tuples come behind a part, it is an INSERT of one tuple, and no part is one of several. With what comes behind it its text and
-- the tables don't refuse it.
abbrev pub IsCut : List Schema → Stmt → List (List Literal) → Type 0
IsCut schemas statement [] = (has_parts statement ≡ false) × (refusal schemas statement ≡ None)
IsCut schemas (stmt.Insert table columns (tuple ∷ [])) (next ∷ later) = refusal schemas (stmt.Insert table columns (tuple ∷ next ∷ later)) ≡ None
IsCut schemas other (next ∷ later) = ⊥

-- the tuples behind a part, the next one first
abbrev pub behind : Part → List (List Literal)
behind part = reverse part.later.items

-- the outcome of a part and all that comes behind it
abbrev pub of_part : Part → Database → Outcome
of_part part = outcome (left_of part.stmt (behind part))

-- the outcome of all that comes behind a part
abbrev pub of_rest : Part → Database → Outcome
of_rest part = rest_of part.stmt (behind part)

pub record IsFirstPart (schemas : List Schema) (statement : Stmt) (table : ℕ) (alone : Bool) (before : ℕ) (part : Part) : Type 0 where
  pub table_is : part.table ≡ table
  pub alone_is : part.alone ≡ alone
  pub before_is : part.before ≡ before
  pub left : left_of part.stmt (behind part) ≡ statement
  pub cut : IsCut schemas part.stmt (behind part)
  pub fewer : length part.later.items ≤ tuples_of statement

-- Over a database, behind these changes, the outcome of the whole goes on with that of what comes next.
pub record GoesOnWith (statement : Stmt) (db : Database) (made : List Change) (next : Database → Outcome) : Type 0 where
  pub changes : (outcome statement db).changes ≡ made ++ (next (apply db made)).changes
  pub reply : (outcome statement db).reply ≡ counted_on (length made) (next (apply db made)).reply
