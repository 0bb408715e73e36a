-- When the entries by which a table is made may come, by the rules of SQL.
-- `make_table` asks for it, and its callers' contracts cite what comes where no memory is found.
use Rattle.std.specs.Prelude.{◌⊎◌, ℕ, ◌+◌, List, None}
use Rattle.inno_types.specs.{declared.lock.Level.Level, declared.value.Schema.Schema}
use Rattle.inno_db.specs.declared.change.Change.TheVariants.{Create}
use Rattle.inno_model.specs.{declared.event.Event.Event, Past.begins}
use Rattle.sql_grammar.specs.Grammar.{Spells}
use Rattle.sql_history.specs.Legal.{MayBegin, MayChange, MayCommit, MayRollBack}
use Rattle.shared_lists.specs.{Tasks.Idle, State.State, State.IsNow, State.Stays, Tables.begun, Tables.created_by, Tables.none_made}

-- each of these entries may come
pub record MayMake (s : ℕ) (l : Level) (schema : Schema) (past : List Event) : Type 0 where
  pub may_begin : MayBegin Spells s (begins past + 1) l past
  pub may_create : MayChange Spells s (Create schema) (begun s l past)
  pub may_commit : MayCommit Spells s (created_by s l schema past)
  pub may_roll_back : MayRollBack Spells s (begun s l past)

-- no memory was found: nothing has changed, or a transaction began that made nothing
abbrev pub MakesNone : ℕ → Level → State → State → Type 0
MakesNone s l old new = Stays s old new ⊎ IsNow (none_made s l old.past) s Idle None old new
