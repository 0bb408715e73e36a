-- What a session has set for itself by its statements: autocommit, the levels of its transactions, and its savepoints.
use Rattle.std.specs.Prelude.{◌≡◌, ℕ, ◌==◌, List, [], ◌∷◌, Bool, true, false, not, if◌then◌else◌, filter, length, Option, Some, None, is_some, bytes_eq}
use Rattle.inno_types.specs.declared.lock.Level.{Level}
use Rattle.inno_types.specs.declared.lock.Level.TheVariants.{RepeatableRead}
use Rattle.inno_types.specs.declared.stmt.Stmt.{Stmt}
use Rattle.inno_types.specs.declared.stmt.Stmt.TheVariants as stmt
use Rattle.inno_types.specs.declared.stmt.LevelScope.TheVariants.{Session, NextTransaction}
use Rattle.inno_types.specs.declared.reply.Item.{Item}
use Rattle.inno_types.specs.declared.reply.Item.TheVariants.{Sql}
use Rattle.inno_types.specs.declared.reply.Reply.{Reply}
use Rattle.inno_types.specs.declared.reply.Reply.TheVariants.{Done}
use Rattle.inno_model.specs.declared.event.Event.{Event}
use Rattle.inno_model.specs.declared.event.Event.TheVariants.{Begin, Ended, Committed, RolledBack}
use Rattle.inno_model.specs.Past.{level, own, under_way}
use Rattle.sql_history.specs.declared.settings.Save.{Save}
use Rattle.sql_history.specs.Items.{Language}

pub record Setting : Type 0 where
  pub autocommit : Bool
  -- the level of the later transactions, and that of the next one alone
  pub later : Level
  pub next : Option Level
  -- the newest first
  pub saves : List Save

-- what holds of a session that has set nothing
abbrev pub at_first : Setting
at_first = record { autocommit = true; later = RepeatableRead; next = None; saves = [] }

-- the level of a transaction that begins now
abbrev pub level_next : Option Level → Level → Level
level_next (Some level) later = level
level_next None later = later

abbrev pub next_level : Setting → Level
next_level setting = level_next setting.next setting.later

-- the savepoints without the one of this name
abbrev pub without : List ℕ → List Save → List Save
without name saves = filter (λ save. not (bytes_eq save.name name)) saves

-- the savepoint of this name and those before it
abbrev pub back_to : List ℕ → List Save → List Save
back_to name [] = []
back_to name (save ∷ saves) = if bytes_eq save.name name then save ∷ saves else back_to name saves

-- how many changes the transaction had made at the savepoint
abbrev pub made_at : List ℕ → List Save → Option ℕ
made_at name [] = None
made_at name (save ∷ saves) = if bytes_eq save.name name then Some save.made else made_at name saves

-- a savepoint is kept in a transaction alone, and takes the place of an older one of its name
abbrev pub saved : List ℕ → ℕ → Bool → List Save → List Save
saved name made true saves = record { name = name; made = made } ∷ without name saves
saved name made false saves = saves

-- what a statement that was done makes of what its session has set; its transaction, if one is open, has so many changes
abbrev pub set_by : Stmt → ℕ → Bool → Setting → Setting
set_by (stmt.SetAutocommit on) made is_open setting = record setting { autocommit = on }
set_by (stmt.SetLevel Session level) made is_open setting = record setting { later = level }
set_by (stmt.SetLevel NextTransaction level) made is_open setting = record setting { next = Some level }
set_by (stmt.Savepoint name) made is_open setting = record setting { saves = saved name made is_open setting.saves }
set_by (stmt.RollbackTo name) made is_open setting = record setting { saves = back_to name setting.saves }
set_by other made is_open setting = setting

-- a transaction that begins uses up the level of the next one
abbrev pub at_begin : Setting → Setting
at_begin setting = record setting { next = None; saves = [] }

-- a transaction's end drops its savepoints
abbrev pub at_end : Setting → Setting
at_end setting = record setting { saves = [] }

-- of an entry of the session the one holds, of an entry of another the other
abbrev pub IfOwn : Bool → Type 0 → Type 0 → Type 0
IfOwn true mine other = mine
IfOwn false mine other = other

-- What an item makes of it that ended so: only a statement that was done sets anything.
abbrev pub SetByItem : Language → Option Item → Reply → ℕ → Bool → Setting → Setting → Type 0
SetByItem says (Some (Sql text)) Done made is_open before after = (statement : Stmt) × says text statement × (after ≡ set_by statement made is_open before)
SetByItem says item reply made is_open before after = after ≡ before

-- what the session has set
abbrev pub HasSet : Language → ℕ → List Event → Setting → Type 0
HasSet says s [] setting = setting ≡ at_first
HasSet says s (Begin t n l ∷ past) setting =
    IfOwn (t == s) ((before : Setting) × HasSet says s past before × (setting ≡ at_begin before)) (HasSet says s past setting)
HasSet says s (Committed t ∷ past) setting =
    IfOwn (t == s) ((before : Setting) × HasSet says s past before × (setting ≡ at_end before)) (HasSet says s past setting)
HasSet says s (RolledBack t ∷ past) setting =
    IfOwn (t == s) ((before : Setting) × HasSet says s past before × (setting ≡ at_end before)) (HasSet says s past setting)
HasSet says s (Ended t j reply ∷ past) setting =
    IfOwn (t == s) ((before : Setting) × HasSet says s past before × SetByItem says (under_way s past) reply (length (own s past)) (is_some (level s past))
    before setting) (HasSet says s past setting)
HasSet says s (other ∷ past) setting = HasSet says s past setting
