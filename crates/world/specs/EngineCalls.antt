-- What the calls of the engine change of a world.
use Rattle.std.specs.Prelude.{◌≡◌, ℕ, ◌+◌, ◌<◌, ◌≤◌, true, false, List, [], ◌∷◌, ◌++◌, length, None}
use Rattle.inno_types.specs.declared.value.Schema.{Schema}
use Rattle.inno_types.specs.declared.reply.Item.{Item}
use Rattle.inno_types.specs.declared.reply.Reply.{Reply}
use Rattle.inno_types.specs.declared.stmt.Stmt.{Stmt}
use Rattle.inno_db.specs.Database.{Database}
use Rattle.inno_db.specs.declared.change.Change.TheVariants.{Create}
use Rattle.inno_model.specs.declared.event.Event.TheVariants.{Opened, Started, Ended, Acked, Changed, Signal}
use Rattle.entries.specs.Lists.{empty_index}
use Rattle.sql_history.specs.Settings.{at_first, set_by}
use Rattle.sql_history.specs.Counts.{rows_of_reply}
use Rattle.world.specs.State.{WorldState, Session, Work, HasWork, IsIndex, with_session, with_work, with_entry}
use Rattle.inno_db.specs.Indexes.{index_of}

-- a world without tables, which is yet to be opened
pub record IsNew (state : WorldState) : Type 0 where
  pub names : state.names ≡ []
  pub past : state.past ≡ []
  pub rows : state.rows ≡ 0
  pub schemas : state.schemas ≡ []
  pub indexes : (index : ℕ) → state.indexes index ≡ empty_index
  pub versions : (pointer : ℕ) → state.versions.kept_at pointer ≡ None
  pub txns : state.txns ≡ record { open_txns = []; begun = 0; next = 1 }
  pub sessions : state.sessions ≡ []
  pub granted : state.locks.granted ≡ []
  pub waiting : state.locks.waiting ≡ []
  pub fallen : state.fallen ≡ []

-- One table more. Its indexes are empty, as they were before anybody had them.
pub record LaysTable (schema : Schema) (old new : WorldState) : Type 0 where
  pub empty : (which : ℕ) → which < 8 → new.indexes (index_of (length old.schemas) which) ≡ empty_index
  pub same : (index : ℕ) → new.indexes index ≡ old.indexes index
  pub rest : new ≡ record old { schemas = old.schemas ++ schema ∷ []; indexes = new.indexes }

-- the history has begun with this database, of so many rows
abbrev pub with_opening : Database → ℕ → WorldState → WorldState
with_opening db rows state = record state { past = Opened db ∷ state.past; rows = rows }

-- a session that has just joined
abbrev pub fresh_session : Session
fresh_session =
    record { setting = at_first; work = None; can_reply = false; can_ack = false; can_begin = false; can_change = false; undo_room = 0; next_pointer = 0 }

-- another session, which has set nothing
abbrev pub joined : List ℕ → WorldState → WorldState
joined name state = record state { names = state.names ++ name ∷ []; sessions = state.sessions ++ fresh_session ∷ [] }

-- the item has started, and the history has room for its end
abbrev pub item_started : ℕ → ℕ → Item → Session → WorldState → WorldState
item_started s j item session state = with_entry (Started s j item) (with_session s (record session { can_reply = true }) state)

-- the item has ended, and the rows of its reply count
abbrev pub item_ended : ℕ → ℕ → Reply → Session → WorldState → WorldState
item_ended s j reply session state =
    record (with_entry (Ended s j reply) (with_session s (record session { can_reply = false }) state)) { rows = state.rows + rows_of_reply reply }

-- the commit is acknowledged, at this moment
abbrev pub acknowledged : ℕ → ℕ → Session → WorldState → WorldState
acknowledged s moment session state = with_entry (Acked s moment) (with_session s (record session { can_ack = false }) state)

-- a signal of this name is given
abbrev pub signalled : List ℕ → WorldState → WorldState
signalled name state = with_entry (Signal name) state

-- the session has set what a statement sets that was done
abbrev pub with_setting : ℕ → Stmt → Session → WorldState → WorldState
with_setting s stmt session state = with_session s (record session { setting = set_by stmt 0 false session.setting }) state

-- The session's open transaction has made a table. Its indexes are empty, as they were before anybody had them.
pub record MakesTable (s : ℕ) (schema : Schema) (old new : WorldState) : Type 0 where
  pub session : Session
  pub work : Work
  pub has_work : HasWork s session work old
  pub mine : (which : ℕ) → which ≤ length schema.keys → IsIndex new.schemas (index_of (length old.schemas) which)
  pub empty : (which : ℕ) → which < 8 → new.indexes (index_of (length old.schemas) which) ≡ empty_index
  pub same : (index : ℕ) → new.indexes index ≡ old.indexes index
  pub rest : new ≡ record (with_entry (Changed s (Create schema)) (with_work s session (record work { own = work.own + 1 }) old))
      { schemas = old.schemas ++ schema ∷ []; indexes = new.indexes }
