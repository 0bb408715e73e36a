-- What a call of the store does, seen in the whole world.
use Rattle.std.proofs.Common.{◌≡◌, ◌≢◌, ℕ, ◌+◌, ◌<◌, ◌≤◌, List, [], ◌∷◌, ◌++◌, length, Option, None, Some, refl, ap, ◌∙◌, arith}
use Rattle.std.specs.Prelude.{slice_get, slice_set}
use Rattle.inno_types.specs.declared.value.Schema.{Schema}
use Rattle.inno_db.specs.declared.change.Change.TheVariants.{Create}
use Rattle.inno_model.specs.declared.event.Event.TheVariants.{Changed}
use Rattle.store_api.specs.declared.answers.Undo.{Undo}
use Rattle.store_api.specs.declared.moves.Move.{Move}
use Rattle.store_api.specs.declared.moves.Move.TheVariants.{At, End, Done, Step, Latch, Again, Full, TooDeep, Failed, Bad, NoMemory}
use Rattle.entries.specs.Index.{Index}
use Rattle.entries.specs.Calls.{is_done}
use Rattle.world.specs.State.{WorldState, Session, Work, Logged, HasWork}
use Rattle.world.specs.Stores.{Pages}
use Rattle.world.specs.Indexes as world
use Rattle.world.specs.Undoing as undoing
use Rattle.world.specs.EngineCalls as engine
use Rattle.world.specs.EngineCalls.{LaysTable}
use Rattle.world.specs.Endings.{DoesOrDelays, FreesLog}
use Rattle.index_store.specs.State.{StoreState}
use Rattle.index_store.specs.declared.room.Room.{Room}
use Rattle.index_store.specs.Indexes.{InIndex, StaysBeside, Calls, Changes, Brings, MayLog}
use Rattle.index_store.specs.Undoing.{IsUnchanged, IsPutOff, Delays, MakesRoom, CutsBack, Ends, Frees, MakesTable}
use Rattle.world_parts.specs.Rooms.{log_of, newest_pointer}
use Rattle.parts_world.specs.Parts.{Parts, HaveRooms, world_of}

-- ---- indexes

in_index : {S : Type 0} (p q : Parts S) (index : ℕ) (step : Index → Index → Type 0) (old new : StoreState)
    → InIndex index step old new → world.InIndex index step (world_of old p) (world_of new q)
in_index p q index step old new is = record { here = is.here; elsewhere = is.elsewhere; sound = is.sound; later = is.later }

beside : {S : Type 0} (p : Parts S) (store : S) (old new : StoreState) → StaysBeside old new
    → world.StaysBeside (world_of old p) (world_of new (record p { store = store }))
beside p store old new stays = record { versions = stays.versions; rest = rw stays.schemas refl; later = stays.later }

pub called : {S : Type 0} (p : Parts S) (store : S) (index : ℕ) (call : Index → Index → Type 0) (old new : StoreState)
    → Calls index call old new → world.Calls index call (world_of old p) (world_of new (record p { store = store }))
called p store index call old new is = record {
  index_is = in_index p (record p { store = store }) index call old new is.index_is;
  beside = beside p store old new is.beside;
}

-- a change that brings no undo record
pub changed : {S : Type 0} (p : Parts S) (store : S) (index actor : ℕ) (call : Index → Index → Move → Type 0) (old new : StoreState) (answer : Move)
    → Changes index actor None call old new answer
    → world.Changes index actor None call (world_of old p) (world_of new (record p { store = store })) answer
changed p store index actor call old new answer is = record {
  index_is = in_index p (record p { store = store }) index (λ before after. call before after answer) old new is.index_is;
  beside = beside p store old new is.beside;
  counted = is.counted;
}

-- a call that has not changed its index brings nothing
brings_none : {S : Type 0} (p : Parts S) (store : S) (actor : ℕ) (undo : Undo) (old new : StoreState) (answer : Move) → answer ≢ Done
    → Brings actor (Some undo) (is_done answer) old new
    → world.Brings actor (Some undo) (is_done answer) (world_of old p) (world_of new (record p { store = store }))
brings_none p store actor undo old new NoMemory other h = beside p store old new h
brings_none p store actor undo old new Done other h = absurd (other refl)
brings_none p store actor undo old new Step other h = beside p store old new h
brings_none p store actor undo old new (Latch by) other h = beside p store old new h
brings_none p store actor undo old new Again other h = beside p store old new h
brings_none p store actor undo old new Failed other h = beside p store old new h
brings_none p store actor undo old new (Bad page rule) other h = beside p store old new h
brings_none p store actor undo old new (At found kept) other h = beside p store old new h
brings_none p store actor undo old new End other h = beside p store old new h
brings_none p store actor undo old new (Full need free) other h = beside p store old new h
brings_none p store actor undo old new TooDeep other h = beside p store old new h

pub unlogged : {S : Type 0} (p : Parts S) (store : S) (index actor : ℕ) (undo : Undo) (call : Index → Index → Move → Type 0) (old new : StoreState)
    (answer : Move) → answer ≢ Done → Changes index actor (Some undo) call old new answer
    → world.Changes index actor (Some undo) call (world_of old p) (world_of new (record p { store = store })) answer
unlogged p store index actor undo call old new answer other is = record {
  index_is = in_index p (record p { store = store }) index (λ before after. call before after answer) old new is.index_is;
  beside = brings_none p store actor undo old new answer other is.beside;
  counted = is.counted;
}

-- the session's log has the record now
abbrev pub with_record : {S : Type 0} → Parts S → S → ℕ → Session → Work → Undo → Parts S
with_record p store actor session work undo = record p {
  store = store;
  sessions = slice_set p.sessions actor (record session
      { undo_room = 0; work = Some (record work { log = record { pointer = session.next_pointer; undo = undo } ∷ work.log }) });
}

pub logged : {S : Type 0} (p : Parts S) (store : S) (index actor : ℕ) (undo : Undo) (call : Index → Index → Move → Type 0) (old new : StoreState)
    (session : Session) (work : Work) → HasWork actor session work (world_of old p) → (old.rooms actor).pointer ≡ session.next_pointer
    → Changes index actor (Some undo) call old new Done
    → world.Changes index actor (Some undo) call (world_of old p) (world_of new (with_record p store actor session work undo)) Done
logged p store index actor undo call old new session work has pointer is = record {
  index_is = in_index p (with_record p store actor session work undo) index (λ before after. call before after Done) old new is.index_is;
  beside = record {
    session = session;
    work = work;
    has_work = has;
    next = session.next_pointer;
    kept = rw pointer at is.beside.kept;
    rest = rw is.beside.schemas refl;
    later = is.beside.later;
  };
  counted = tt;
}

-- ---- versions, undo records and ends

pub unchanged : {S : Type 0} (p : Parts S) (store : S) (old new : StoreState) → IsUnchanged old new
    → undoing.IsUnchanged (world_of old p) (world_of new (record p { store = store }))
unchanged p store old new is =
    record { indexes = is.indexes; versions = is.beside.versions; rest = rw is.beside.schemas refl; later = is.beside.later }

put_off : {S : Type 0} (p : Parts S) (store : S) (why : Pages → Pages → Type 0) (old new : StoreState) → IsPutOff why old new
    → undoing.IsPutOff why (world_of old p) (world_of new (record p { store = store }))
put_off p store why old new is = record { all = unchanged p store old new is.all; cause = is.cause }

delayed : {S : Type 0} (p : Parts S) (store : S) (actor : ℕ) (old new : StoreState) (answer : Move) → Delays actor old new answer
    → undoing.Delays actor (world_of old p) (world_of new (record p { store = store })) answer
delayed p store actor old new Step off = put_off p store _ old new off
delayed p store actor old new (Latch by) off = put_off p store _ old new off
delayed p store actor old new Again off = put_off p store _ old new off
delayed p store actor old new Failed off = put_off p store _ old new off
delayed p store actor old new (Bad page rule) off = put_off p store _ old new off
delayed p store actor old new (At key value) off = off
delayed p store actor old new End off = off
delayed p store actor old new Done off = off
delayed p store actor old new (Full need free) off = off
delayed p store actor old new TooDeep off = off
delayed p store actor old new NoMemory off = off

-- no room was made
pub room_refused : {S : Type 0} (p : Parts S) (store : S) (actor bytes : ℕ) (old new : StoreState) (answer : Move) → answer ≢ Done
    → MakesRoom actor bytes old new answer
    → undoing.MakesRoom actor bytes (world_of old p) (world_of new (record p { store = store })) answer
room_refused p store actor bytes old new Done other is = absurd (other refl)
room_refused p store actor bytes old new NoMemory other is = unchanged p store old new is
room_refused p store actor bytes old new (Full need free) other is = put_off p store _ old new is
room_refused p store actor bytes old new Step other is = delayed p store actor old new Step is
room_refused p store actor bytes old new (Latch by) other is = delayed p store actor old new (Latch by) is
room_refused p store actor bytes old new Again other is = delayed p store actor old new Again is
room_refused p store actor bytes old new Failed other is = delayed p store actor old new Failed is
room_refused p store actor bytes old new (Bad page rule) other is = delayed p store actor old new (Bad page rule) is
room_refused p store actor bytes old new (At key value) other is = absurd is
room_refused p store actor bytes old new End other is = absurd is
room_refused p store actor bytes old new TooDeep other is = absurd is

-- the log is as it was
pub uncut : {S : Type 0} (p : Parts S) (store : S) (actor slot s pointer kind : ℕ) (old new : StoreState) (answer : Move) → answer ≢ Done
    → CutsBack actor s pointer kind old new answer
    → undoing.CutsBack actor slot (world_of old p) (world_of new (record p { store = store })) answer
uncut p store actor slot s pointer kind old new Done other is = absurd (other refl)
uncut p store actor slot s pointer kind old new NoMemory other is = absurd is
uncut p store actor slot s pointer kind old new (Full need free) other is = absurd is
uncut p store actor slot s pointer kind old new Step other is = delayed p store actor old new Step is
uncut p store actor slot s pointer kind old new (Latch by) other is = delayed p store actor old new (Latch by) is
uncut p store actor slot s pointer kind old new Again other is = delayed p store actor old new Again is
uncut p store actor slot s pointer kind old new Failed other is = delayed p store actor old new Failed is
uncut p store actor slot s pointer kind old new (Bad page rule) other is = delayed p store actor old new (Bad page rule) is
uncut p store actor slot s pointer kind old new (At key value) other is = absurd is
uncut p store actor slot s pointer kind old new End other is = absurd is
uncut p store actor slot s pointer kind old new TooDeep other is = absurd is

-- the transaction is open still
pub unended : {S : Type 0} (does : WorldState → WorldState → Type 0) (p : Parts S) (store : S) (s : ℕ) (old new : StoreState) (answer : Move)
    → answer ≢ Done → Ends s old new answer → DoesOrDelays does s (world_of old p) (world_of new (record p { store = store })) answer
unended does p store s old new Done other is = absurd (other refl)
unended does p store s old new NoMemory other is = absurd is
unended does p store s old new (Full need free) other is = absurd is
unended does p store s old new Step other is = delayed p store s old new Step is
unended does p store s old new (Latch by) other is = delayed p store s old new (Latch by) is
unended does p store s old new Again other is = delayed p store s old new Again is
unended does p store s old new Failed other is = delayed p store s old new Failed is
unended does p store s old new (Bad page rule) other is = delayed p store s old new (Bad page rule) is
unended does p store s old new (At key value) other is = absurd is
unended does p store s old new End other is = absurd is
unended does p store s old new TooDeep other is = absurd is

pub freed : {S : Type 0} (p : Parts S) (store : S) (s : ℕ) (old new : StoreState) (answer : Move) → Frees s old new answer
    → FreesLog s (world_of old p) (world_of new (record p { store = store })) answer
freed p store s old new Done is = unchanged p store old new is
freed p store s old new NoMemory is = absurd is
freed p store s old new (Full need free) is = absurd is
freed p store s old new Step is = delayed p store s old new Step is
freed p store s old new (Latch by) is = delayed p store s old new (Latch by) is
freed p store s old new Again is = delayed p store s old new Again is
freed p store s old new Failed is = delayed p store s old new Failed is
freed p store s old new (Bad page rule) is = delayed p store s old new (Bad page rule) is
freed p store s old new (At key value) is = absurd is
freed p store s old new End is = absurd is
freed p store s old new TooDeep is = absurd is

-- ---- rooms

pub rooms_delayed : (s : ℕ) (old new : StoreState) (answer : Move) → Delays s old new answer → new.rooms ≡ old.rooms
rooms_delayed s old new Step off = off.all.beside.rooms
rooms_delayed s old new (Latch by) off = off.all.beside.rooms
rooms_delayed s old new Again off = off.all.beside.rooms
rooms_delayed s old new Failed off = off.all.beside.rooms
rooms_delayed s old new (Bad page rule) off = off.all.beside.rooms
rooms_delayed s old new (At key value) off = absurd off
rooms_delayed s old new End off = absurd off
rooms_delayed s old new Done off = absurd off
rooms_delayed s old new (Full need free) off = absurd off
rooms_delayed s old new TooDeep off = absurd off
rooms_delayed s old new NoMemory off = absurd off

pub rooms_freed : (s : ℕ) (old new : StoreState) (answer : Move) → Frees s old new answer → new.rooms ≡ old.rooms
rooms_freed s old new Done is = is.beside.rooms
rooms_freed s old new Step is = rooms_delayed s old new Step is
rooms_freed s old new (Latch by) is = rooms_delayed s old new (Latch by) is
rooms_freed s old new Again is = rooms_delayed s old new Again is
rooms_freed s old new Failed is = rooms_delayed s old new Failed is
rooms_freed s old new (Bad page rule) is = rooms_delayed s old new (Bad page rule) is
rooms_freed s old new (At key value) is = absurd is
rooms_freed s old new End is = absurd is
rooms_freed s old new (Full need free) is = absurd is
rooms_freed s old new TooDeep is = absurd is
rooms_freed s old new NoMemory is = absurd is

pub rooms_refused : (s bytes : ℕ) (old new : StoreState) (answer : Move) → answer ≢ Done → MakesRoom s bytes old new answer → new.rooms ≡ old.rooms
rooms_refused s bytes old new Done other is = absurd (other refl)
rooms_refused s bytes old new NoMemory other is = is.beside.rooms
rooms_refused s bytes old new (Full need free) other is = is.all.beside.rooms
rooms_refused s bytes old new Step other is = rooms_delayed s old new Step is
rooms_refused s bytes old new (Latch by) other is = rooms_delayed s old new (Latch by) is
rooms_refused s bytes old new Again other is = rooms_delayed s old new Again is
rooms_refused s bytes old new Failed other is = rooms_delayed s old new Failed is
rooms_refused s bytes old new (Bad page rule) other is = rooms_delayed s old new (Bad page rule) is
rooms_refused s bytes old new (At key value) other is = absurd is
rooms_refused s bytes old new End other is = absurd is
rooms_refused s bytes old new TooDeep other is = absurd is

pub rooms_uncut : (actor s pointer kind : ℕ) (old new : StoreState) (answer : Move) → answer ≢ Done → CutsBack actor s pointer kind old new answer
    → new.rooms ≡ old.rooms
rooms_uncut actor s pointer kind old new Done other is = absurd (other refl)
rooms_uncut actor s pointer kind old new NoMemory other is = absurd is
rooms_uncut actor s pointer kind old new (Full need free) other is = absurd is
rooms_uncut actor s pointer kind old new Step other is = rooms_delayed actor old new Step is
rooms_uncut actor s pointer kind old new (Latch by) other is = rooms_delayed actor old new (Latch by) is
rooms_uncut actor s pointer kind old new Again other is = rooms_delayed actor old new Again is
rooms_uncut actor s pointer kind old new Failed other is = rooms_delayed actor old new Failed is
rooms_uncut actor s pointer kind old new (Bad page rule) other is = rooms_delayed actor old new (Bad page rule) is
rooms_uncut actor s pointer kind old new (At key value) other is = absurd is
rooms_uncut actor s pointer kind old new End other is = absurd is
rooms_uncut actor s pointer kind old new TooDeep other is = absurd is

pub rooms_unlogged : (actor : ℕ) (undo : Undo) (old new : StoreState) (answer : Move) → answer ≢ Done → Brings actor (Some undo) (is_done answer) old new
    → new.rooms ≡ old.rooms
rooms_unlogged actor undo old new Done other h = absurd (other refl)
rooms_unlogged actor undo old new NoMemory other h = h.rooms
rooms_unlogged actor undo old new Step other h = h.rooms
rooms_unlogged actor undo old new (Latch by) other h = h.rooms
rooms_unlogged actor undo old new Again other h = h.rooms
rooms_unlogged actor undo old new Failed other h = h.rooms
rooms_unlogged actor undo old new (Bad page rule) other h = h.rooms
rooms_unlogged actor undo old new (At found kept) other h = h.rooms
rooms_unlogged actor undo old new End other h = h.rooms
rooms_unlogged actor undo old new (Full need free) other h = h.rooms
rooms_unlogged actor undo old new TooDeep other h = h.rooms

-- the store has the room that the session knows of
pub may_log : {S : Type 0} (p : Parts S) (old : StoreState) (actor : ℕ) (undo : Undo) → HaveRooms old.rooms p.sessions
    → world.MayLog actor undo (world_of old p) → MayLog actor undo old
may_log p old actor undo have may =
    let roomy : 0 < may.session.undo_room = omega (arith, may.room) in
    let bytes = (have actor may.session may.has_work.session_is roomy).0 in
    record { sound = may.sound; room = rw bytes may.room }

-- the session has the room that it had
pub restored : (before : Room) (session : Session) → before.bytes ≡ session.undo_room → before.pointer ≡ session.next_pointer
    → record session { undo_room = before.bytes; next_pointer = before.pointer } ≡ session
restored before session bytes pointer = rw (bytes, pointer) refl

-- the record behind this pointer, and of this kind, is the newest one
pub same_newest : (session : Session) (work : Work) (gone : Logged) (log : List Logged) (pointer kind : ℕ) → session.work ≡ Some work → work.log ≡ gone ∷ log
    → Some (pointer, kind) ≡ newest_pointer (log_of session.work) → (pointer ≡ gone.pointer) × (kind ≡ gone.undo.kind)
same_newest session work gone log pointer kind has is found =
    let both : Some (pointer, kind) ≡ Some (gone.pointer, gone.undo.kind) = found ∙ ap (λ (w : Option Work). newest_pointer (log_of w)) has ∙ ap newest_pointer is in
    let same : (pointer, kind) ≡ (gone.pointer, gone.undo.kind) = cc in
    (ap (λ (x : ℕ × ℕ). x.0) same, ap (λ (x : ℕ × ℕ). x.1) same)

-- ---- a table that is made

pub rooms_with_table : (schema : Schema) (old new : StoreState) → MakesTable schema old new → new.rooms ≡ old.rooms
rooms_with_table schema old new made = ap (λ (s : StoreState). s.rooms) made.rest

pub laid : {S : Type 0} (p : Parts S) (store : S) (schema : Schema) (old new : StoreState) → MakesTable schema old new
    → LaysTable schema (world_of old p) (world_of new (record p { store = store }))
laid p store schema old new made = record {
  empty = made.empty;
  same = made.same;
  rest = ap (λ (s : StoreState). world_of s (record p { store = store })) made.rest;
}

last_schema : (schemas : List Schema) (schema : Schema) → slice_get (schemas ++ schema ∷ []) (length schemas) ≡ Some schema
last_schema [] schema = refl
last_schema (first ∷ schemas) schema = last_schema schemas schema

-- the world with a table more, made by a session
abbrev pub with_table : {S : Type 0} → Parts S → S → ℕ → Session → Work → Schema → Parts S
with_table p store s session work schema = record p {
  past = Changed s (Create schema) ∷ p.past;
  store = store;
  sessions = slice_set p.sessions s (record session { work = Some (record work { own = work.own + 1 }) });
}

pub makes_table : {S : Type 0} (p : Parts S) (store : S) (s : ℕ) (session : Session) (work : Work) (schema : Schema) (old new : StoreState)
    → HasWork s session work (world_of old p) → length schema.keys ≤ 4 → MakesTable schema old new
    → engine.MakesTable s schema (world_of old p) (world_of new (with_table p store s session work schema))
makes_table p store s session work schema old new has few made = record {
  session = session;
  work = work;
  has_work = has;
  mine = λ which within. record {
    table = length old.schemas;
    which = which;
    number = refl;
    schema = schema;
    there = rw (ap (λ (x : StoreState). x.schemas) made.rest) (last_schema old.schemas schema);
    key = within;
    few = omega (arith, within, few);
  };
  empty = made.empty;
  same = made.same;
  rest = ap (λ (x : StoreState). world_of x (with_table p store s session work schema)) made.rest;
}
