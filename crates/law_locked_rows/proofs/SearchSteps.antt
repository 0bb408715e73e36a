-- Whole steps of a search that locks, from what holds of a store before to what it knows behind: the next pair of the index and its lock in
-- one step, and then the record of an entry and its lock in another one.
use Rattle.std.proofs.Common.{arith, Vec, Global, ◌≡◌, ◌≢◌, ◌∙◌, inl, refl, sym, ap, subst, ℕ, ◌≤◌, true, false, List, [], ◌∷◌, ◌++◌, length, Option, None}
use Rattle.std.proofs.Common.{Some, slice_get, is_some}
use Rattle.inno_types.specs.{declared.lock.Lock.Lock, declared.value.Schema.Schema, declared.value.Value.Value, Ranges.is_within, Ranges.is_up_to}
use Rattle.inno_types.specs.{declared.stmt.Bound.TheVariants.With}
use Rattle.inno_db.specs.Indexes.{index_of}
use Rattle.store_api.specs.declared.answers.Undo.{Undo}
use Rattle.store_api.specs.declared.answers.Version.{Version as Coded}
use Rattle.store_api.specs.declared.answers.Asked.TheVariants.{Granted}
use Rattle.key_codec.specs.Keys.{key_width}
use Rattle.key_codec.proofs.Lengths.{length-key_code}
use Rattle.entries.specs.Pairs.{Pair, value_of, IsFirstOf, NonePasses}
use Rattle.row_versions.specs.{declared.place.Place.Place, Chains.Chains}
use Rattle.law_stored_rows.specs.Tables.{Said}
use Rattle.sql_plan.specs.Visits.{index_key, kind_at, kind_if}
use Rattle.law_stored_rows.specs.{Edits.clustered_index, Edits.key_index, Records.IsCodeOf}
use Rattle.world.specs.{State.WorldState, State.Session, State.Work, State.HasWork, Told.IsTold, Told.pairs_of}
use Rattle.row_changes.specs.Edits.{IsKeyAt}
use Rattle.lock_rules.specs.Kinds.{locks_gap, locks_record}
use Rattle.lock_rules.specs.Conflicts.{kind_of}
use Rattle.lock_table.specs.Queue.{AreApart}
use Rattle.lock_table.specs.View.{Table, IsGranted}
use Rattle.law_locks.specs.Guards.{has_record}
use Rattle.law_locks.proofs.{Granting.granted_record, Guarding.KeepsLocks, Guarding.answered_locks}
use Rattle.row_search.specs.{declared.scan.Scan.Scan, declared.found.FoundRow.FoundRow, Ranges.primary_part}
use Rattle.desks.specs.{Desks.Store, Desks.doing_at, Desks.is_quiet_doing}
use Rattle.law_locked_rows.specs.Many.{IsHeldByAll}
use Rattle.law_locked_rows.specs.Owning.{HasAlone}
use Rattle.law_locked_rows.specs.Locking.{to_come, IsLocking, IsAtEntry}
use Rattle.law_locked_rows.specs.Entries.{AreEntriesOwned}
use Rattle.law_locked_rows.proofs.Showing.{keys_now}
use Rattle.law_locked_rows.proofs.Coming.{to_come_rises, comes_to, comes_to_one, comes_behind_all}
use Rattle.law_locked_rows.proofs.Coming.{none_comes}
use Rattle.law_locked_rows.proofs.Beginning.{one_key_within}
use Rattle.law_locked_rows.proofs.AtRecord.{marked_passes, other_passes, own_found}
use Rattle.law_locked_rows.proofs.AtRecord.{absent_passes}
use Rattle.law_locked_rows.proofs.Keeping.{entry_kept}
use Rattle.law_locked_rows.proofs.Calls.{asked_leaves}
use Rattle.law_locked_rows.proofs.Places.{entry_place}

-- ---- what holds is kept where locks alone have come

pub alone_still : (s : ℕ) {place : Place} {state : WorldState} {granted now : List Lock} → ((txn index : ℕ) → KeepsLocks txn index granted now)
    → HasAlone s place state granted → HasAlone s place state now
alone_still s {place} keeps is = record {
  session = is.session;
  work = is.work;
  has_work = is.has_work;
  key = is.key;
  key_is = is.key_is;
  alone = (keeps is.work.txn (clustered_index place.table)).alone is.key is.alone;
}

abbrev pub with_locks : {store : Store} {granted now : List Lock} → IsHeldByAll store granted → AreApart now
    → ((txn index : ℕ) → KeepsLocks txn index granted now) → IsHeldByAll store now
with_locks held apart keeps = record {
  chains = held.chains;
  agrees = held.agrees;
  fits = held.fits;
  rows = held.rows;
  owned = record {
    changed = λ s place has. alone_still s keeps (held.owned.changed s place has);
    working = λ s place is. alone_still s keeps (held.owned.working s place is);
  };
  apart = apart;
  searches = held.searches;
  logs = held.logs;
  has_room = held.has_room;
  started = held.started;
  rooms = held.rooms;
  count = held.count;
  few = held.few;
  cut = held.cut;
  short = held.short;
}

pub entries_still : {chains : Chains} {said : Said} {state : WorldState} {granted now : List Lock} → ((txn index : ℕ) → KeepsLocks txn index granted now)
    → AreEntriesOwned chains said state granted → AreEntriesOwned chains said state now
entries_still keeps owned s session work place at keyed has changed =
    let is = owned s session work place at keyed has changed in
    record {
      fronts = is.fronts;
      behind = is.behind;
      versions = is.versions;
      tells = is.tells;
      alone = λ value some all. (keeps work.txn (key_index place.table at)).alone _ (is.alone value some all);
    }

module _ {store : Store} {old new : Table} (held : IsHeldByAll store old.granted) (told : IsTold store.world) {s : ℕ} {session : Session} {work : Work}
    (has : HasWork s session work store.world) (searching : is_quiet_doing (doing_at s store.desks) ≡ true) {schema : Schema} (scan : Scan)
    (there : slice_get store.world.schemas scan.table ≡ Some schema) (le : scan.which ≤ length schema.keys) (lock : Lock) (granted : IsGranted old new lock)
    (apart : AreApart new.granted) (mine : lock.txn ≡ work.txn) where
  pub keeps : (txn index : ℕ) → KeepsLocks txn index old.granted new.granted
  keeps txn index = answered_locks txn index old new lock Granted granted

  abbrev pub held_now : IsHeldByAll store new.granted
  held_now = with_locks held apart keeps

  pub record_locked : (index : ℕ) (key : List ℕ) → lock.spot.index ≡ index → lock.spot.key ≡ Some key → locks_record (kind_of lock) ≡ true
      → has_record work.txn index key new.granted ≡ true
  record_locked index key index_is key_is own = subst (λ txn. has_record txn index key new.granted ≡ true) mine
      (subst (λ i. has_record lock.txn i key new.granted ≡ true) index_is (granted_record lock key key_is old new granted own))

  -- ---- the next pair, in the range, with the lock of its record and the gap

  module _ {made : ℕ} {log : List Undo} (passed : Option (List ℕ)) (is : IsLocking schema scan s work.txn made log
      (to_come scan passed) store.world old.granted)
      (pair : Pair) (first : IsFirstOf (to_come scan passed) (pairs_of store.world (index_of scan.table scan.which)) pair)
      (within : is_within scan.range pair.0 ≡ true) (index_is : lock.spot.index ≡ index_of scan.table scan.which) (key_is : lock.spot.key ≡ Some pair.0)
      (gap : locks_gap (kind_of lock) ≡ true) (own : locks_record (kind_of lock) ≡ true) where
    pub next_entry : IsAtEntry schema scan s work.txn made log pair.0 store.world new.granted
    next_entry = subst (λ txn. IsAtEntry schema scan s txn made log pair.0 store.world new.granted) mine
        (comes_to schema scan s made log (to_come scan passed) (to_come_rises scan passed) store.world lock old new granted index_is
        (subst (λ txn. IsLocking schema scan s txn made log (to_come scan passed) store.world old.granted) (sym mine) is)
        (keys_now held told has searching scan there le) pair first within key_is gap own)

    -- In the clustered index the pair is the row's record, and the step is over with it.
    module _ (zeroth : scan.which ≡ 0) (coded : Coded) (code : IsCodeOf schema (primary_part schema pair.0) pair.1 coded) where
      index : index_of scan.table scan.which ≡ clustered_index scan.table
      index = ap (index_of scan.table) zeroth ∙ omega arith

      abbrev place : (value : Value) × IsKeyAt schema value (primary_part schema pair.0) × (scan.which ≡ 0 → primary_part schema pair.0 ≡ pair.0)
      place = entry_place held scan.table scan.which there le pair.0 (ap is_some first.there)

      whole : primary_part schema pair.0 ≡ pair.0
      whole = place.2 zeroth

      locked : has_record work.txn (clustered_index scan.table) (primary_part schema pair.0) new.granted ≡ true
      locked = record_locked (clustered_index scan.table) (primary_part schema pair.0) (index_is ∙ index) (key_is ∙ ap (λ (k : List ℕ). Some k) (sym whole)) own

      found : value_of (primary_part schema pair.0) (pairs_of store.world (clustered_index scan.table)) ≡ Some pair.1
      found = ap (λ (k : List ℕ). value_of k (pairs_of store.world (clustered_index scan.table))) whole
          ∙ ap (λ i. value_of pair.0 (pairs_of store.world i)) (sym index) ∙ first.there

      pub record_marked : coded.marked ≡ true → IsLocking schema scan s work.txn made log (to_come scan (Some pair.0)) store.world new.granted
      record_marked = marked_passes held_now told has searching scan there le next_entry place.0 place.1 locked pair.1 coded found code

      pub record_other : coded.marked ≡ false → index_key schema scan.which coded.row ≢ pair.0
          → IsLocking schema scan s work.txn made log (to_come scan (Some pair.0)) store.world new.granted
      record_other = other_passes held_now told has searching scan there le next_entry place.0 place.1 locked pair.1 coded found code

      pub record_found : coded.marked ≡ false → index_key schema scan.which coded.row ≡ pair.0 → (rows : Vec FoundRow Global)
          → rows.items ≡ scan.rows.items ++ record { key = primary_part schema pair.0; row = coded.row } ∷ []
          → IsLocking schema (record scan { rows = rows }) s work.txn made log (to_come scan (Some pair.0)) store.world new.granted
      record_found is_not = own_found held_now told has searching scan there le next_entry place.0 place.1 locked pair.1 coded found code is_not place.2

  -- ---- the lower half of a search's steps: rule 1 (the one record that the range can hold), and rules 3 and 5 behind the range

  module _ {made : ℕ} {log : List Undo} (passed : Option (List ℕ)) (is : IsLocking schema scan s work.txn made log
      (to_come scan passed) store.world old.granted)
      (index_is : lock.spot.index ≡ index_of scan.table scan.which) where
    mine_is : IsLocking schema scan s lock.txn made log (to_come scan passed) store.world old.granted
    mine_is = subst (λ txn. IsLocking schema scan s txn made log (to_come scan passed) store.world old.granted) (sym mine) is

    pub one_entry : (pair : Pair) → IsFirstOf (to_come scan passed) (pairs_of store.world (index_of scan.table scan.which)) pair
        → is_within scan.range pair.0 ≡ true → lock.spot.key ≡ Some pair.0 → locks_record (kind_of lock) ≡ true → made ≡ length log → scan.which ≡ 0
        → (bound : List ℕ) → scan.range.low ≡ With bound → scan.range.high ≡ With bound
        → key_width (kind_at schema.columns schema.primary) ≤ length bound
        → IsAtEntry schema scan s work.txn made log pair.0 store.world new.granted
    one_entry pair first within key_is own now zeroth bound low high wide =
        let place = entry_place held scan.table scan.which there le pair.0 (ap is_some first.there) in
        let kind : kind_at schema.columns schema.primary ≡ place.1.column.kind = ap kind_if place.1.primary in
        let long : length pair.0 ≡ key_width (kind_at schema.columns schema.primary) = ap length (sym (place.2 zeroth) ∙ place.1.spelled)
        ∙ length-key_code place.1.column.kind place.0 place.1.has_key.0 ∙ ap key_width (sym kind) in
        let pair_is : pair.0 ≡ bound = one_key_within schema scan.range bound pair.0 low high wide long within in
        subst (λ txn. IsAtEntry schema scan s txn made log pair.0 store.world new.granted) mine
        (comes_to_one schema scan s made log (to_come scan passed) (to_come_rises scan passed) store.world lock old new granted index_is mine_is
        (keys_now held told has searching scan there le) pair first within key_is own now
        (λ key may inside. one_key_within schema scan.range bound key low high wide (may zeroth) inside ∙ sym pair_is))

    pub behind_range : (pair : Pair) → IsFirstOf (to_come scan passed) (pairs_of store.world (index_of scan.table scan.which)) pair
        → is_up_to scan.range.high pair.0 ≡ false → lock.spot.key ≡ Some pair.0 → locks_gap (kind_of lock) ≡ true
        → IsLocking schema scan s work.txn made log (λ key. false) store.world new.granted
    behind_range pair first out key_is gap = subst (λ txn. IsLocking schema scan s txn made log (λ key. false) store.world new.granted) mine
        (comes_behind_all schema scan s made log (to_come scan passed) (to_come_rises scan passed) store.world lock old new granted index_is mine_is
        (keys_now held told has searching scan there le) pair first out key_is gap)

    pub at_supremum : NonePasses (to_come scan passed) (pairs_of store.world (index_of scan.table scan.which)) → lock.spot.key ≡ None
        → locks_gap (kind_of lock) ≡ true → IsLocking schema scan s work.txn made log (λ key. false) store.world new.granted
    at_supremum none key_is gap = subst (λ txn. IsLocking schema scan s txn made log (λ key. false) store.world new.granted) mine
        (none_comes schema scan s made log (to_come scan passed) (to_come_rises scan passed) store.world lock old new granted index_is mine_is
        (keys_now held told has searching scan there le) none key_is gap)

  -- ---- the record of an entry, in a step of its own

  module _ {made : ℕ} {log : List Undo} {entry : List ℕ} (at : IsAtEntry schema scan s work.txn made log entry store.world old.granted)
      (home_of : (value : Value) × IsKeyAt schema value (primary_part schema entry) × (scan.which ≡ 0 → primary_part schema entry ≡ entry))
      (index_is : lock.spot.index ≡ clustered_index scan.table) (key_is : lock.spot.key ≡ Some (primary_part schema entry))
      (own : locks_record (kind_of lock) ≡ true) where
    at_now : IsAtEntry schema scan s work.txn made log entry store.world new.granted
    at_now = entry_kept (asked_leaves scan work.txn made log (λ index. refl) old new lock Granted granted) (λ value. inl refl) at

    locked_now : has_record work.txn (clustered_index scan.table) (primary_part schema entry) new.granted ≡ true
    locked_now = record_locked (clustered_index scan.table) (primary_part schema entry) index_is key_is own

    pub absent_behind : value_of (primary_part schema entry) (pairs_of store.world (clustered_index scan.table)) ≡ None
        → IsLocking schema scan s work.txn made log (to_come scan (Some entry)) store.world new.granted
    absent_behind = absent_passes held_now told has searching scan there le at_now home_of.0 home_of.1 locked_now

    module _ (bytes : List ℕ) (coded : Coded) (found : value_of (primary_part schema entry) (pairs_of store.world (clustered_index scan.table)) ≡ Some bytes)
        (code : IsCodeOf schema (primary_part schema entry) bytes coded) where
      pub marked_behind : coded.marked ≡ true → IsLocking schema scan s work.txn made log (to_come scan (Some entry)) store.world new.granted
      marked_behind = marked_passes held_now told has searching scan there le at_now home_of.0 home_of.1 locked_now bytes coded found code

      pub other_behind : coded.marked ≡ false → index_key schema scan.which coded.row ≢ entry
          → IsLocking schema scan s work.txn made log (to_come scan (Some entry)) store.world new.granted
      other_behind = other_passes held_now told has searching scan there le at_now home_of.0 home_of.1 locked_now bytes coded found code

      pub row_found : coded.marked ≡ false → index_key schema scan.which coded.row ≡ entry → (rows : Vec FoundRow Global)
          → rows.items ≡ scan.rows.items ++ record { key = primary_part schema entry; row = coded.row } ∷ []
          → IsLocking schema (record scan { rows = rows }) s work.txn made log (to_come scan (Some entry)) store.world new.granted
      row_found is_not = own_found held_now told has searching scan there le at_now home_of.0 home_of.1 locked_now bytes coded found code is_not home_of.2
