-- The step to a marked entry of a key: with its lock the search passes it at once.
-- It is the step that needs no record: the others of a search stand in `SearchSteps`.
use Rattle.std.proofs.Common.{arith, ◌≡◌, ◌∙◌, sym, ap, subst, ℕ, suc, ◌≤◌, true, List, [], ◌∷◌, length, Option, Some, slice_get, is_some}
use Rattle.inno_types.specs.{declared.lock.Lock.Lock, declared.value.Schema.Schema, declared.value.Key.Key, Ranges.is_within}
use Rattle.inno_db.specs.Indexes.{index_of}
use Rattle.store_api.specs.declared.answers.Undo.{Undo}
use Rattle.entries.specs.Pairs.{Pair, value_of, IsFirstOf}
use Rattle.law_stored_rows.specs.{Edits.key_index}
use Rattle.world.specs.{State.Session, State.Work, State.HasWork, Told.IsTold, Told.pairs_of}
use Rattle.lock_rules.specs.Kinds.{locks_gap, locks_record}
use Rattle.lock_rules.specs.Conflicts.{kind_of}
use Rattle.lock_table.specs.Queue.{AreApart}
use Rattle.lock_table.specs.View.{Table, IsGranted}
use Rattle.law_locks.specs.Guards.{has_record}
use Rattle.row_search.specs.declared.scan.Scan.{Scan}
use Rattle.desks.specs.{Desks.Store, Desks.doing_at, Desks.is_quiet_doing}
use Rattle.law_locked_rows.specs.Many.{IsHeldByAll}
use Rattle.law_locked_rows.specs.Locking.{to_come, IsLocking, IsAtEntry}
use Rattle.law_locked_rows.specs.Entries.{IsKeyed, AreEntriesOwned}
use Rattle.law_locked_rows.proofs.SearchSteps.{held_now, keeps, entries_still, next_entry, record_locked}
use Rattle.law_locked_rows.proofs.AtMarked.{marked_passes}

module _ {store : Store} {old new : Table} (held : IsHeldByAll store old.granted)
    (owned : AreEntriesOwned held.chains held.rows.said store.world old.granted) (told : IsTold store.world) {s : ℕ} {session : Session} {work : Work}
    (has : HasWork s session work store.world) (searching : is_quiet_doing (doing_at s store.desks) ≡ true) {schema : Schema} (scan : Scan)
    (there : slice_get store.world.schemas scan.table ≡ Some schema) (le : scan.which ≤ length schema.keys) (lock : Lock) (granted : IsGranted old new lock)
    (apart : AreApart new.granted) (mine : lock.txn ≡ work.txn) {made : ℕ} {log : List Undo} (passed : Option (List ℕ))
    (is : IsLocking schema scan s work.txn made log (to_come scan passed) store.world old.granted)
    (pair : Pair) (first : IsFirstOf (to_come scan passed) (pairs_of store.world (index_of scan.table scan.which)) pair)
    (within : is_within scan.range pair.0 ≡ true) (index_is : lock.spot.index ≡ index_of scan.table scan.which) (key_is : lock.spot.key ≡ Some pair.0)
    (gap : locks_gap (kind_of lock) ≡ true) (own : locks_record (kind_of lock) ≡ true) where
  pub marked_entry : (at : ℕ) (key : Key) → scan.which ≡ suc at → slice_get schema.keys at ≡ Some key → pair.1 ≡ 1 ∷ []
      → IsLocking schema scan s work.txn made log (to_come scan (Some pair.0)) store.world new.granted
  marked_entry at key which_is key_there marked =
      let entries = held.rows.coded.keyed.keys scan.table at schema key there key_there in
      let index : index_of scan.table scan.which ≡ key_index scan.table at = ap (index_of scan.table) (which_is ∙ omega arith) in
      let some = entries.each pair.0 (subst (λ i. is_some (value_of pair.0 (pairs_of store.world i)) ≡ true) index (ap is_some first.there)) in
      let keyed : IsKeyed (record { table = scan.table; key = some.0 }) at store.world = record {
        schema = schema;
        there = there;
        primary = entries.primary;
        primary_is = entries.primary_is;
        key = key;
        key_is = key_there;
        indexed = entries.indexed;
        indexed_is = entries.indexed_is;
        has_key = some.2;
      } in
      let at_entry = next_entry held told has searching scan there le lock granted apart mine passed is pair first within index_is key_is gap own in
      let locked = record_locked held told has searching scan there le lock granted apart mine (key_index scan.table at) pair.0 (index_is ∙ index) key_is own in
      let found : value_of pair.0 (pairs_of store.world (key_index scan.table at)) ≡ Some (1 ∷ [])
      = subst (λ i. value_of pair.0 (pairs_of store.world i) ≡ Some pair.1) index first.there ∙ ap (λ (v : List ℕ). Some v) marked in
      subst (λ (e : List ℕ). IsLocking schema scan s work.txn made log (to_come scan (Some e)) store.world new.granted) (sym some.4)
      (marked_passes (held_now held told has searching scan there le lock granted apart mine)
      (entries_still (keeps held told has searching scan there le lock granted apart mine) owned) told has searching scan at which_is some.1
      some.0 keyed le some.3
      (subst (λ (e : List ℕ). IsAtEntry schema scan s work.txn made log e store.world new.granted) some.4 at_entry)
      (subst (λ (e : List ℕ). has_record work.txn (key_index scan.table at) e new.granted ≡ true) some.4 locked)
      (subst (λ (e : List ℕ). value_of e (pairs_of store.world (key_index scan.table at)) ≡ Some (1 ∷ [])) some.4 found))
