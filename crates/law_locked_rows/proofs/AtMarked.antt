-- The local step at a marked entry of a key: once it is locked, the search goes on behind it without a look at the record.
-- `KeySteps` makes a step of the whole store of it. What the entry tells is read in `Marked`.
use Rattle.std.proofs.Common.{◌≡◌, ◌∙◌, sym, ap, subst, ℕ, suc, ◌≤◌, true, List, [], ◌∷◌, length, Some}
use Rattle.std.proofs.lemmas.Bool.{true≢false}
use Rattle.inno_types.specs.{declared.lock.Lock.Lock, declared.value.Value.Value}
use Rattle.store_api.specs.declared.answers.Undo.{Undo}
use Rattle.key_codec.specs.Keys.{HasKey, HasEntry, key_code, entry_code}
use Rattle.key_codec.proofs.Once.{same_entry}
use Rattle.entries.specs.Pairs.{value_of}
use Rattle.row_versions.specs.declared.place.Place.{Place}
use Rattle.sql_plan.specs.Visits.{index_key, primary_key, kind_at, kind_if}
use Rattle.law_stored_rows.specs.{Edits.key_index, Entries.has_value, Entries.value_in}
use Rattle.law_stored_rows.proofs.Values.{one_key, value_itself}
use Rattle.world.specs.{State.Session, State.Work, State.HasWork, Told.IsTold, Told.pairs_of}
use Rattle.law_locks.specs.Guards.{has_record}
use Rattle.row_search.specs.{declared.scan.Scan.Scan}
use Rattle.row_search.proofs.{Keys.keyed_is, Keys.fits_in, Keys.key_is_value, Others.bits_in}
use Rattle.desks.specs.{Desks.Store, Desks.doing_at, Desks.is_quiet_doing}
use Rattle.law_locked_rows.specs.Many.{IsHeldByAll}
use Rattle.law_locked_rows.specs.Now.{row_now}
use Rattle.law_locked_rows.specs.Locking.{to_come, IsLocking, IsAtEntry}
use Rattle.law_locked_rows.specs.Entries.{IsKeyed, AreEntriesOwned}
use Rattle.law_locked_rows.proofs.Showing.{searched, keys_now, homes_now}
use Rattle.law_locked_rows.proofs.Visiting.{passes_row}
use Rattle.law_locked_rows.proofs.Marked.{lacks_value}

module _ {store : Store} {granted : List Lock} (held : IsHeldByAll store granted) (owned : AreEntriesOwned held.chains held.rows.said store.world granted)
    (told : IsTold store.world) {s : ℕ} {session : Session} {work : Work} (has : HasWork s session work store.world)
    (searching : is_quiet_doing (doing_at s store.desks) ≡ true) (scan : Scan) (at : ℕ) (which_is : scan.which ≡ suc at) (value key : Value)
    (keyed : IsKeyed (record { table = scan.table; key = key }) at store.world) (le : scan.which ≤ length keyed.schema.keys)
    (has_entry : HasEntry keyed.indexed.kind value) where
  abbrev place : Place
  place = record { table = scan.table; key = key }

  abbrev entry : List ℕ
  entry = entry_code keyed.indexed.kind value (key_code keyed.primary.kind key)

  -- a row with this entry has the value, and stands at the place
  tells : (other : Value) (row : List Value) → row_now s scan.table store.world.past other ≡ Some row → index_key keyed.schema scan.which row ≡ entry
      → (other ≡ key) × (has_value keyed.key.column value (Some row) ≡ true)
  tells other row is same =
      let h = homes_now held told has searching scan keyed.there le other row is in
      let kind : kind_at keyed.schema.columns keyed.schema.primary ≡ keyed.primary.kind = ap kind_if keyed.primary_is in
      let spelled : entry_code keyed.indexed.kind (value_in keyed.key.column row) (primary_key keyed.schema row) ≡ entry
      = sym (ap (λ n. index_key keyed.schema n row) which_is ∙ keyed_is keyed.schema at row keyed.key keyed.indexed keyed.key_is keyed.indexed_is) ∙ same in
      let parts = same_entry keyed.indexed.kind (value_in keyed.key.column row) value (primary_key keyed.schema row) (key_code keyed.primary.kind key)
      (fits_in keyed.schema.columns row keyed.key.column keyed.indexed h.at.fits keyed.indexed_is) has_entry.0
      (bits_in row keyed.key.column h.at.bits) has_entry.1 spelled in (
        one_key keyed.primary.kind other key (subst (λ k. HasKey k other) kind h.has_key) keyed.has_key
            (sym (key_is_value keyed.schema other row h ∙ ap (λ k. key_code k other) kind) ∙ parts.1),
        ap (λ (v : Value). has_value keyed.key.column v (Some row)) (sym parts.0) ∙ value_itself (value_in keyed.key.column row),
      )

  pub marked_passes : {made : ℕ} {log : List Undo} → IsAtEntry keyed.schema scan s work.txn made log entry store.world granted
      → has_record work.txn (key_index scan.table at) entry granted ≡ true
      → value_of entry (pairs_of store.world (key_index scan.table at)) ≡ Some (1 ∷ [])
      → IsLocking keyed.schema scan s work.txn made log (to_come scan (Some entry)) store.world granted
  marked_passes is locked marked = passes_row is (searched held told has searching scan keyed.there le) (keys_now held told has searching scan keyed.there le)
      (λ other row seen lies same.
      let t = tells other row seen same in
      true≢false (sym t.1 ∙ lacks_value held owned has place at keyed value has_entry locked marked searching row
      (subst (λ (k : Value). row_now s scan.table store.world.past k ≡ Some row) t.0 seen)))
