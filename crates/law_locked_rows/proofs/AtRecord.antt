-- The local step of a search that locks: it has locked an entry, and now the row's record. What it reads there is what its session sees,
-- so it goes on behind the entry, with the row or without.
use Rattle.std.proofs.Common.{Vec, Global, ◌≡◌, ◌≢◌, ◌∙◌, sym, ap, subst, ℕ, ◌≤◌, true, false, List, [], ◌∷◌, ◌++◌, length, Option, None, Some, slice_get}
use Rattle.inno_types.specs.{declared.lock.Lock.Lock, declared.value.Schema.Schema, declared.value.Value.Value, declared.value.Kind.Kind}
use Rattle.store_api.specs.declared.answers.Undo.{Undo}
use Rattle.store_api.specs.declared.answers.Version.{Version as Coded}
use Rattle.key_codec.specs.Keys.{HasKey, key_code}
use Rattle.entries.specs.Pairs.{value_of}
use Rattle.row_versions.specs.declared.place.Place.{Place}
use Rattle.sql_plan.specs.Visits.{index_key, kind_at, kind_if}
use Rattle.law_stored_rows.specs.{Edits.clustered_index, Records.IsCodeOf, Records.row_shown}
use Rattle.world.specs.{State.Session, State.Work, State.HasWork, Told.IsTold, Told.pairs_of}
use Rattle.row_changes.specs.Edits.{IsKeyAt}
use Rattle.law_locks.specs.Guards.{has_record}
use Rattle.row_search.specs.{declared.scan.Scan.Scan, declared.found.FoundRow.FoundRow, Ranges.primary_part, Searches.IsSeenAt}
use Rattle.row_search.proofs.{Coming.is_passed}
use Rattle.desks.specs.{Desks.Store, Desks.doing_at, Desks.is_quiet_doing}
use Rattle.law_other_places.specs.Beside.{IsKeyOf}
use Rattle.law_locked_rows.specs.Many.{IsHeldByAll}
use Rattle.law_locked_rows.specs.Now.{row_now}
use Rattle.law_locked_rows.specs.Locking.{to_come, IsLocking, IsAtEntry}
use Rattle.law_locked_rows.proofs.Locked.{record_tells, nothing_tells}
use Rattle.law_locked_rows.proofs.Showing.{searched, keys_now, homes_now}
use Rattle.law_locked_rows.proofs.Visiting.{passes_row}
use Rattle.law_locked_rows.proofs.Visiting.{keeps_row}

module _ {store : Store} {granted : List Lock} (held : IsHeldByAll store granted) (told : IsTold store.world) {s : ℕ} {session : Session} {work : Work}
    (has : HasWork s session work store.world) (searching : is_quiet_doing (doing_at s store.desks) ≡ true) {schema : Schema} (scan : Scan)
    (there : slice_get store.world.schemas scan.table ≡ Some schema) (le : scan.which ≤ length schema.keys) {made : ℕ} {log : List Undo} {entry : List ℕ}
    (at : IsAtEntry schema scan s work.txn made log entry store.world granted) (value : Value) (at_key : IsKeyAt schema value (primary_part schema entry))
    (locked : has_record work.txn (clustered_index scan.table) (primary_part schema entry) granted ≡ true) where
  abbrev row_at : Value → Option (List Value)
  row_at = row_now s scan.table store.world.past

  abbrev place : Place
  place = record { table = scan.table; key = value }

  abbrev Above : Scan → Type 0
  Above next = IsLocking schema next s work.txn made log (to_come scan (Some entry)) store.world granted

  abbrev key_is : IsKeyOf place store.world.schemas (primary_part schema entry)
  key_is = record { schema = schema; there = there; at = at_key }

  kind : kind_at schema.columns schema.primary ≡ at_key.column.kind
  kind = ap kind_if at_key.primary

  has_key : HasKey (kind_at schema.columns schema.primary) value
  has_key = subst (λ (k : Kind). HasKey k value) (sym kind) at_key.has_key

  part : primary_part schema entry ≡ key_code (kind_at schema.columns schema.primary) value
  part = at_key.spelled ∙ ap (λ (k : Kind). key_code k value) (sym kind)

  -- no row is seen at the place, or one of another entry
  pub passes_if : ((row : List Value) → row_at value ≡ Some row → index_key schema scan.which row ≢ entry) → Above scan
  passes_if none = passes_row at (searched held told has searching scan there le) (keys_now held told has searching scan there le)
      (is_passed schema scan row_at le (homes_now held told has searching scan there le) entry value has_key part none)

  pub none_passes : row_at value ≡ None → Above scan
  none_passes none = passes_if (λ row seen. absurd (not_both row (sym none ∙ seen)))
    where
      not_both : (row : List Value) → None ≡ Some row → ⊥
      not_both row e = cc

  -- no record is there
  pub absent_passes : value_of (primary_part schema entry) (pairs_of store.world (clustered_index scan.table)) ≡ None → Above scan
  absent_passes absent = none_passes (nothing_tells held has place (primary_part schema entry) key_is locked absent)

  -- ---- a record is there

  module _ (bytes : List ℕ) (coded : Coded) (found : value_of (primary_part schema entry) (pairs_of store.world (clustered_index scan.table)) ≡ Some bytes)
      (code : IsCodeOf schema (primary_part schema entry) bytes coded) where
    shown : row_at value ≡ row_shown coded.marked coded.row
    shown = record_tells held has place (primary_part schema entry) key_is locked bytes coded found code

    pub marked_passes : coded.marked ≡ true → Above scan
    marked_passes is = none_passes (shown ∙ ap (λ b. row_shown b coded.row) is)

    module _ (is : coded.marked ≡ false) where
      row_is : row_at value ≡ Some coded.row
      row_is = shown ∙ ap (λ b. row_shown b coded.row) is

      pub other_passes : index_key schema scan.which coded.row ≢ entry → Above scan
      other_passes other = passes_if (λ row seen same. other (ap (index_key schema scan.which) (some_same coded.row row (sym row_is ∙ seen)) ∙ same))
        where
          some_same : (a b : List Value) → Some a ≡ Some b → a ≡ b
          some_same a b e = cc

      -- the row is found, and its record is locked
      pub own_found : (scan.which ≡ 0 → primary_part schema entry ≡ entry) → index_key schema scan.which coded.row ≡ entry
          → (rows : Vec FoundRow Global) → rows.items ≡ scan.rows.items ++ record { key = primary_part schema entry; row = coded.row } ∷ []
          → Above (record scan { rows = rows })
      own_found whole own rows rows_are =
          let h = homes_now held told has searching scan there le value coded.row row_is in
          let seen : IsSeenAt schema row_at (primary_part schema entry) coded.row = record {
            seen = ap row_at h.at.key_is ∙ row_is;
            has_key = subst (HasKey (kind_at schema.columns schema.primary)) (sym h.at.key_is) h.has_key;
            key_is = part ∙ ap (key_code (kind_at schema.columns schema.primary)) (sym h.at.key_is);
          } in
          keeps_row at le (homes_now held told has searching scan there le) whole coded.row seen own locked rows rows_are
