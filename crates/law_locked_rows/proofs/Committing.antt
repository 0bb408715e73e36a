-- Another's commit: what a session has searched and keeps is as it was, and no row that the commit changed lies there.
-- `Ending`, `Places` and `Unmet` cite it. Which rows have changed is told in `Barred`.
use Rattle.std.proofs.Common.{arith, ◌≡◌, ◌≢◌, ◌∙◌, ◌⊎◌, inl, inr, refl, sym, ap, subst, ℕ, zero, suc, ◌+◌, ◌≤◌, Bool, true, List, ◌∷◌, length, None, Some}
use Rattle.std.proofs.Common.{slice_get}
use Rattle.std.proofs.lemmas.Bool.{cases_Bool}
use Rattle.std.specs.List.{list_any}
use Rattle.inno_types.specs.{declared.lock.Lock.Lock, declared.value.Schema.Schema, declared.value.Value.Value, declared.value.Key.Key}
use Rattle.inno_types.specs.{declared.stmt.Range.Range}
use Rattle.inno_db.specs.{Indexes.index_of}
use Rattle.inno_model.specs.{declared.event.Event.Event, declared.event.Event.TheVariants.Committed, Past.own, Past.changed}
use Rattle.store_api.specs.declared.answers.Undo.{Undo}
use Rattle.row_versions.specs.declared.place.Place.{Place}
use Rattle.law_past_agreement.specs.{Rows.is_at}
use Rattle.entries.specs.Pairs.{Pair}
use Rattle.law_stored_rows.specs.Edits.{clustered_index}
use Rattle.law_locks.specs.Guards.{Guarded}
use Rattle.law_locks.specs.Index.{keys_of}
use Rattle.lock_table.specs.Records.{after_end}
use Rattle.law_locks.proofs.Guarding.{ended_locks, guarded_kept}
use Rattle.world.specs.{State.WorldState, State.Session, State.Work, State.HasWork, Told.pairs_of}
use Rattle.row_search.specs.declared.scan.Scan.{Scan}
use Rattle.row_search.proofs.Keys.{key_there_at}
use Rattle.desks.specs.{Desks.Store, Desks.doing_at, Holding.lags_in}
use Rattle.law_locked_rows.specs.Many.{IsHeldByAll}
use Rattle.law_locked_rows.specs.Now.{row_now}
use Rattle.law_locked_rows.specs.Locking.{lies_past, lies_to, KeepsTo, IsLocking}
use Rattle.law_locked_rows.specs.Entries.{AreEntriesOwned}
use Rattle.law_locked_rows.specs.Keeping.{Fails, StayOrFail, LeavesGuards}
use Rattle.law_locked_rows.proofs.Barred.{fails_before, fails_after_clustered, fails_after_keyed}
use Rattle.law_locked_rows.proofs.Commits.{same_then}
use Rattle.law_locked_rows.proofs.Keeping.{locking_kept}

-- the clustered index, or that of one of the table's keys
pub data_of : (schema : Schema) (which : ℕ) → which ≤ length schema.keys
    → (which ≡ 0) ⊎ ((at : ℕ) × (which ≡ 1 + at) × (key : Key) × (slice_get schema.keys at ≡ Some key))
data_of schema zero le = inl refl
data_of schema (suc at) le = let key = key_there_at schema at le in inr (at, omega arith, key.0, key.1)

-- what a search has come past it keeps
pub keeps_of : {schema : Schema} {scan : Scan} {s txn made : ℕ} {log : List Undo} {passes : List ℕ → Bool} {state : WorldState} {granted : List Lock}
    → IsLocking schema scan s txn made log passes state granted
    → KeepsTo schema scan.table scan.which scan.range s txn made log passes state granted
keeps_of is = record { guarded = is.range; rows = is.rows }

module _ {store : Store} {granted : List Lock} (held : IsHeldByAll store granted) (owned : AreEntriesOwned held.chains held.rows.said store.world granted)
    {s : ℕ} {session : Session} {work : Work} (has_work : HasWork s session work store.world) (t : ℕ) (differs : s ≢ t)
    (quiet : lags_in store.world t (doing_at t store.desks) ≡ None) {schema : Schema} (table : ℕ)
    (there : slice_get store.world.schemas table ≡ Some schema) where
  abbrev past : List Event
  past = store.world.past

  module _ {which : ℕ} (le : which ≤ length schema.keys) {range : Range} {made : ℕ} {log : List Undo} {passes : List ℕ → Bool}
      (keeps : KeepsTo schema table which range s work.txn made log passes store.world granted) where
    abbrev lies : List Value → Bool
    lies = lies_to schema which range passes

    abbrev at : Value → Place
    at value = record { table = table; key = value }

    -- no row lies there that was changed, neither before nor now
    pub changed_fail : (value : Value) → list_any (is_at store.world.schemas (at value)) (own t past) ≡ true
        → Fails lies (row_now s table past value) × Fails lies (row_now s table (Committed t ∷ past) value)
    changed_fail value changed = (
      fails_before held has_work t differs quiet table there value changed keeps,
      elim (data_of schema which le) [
        | inl zeroth ↦ fails_after_clustered held has_work t differs quiet table there value changed keeps zeroth
        | inr keyed ↦ fails_after_keyed held has_work t differs quiet table there value changed keeps owned keyed.0 keyed.1 keyed.2 keyed.3
      ],
    )

    pub commit_stays : StayOrFail lies (row_now s table past) (row_now s table (Committed t ∷ past))
    commit_stays value = elim (cases_Bool (list_any (is_at store.world.schemas (at value)) (own t past))) [
      | inl changed ↦ inr (changed_fail value changed)
      | inr none ↦ inl (same_then past t s differs (at value)
          (ap (λ schemas. list_any (is_at schemas (at value)) (own t past)) (sym held.agrees.lists.tables) ∙ none))
    ]

-- So a search that is under way knows behind the commit what it knew.
pub commit_leaves : {store : Store} {granted : List Lock} (waiting : List Lock) (held : IsHeldByAll store granted)
    → AreEntriesOwned held.chains held.rows.said store.world granted → {s : ℕ} {session : Session} {work : Work} → HasWork s session work store.world
    → (t : ℕ) (theirs : ℕ) → s ≢ t → work.txn ≢ theirs → lags_in store.world t (doing_at t store.desks) ≡ None → {schema : Schema} (scan : Scan)
    → slice_get store.world.schemas scan.table ≡ Some schema → scan.which ≤ length schema.keys → {made : ℕ} {log : List Undo} {passes : List ℕ → Bool}
    → (new : WorldState) → ((index : ℕ) → pairs_of new index ≡ pairs_of store.world index) → new.past ≡ Committed t ∷ store.world.past
    → IsLocking schema scan s work.txn made log passes store.world granted
    → IsLocking schema scan s work.txn made log passes new (after_end theirs granted waiting).granted
commit_leaves {store} {granted} waiting held owned {s} {session} {work} has_work t theirs differs txns quiet {schema} scan there le {made} {log} {passes} new
    pairs past_is is =
    locking_kept leaves
    (subst (λ (h : List Event). StayOrFail (lies_past schema scan passes) (row_now s scan.table store.world.past) (row_now s scan.table h)) (sym past_is)
    (commit_stays held owned has_work t differs quiet scan.table there le (keeps_of is))) is
  where
    leaves : LeavesGuards scan work.txn made log store.world new granted (after_end theirs granted waiting).granted
    leaves = record {
      guards = λ key was. subst (λ (ps : List Pair). Guarded work.txn (index_of scan.table scan.which) (keys_of ps)
          (after_end theirs granted waiting).granted key made log) (sym (pairs (index_of scan.table scan.which)))
          (guarded_kept work.txn (index_of scan.table scan.which) (keys_of (pairs_of store.world (index_of scan.table scan.which))) key made log granted
          (after_end theirs granted waiting).granted (ended_locks work.txn (index_of scan.table scan.which) theirs granted waiting txns) was);
      records = (ended_locks work.txn (clustered_index scan.table) theirs granted waiting txns).records;
    }
