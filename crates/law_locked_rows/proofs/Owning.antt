-- Two sessions at work stand at different places, since no two conflicting locks are granted.
-- Every law here that keeps two sessions apart rests on it. Locks are only looked at.
use Rattle.std.proofs.Common.{◌≡◌, ◌≢◌, ◌∙◌, inl, inr, ⊎_elim, refl, sym, ap, subst, ℕ, true, false, cond, List, [], ◌∷◌, Option, None, Some}
use Rattle.std.proofs.Common.{slice_get}
use Rattle.std.proofs.lemmas.Bool.{cases_Bool, true≢false}
use Rattle.std.specs.Prelude.{◌&&◌, not, is_some}
use Rattle.std.specs.List.{list_any}
use Rattle.inno_types.specs.{declared.value.Schema.Schema, declared.value.Value.Value, declared.lock.Lock.Lock, declared.lock.Spot.Spot}
use Rattle.inno_types.specs.declared.lock.LockKind.TheVariants.{Rec}
use Rattle.inno_types.specs.declared.lock.Mode.TheVariants.{X}
use Rattle.inno_model.specs.Past.{own}
use Rattle.entries.specs.Pairs.{Pair, value_of}
use Rattle.row_versions.specs.{declared.place.Place.Place, Chains.Chains, Chains.is_same_place}
use Rattle.law_stored_rows.specs.Edits.{clustered_index}
use Rattle.law_stored_rows.proofs.Values.{same_place}
use Rattle.law_past_agreement.specs.Rows.{is_at}
use Rattle.world.specs.{State.WorldState, State.Session, State.Work, State.HasWork}
use Rattle.law_world_agreement.specs.Agreement.{Agrees}
use Rattle.row_changes.specs.Edits.{IsKeyAt}
use Rattle.row_changes.proofs.Sessions.{one_found}
use Rattle.law_logged_changes.specs.Logs.{IsAloneAt}
use Rattle.law_logged_changes.proofs.Listed.{listed_of}
use Rattle.lock_rules.specs.Kinds.{is_shared, locks_record}
use Rattle.lock_rules.specs.Conflicts.{kind_of}
use Rattle.lock_rules.specs.Coverage.{stands_in}
use Rattle.lock_rules.proofs.Booleans.{first, or_cases}
use Rattle.lock_table.specs.Queue.{AreApart}
use Rattle.lock_table.specs.View.{Table, IsGranted}
use Rattle.law_locks.specs.Guards.{has_alone, has_record, is_record_lock_at, is_lock_at}
use Rattle.law_locks.specs.Stand.{LocksStand}
use Rattle.law_locks.proofs.{Locks.any_other, Locks.lock_at, Clashes.nobody_beside, Granting.granted_alone}
use Rattle.law_locks.specs.Index.{keys_of}
use Rattle.law_locks.proofs.InsertionSpots.{stands_is}
use Rattle.desks.specs.{declared.desk.Desk.Desk, declared.desk.Doing.Doing, Desks.desk_at, Desks.doing_in, Desks.doing_at}
use Rattle.desks.specs.declared.desk.Doing.TheVariants.{Changing, Lagging, Undoing}
use Rattle.desks.specs.Holding.{newest_place}
use Rattle.row_changes.specs.declared.row_change.RowChange.TheVariants.{Record, Keys}
use Rattle.law_other_places.specs.Beside.{IsKeyOf, LeavesSession}
use Rattle.desks.specs.Holding.{works_in, is_found, changed_place}
use Rattle.law_locked_rows.specs.Owning.{HasAlone, AreOwned, KeepsAlone}
use Rattle.law_other_places.proofs.Sessions.{each}

one_schema : (place : Place) (schemas : List Schema) (a b : List ℕ) (x : IsKeyOf place schemas a) (y : IsKeyOf place schemas b) → x.schema ≡ y.schema
one_schema place schemas a b x y = one_found x.schema y.schema x.there y.there

pub one_key : (place : Place) (schemas : List Schema) (a b : List ℕ) → IsKeyOf place schemas a → IsKeyOf place schemas b → a ≡ b
one_key place schemas a b x y = spelled (subst (λ (s : Schema). IsKeyAt s place.key a) (one_schema place schemas a b x y) x.at) y.at
  where
    spelled : {schema : Schema} {key : Value} {a b : List ℕ} → IsKeyAt schema key a → IsKeyAt schema key b → a ≡ b
    spelled x y = cc (x.primary, y.primary, x.spelled, y.spelled)

pub alone_has : (txn index : ℕ) (key : List ℕ) (granted : List Lock) → has_alone txn index key granted ≡ true → has_record txn index key granted ≡ true
alone_has txn index key granted =
    any_other (λ lock. is_record_lock_at txn index key lock && not (is_shared lock.mode)) (is_record_lock_at txn index key)
    (λ lock is. first (is_record_lock_at txn index key lock) _ is) granted

-- ---- two sessions

module _ {chains : Chains} {state : WorldState} (agrees : Agrees chains state) {granted : List Lock} (apart : AreApart granted) where
  pub one_owner : (s t : ℕ) (place : Place) → s ≢ t → HasAlone s place state granted → HasAlone t place state granted → ⊥
  one_owner s t place differ x y =
      let txns : x.work.txn ≢ y.work.txn = λ same.
      differ ((listed_of chains state t y.session y.work agrees y.has_work).alone s x.session x.work x.has_work same) in
      let key = one_key place state.schemas x.key y.key x.key_is y.key_is in
      nobody_beside x.work.txn y.work.txn (clustered_index place.table) y.key txns granted apart y.alone
      (subst (λ (k : List ℕ). has_record x.work.txn (clustered_index place.table) k granted ≡ true) key
      (alone_has x.work.txn (clustered_index place.table) x.key granted x.alone))

  module _ {desks : List Desk} (owned : AreOwned state desks granted) (t : ℕ) {place : Place} (mine : HasAlone t place state granted) where
    -- no other session is at work there
    pub works_apart : (s : ℕ) (other : Place) → s ≢ t → works_in state s (doing_at s desks) ≡ Some other → is_same_place place other ≡ false
    works_apart s other differ works = ⊎_elim
        (λ same. absurd (one_owner s t place differ
        (subst (λ (p : Place). HasAlone s p state granted) (sym (same_place place other same)) (owned.working s other works)) mine))
        (λ not. not) (cases_Bool (is_same_place place other))

    -- or has changed it
    pub alone_at : IsAloneAt place t state
    alone_at s differ = ⊎_elim (λ has. absurd (one_owner s t place differ (owned.changed s place has) mine)) (λ none. none)
        (cases_Bool (list_any (is_at state.schemas place) (own s state.past)))

-- ---- a place without a record is nobody's, since locks stand on records

module _ {state : WorldState} {desks : List Desk} {granted : List Lock} (owned : AreOwned state desks granted) (place : Place) (key : List ℕ)
    (key_is : IsKeyOf place state.schemas key) (pairs : List Pair) (absent : value_of key pairs ≡ None)
    (stand : LocksStand (clustered_index place.table) (keys_of pairs) granted) where
  any_stands : (txn : ℕ) (locks : List Lock) → LocksStand (clustered_index place.table) (keys_of pairs) locks
      → has_record txn (clustered_index place.table) key locks ≡ true → stands_in (keys_of pairs) (Some key) ≡ true
  any_stands txn [] all has = absurd (cc)
  any_stands txn (lock ∷ locks) all has = elim (or_cases (is_record_lock_at txn (clustered_index place.table) key lock) _ has) [
    | inl this ↦
        let is = lock_at txn (clustered_index place.table) (Some key) lock (first (is_lock_at txn (clustered_index place.table) (Some key) lock) _ this) in
        subst (λ (s : Option (List ℕ)). stands_in (keys_of pairs) s ≡ true) is.key (all.0 is.here)
    | inr rest ↦ any_stands txn locks all.1 rest
  ]

  nobody_has : (s : ℕ) → HasAlone s place state granted → ⊥
  nobody_has s is =
      let same = one_key place state.schemas is.key key is.key_is key_is in
      let has = subst (λ (k : List ℕ). has_record is.work.txn (clustered_index place.table) k granted ≡ true) same
      (alone_has is.work.txn (clustered_index place.table) is.key granted is.alone) in
      true≢false (sym (any_stands is.work.txn granted stand has) ∙ stands_is key pairs ∙ ap is_some absent)

  pub free_apart : (s : ℕ) (other : Place) → works_in state s (doing_at s desks) ≡ Some other → is_same_place place other ≡ false
  free_apart s other works = ⊎_elim
      (λ same. absurd (nobody_has s
      (subst (λ (p : Place). HasAlone s p state granted) (sym (same_place place other same)) (owned.working s other works))))
      (λ not. not) (cases_Bool (is_same_place place other))

  pub free_of_all : (s : ℕ) → list_any (is_at state.schemas place) (own s state.past) ≡ false
  free_of_all s = ⊎_elim (λ has. absurd (nobody_has s (owned.changed s place has))) (λ none. none)
      (cases_Bool (list_any (is_at state.schemas place) (own s state.past)))

-- ---- a request that is granted makes the place its own

pub owns_by_request : (s : ℕ) (place : Place) (state : WorldState) (session : Session) (work : Work) (key : List ℕ) (lock : Lock) (old new : Table)
    → HasWork s session work state → IsKeyOf place state.schemas key → lock.txn ≡ work.txn
    → lock.spot ≡ record { index = clustered_index place.table; key = Some key } → lock.kind ≡ Rec → lock.mode ≡ X → IsGranted old new lock
    → HasAlone s place state new.granted
owns_by_request s place state session work key lock old new has key_is txn spot kind mode granted = record {
  session = session;
  work = work;
  has_work = has;
  key = key;
  key_is = key_is;
  alone =
      subst (λ (n : ℕ). has_alone n (clustered_index place.table) key new.granted ≡ true) txn
      (subst (λ (at : Spot). has_alone lock.txn at.index key new.granted ≡ true) spot
      (granted_alone lock key (ap (λ (at : Spot). at.key) spot) old new granted (locks kind) (ap is_shared mode)));
}
  where
    locks : lock.kind ≡ Rec → locks_record (kind_of lock) ≡ true
    locks is = ap (λ k. locks_record (kind_of (record lock { kind = k }))) is

-- ---- what stays owned

owned_still : (s : ℕ) (place : Place) {old new : WorldState} {granted now : List Lock} → new.schemas ≡ old.schemas → LeavesSession s old new
    → KeepsAlone s old granted now → HasAlone s place old granted → HasAlone s place new now
owned_still s place {old} {new} schemas mine keeps is = record {
  session = is.session;
  work = is.work;
  has_work = record { session_is = mine.session ∙ is.has_work.session_is; work_is = is.has_work.work_is };
  key = is.key;
  key_is = record { schema = is.key_is.schema; there = ap (λ (x : List Schema). slice_get x place.table) schemas ∙ is.key_is.there; at = is.key_is.at };
  alone = keeps is.session is.work (clustered_index place.table) is.key is.has_work is.alone;
}

works_as : (old new : WorldState) (s : ℕ) (doing : Doing) → new.schemas ≡ old.schemas → own s new.past ≡ own s old.past
    → works_in new s doing ≡ works_in old s doing
works_as old new s (Changing (Record change key after)) schemas own_is =
    ap (λ (x : List Schema). cond (is_found change.stage) (changed_place change (slice_get x change.table)) None) schemas
works_as old new s (Changing (Keys change)) schemas own_is = λ i. newest_place (schemas i) (own_is i)
works_as old new s Lagging schemas own_is = λ i. newest_place (schemas i) (own_is i)
works_as old new s Undoing schemas own_is = λ i. newest_place (schemas i) (own_is i)
works_as old new s other schemas own_is = refl

-- A step of one session leaves the others' places theirs, where it takes no lock of theirs.
pub owned_after : (t : ℕ) {old new : WorldState} {desks now : List Desk} {granted granted_now : List Lock} → AreOwned old desks granted
    → new.schemas ≡ old.schemas → ((s : ℕ) → s ≢ t → LeavesSession s old new) → ((s : ℕ) → s ≢ t → desk_at s now ≡ desk_at s desks)
    → ((s : ℕ) → s ≢ t → KeepsAlone s old granted granted_now)
    → ((place : Place) → list_any (is_at new.schemas place) (own t new.past) ≡ true → HasAlone t place new granted_now)
    → ((place : Place) → works_in new t (doing_at t now) ≡ Some place → HasAlone t place new granted_now) → AreOwned new now granted_now
owned_after t {old} {new} {desks} {now} {granted} {granted_now} owned schemas sessions same keeps changed working = record {
  changed = each t (λ s. (place : Place) → list_any (is_at new.schemas place) (own s new.past) ≡ true → HasAlone s place new granted_now) changed
      (λ s differ place has. owned_still s place schemas (sessions s differ) (keeps s differ)
      (owned.changed s place (sym (λ i. list_any (is_at (schemas i) place) ((sessions s differ).own_is i)) ∙ has)));
  working = each t (λ s. (place : Place) → works_in new s (doing_at s now) ≡ Some place → HasAlone s place new granted_now) working
      (λ s differ place works. owned_still s place schemas (sessions s differ) (keeps s differ)
      (owned.working s place (sym (works_as old new s (doing_at s desks) schemas (sessions s differ).own_is)
      ∙ sym (ap (λ desk. works_in new s (doing_in desk)) (same s differ)) ∙ works)));
}
