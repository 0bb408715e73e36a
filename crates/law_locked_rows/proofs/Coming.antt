-- The steps of a search that locks: to the next key, past the range, and over a row.
-- `Beginning`, `Visiting` and `SearchSteps` cite them. They speak of keys, rows and locks alone, and of no step of the world.
use Rattle.std.proofs.Common.{◌≡◌, ◌∙◌, ◌⊎◌, inl, inr, refl, sym, ap, subst, ℕ, Bool, true, false, ◌&&◌, not, List, length, Option, None, Some, is_some}
use Rattle.std.proofs.lemmas.Bool.{cases_Bool, true≢false, and_parts, and_from}
use Rattle.std.specs.Ordering.{is_le, is_lt}
use Rattle.std.specs.declared.cmp.Ordering.{Ordering}
use Rattle.std.specs.declared.cmp.Ordering.TheVariants.{Less, Equal, Greater}
use Rattle.inno_types.specs.{declared.lock.Lock.Lock, declared.value.Schema.Schema, Ranges.is_within, Ranges.is_from, Ranges.is_up_to}
use Rattle.inno_db.specs.Indexes.{index_of}
use Rattle.store_api.specs.declared.answers.Undo.{Undo}
use Rattle.store_api.specs.declared.answers.Asked.TheVariants.{Granted}
use Rattle.entries.specs.Pairs.{Pair, key_cmp, value_of, IsFirstOf, NonePasses}
use Rattle.entries.proofs.Order.{key_cmp_total, same_key, key_cmp_is}
use Rattle.sql_plan.specs.Visits.{index_key, primary_key}
use Rattle.world.specs.{State.WorldState, Told.pairs_of}
use Rattle.lock_rules.specs.Kinds.{locks_gap, locks_record}
use Rattle.lock_rules.specs.Conflicts.{kind_of}
use Rattle.lock_rules.specs.Coverage.{stands_in, is_in_gap, is_below}
use Rattle.lock_table.specs.View.{Table, IsGranted}
use Rattle.law_locks.specs.Guards.{Guarded, has_gap, has_record, IsOlder}
use Rattle.law_locks.proofs.{Granting.gap_guards, Granting.next_key_guards, Granting.granted_gap, Granting.granted_record, Guarding.KeepsLocks}
use Rattle.law_locks.proofs.{Guarding.answered_locks, Guarding.guarded_kept, Spots.in_gap-from, Pinning.newest_all}
use Rattle.law_locks.proofs.InsertionSpots.{stands_is}
use Rattle.row_search.specs.{declared.scan.Scan.Scan, FoundRows.AreFound, Ranges.lies_in, Ranges.lies_below, Ranges.bound_bytes, Tables.HaveKeys}
use Rattle.row_search.proofs.{KeyOrder.not_lt, KeyOrder.le_not, KeyOrder.le_lt, KeyOrder.le_le, KeyOrder.up_to_below, Coming.comes_next, Coming.none_next}
use Rattle.row_search.proofs.{Coming.comes_behind, Coming.bounds_of, Rows.found_same}
use Rattle.law_stored_rows.specs.Edits.{clustered_index}
use Rattle.law_locked_rows.specs.Now.{row_now}
use Rattle.law_locked_rows.specs.Locking.{records_in, IsKeyIn, to_come, lies_past, AreLocked}
use Rattle.law_locked_rows.specs.Locking.{IsLocking, IsAtEntry}

below_is : (a b : List ℕ) → is_below a b ≡ is_lt (key_cmp a b)
below_is a b = ap is_lt (sym (key_cmp_is a b))

-- a key that passes is above each one that doesn't
abbrev pub Rises : (List ℕ → Bool) → Type 0
Rises passes = (key other : List ℕ) → passes key ≡ true → passes other ≡ false → is_lt (key_cmp other key) ≡ true

lt_le : (a b c : List ℕ) → is_lt (key_cmp a b) ≡ true → is_le (key_cmp b c) ≡ true → is_lt (key_cmp a c) ≡ true
lt_le a b c lt le = elim (cases_Bool (is_lt (key_cmp a c))) [
  | inl is ↦ is
  | inr is_not ↦ absurd (true≢false (sym lt ∙ le_not key_cmp key_cmp_total b a
      (le_le key_cmp key_cmp_total b c a le (not_lt key_cmp key_cmp_total a c is_not))))
]

not_le : (a b : List ℕ) → is_le (key_cmp a b) ≡ false → is_lt (key_cmp b a) ≡ true
not_le a b none = elim (cases_Bool (is_lt (key_cmp b a))) [
  | inl is ↦ is
  | inr is_not ↦ absurd (true≢false (sym (not_lt key_cmp key_cmp_total b a is_not) ∙ none))
]

pub to_come_rises : (scan : Scan) (passed : Option (List ℕ)) → Rises (to_come scan passed)
to_come_rises scan None key other is is_not = lt_le other (bound_bytes scan.range.low) key (not_le (bound_bytes scan.range.low) other is_not) is
to_come_rises scan (Some passed) key other is is_not = le_lt key_cmp key_cmp_total other passed key (not_lt key_cmp key_cmp_total passed other is_not) is

pub same_or_below : (key other : List ℕ) → is_le (key_cmp key other) ≡ true → (key ≡ other) ⊎ (is_lt (key_cmp key other) ≡ true)
same_or_below key other le = go (key_cmp key other) refl
  where
    go : (r : Ordering) → key_cmp key other ≡ r → (key ≡ other) ⊎ (is_lt (key_cmp key other) ≡ true)
    go Less is = inr (ap is_lt is)
    go Equal is = inl (same_key key other is)
    go Greater is = absurd (true≢false (sym le ∙ ap is_le is))

and_true : (a : Bool) → (a && true) ≡ a
and_true true = refl
and_true false = refl

module _ (schema : Schema) (scan : Scan) (s made : ℕ) (log : List Undo) (passes : List ℕ → Bool) (rises : Rises passes) (state : WorldState) (lock : Lock)
    (old new : Table) (granted : IsGranted old new lock) (index_is : lock.spot.index ≡ index_of scan.table scan.which)
    (locking : IsLocking schema scan s lock.txn made log passes state old.granted)
    (keys : HaveKeys schema scan.which (pairs_of state (index_of scan.table scan.which)) (row_now s scan.table state.past)) where
  abbrev index : ℕ
  index = index_of scan.table scan.which

  abbrev pairs : List Pair
  pairs = pairs_of state index

  abbrev GuardedNow : List ℕ → Type 0
  GuardedNow key = Guarded lock.txn index (records_in state index) new.granted key made log

  kept_locks : (i : ℕ) → KeepsLocks lock.txn i old.granted new.granted
  kept_locks i = answered_locks lock.txn i old new lock Granted granted

  before : (key : List ℕ) → IsKeyIn schema scan.which key × (passes key ≡ false) → is_within scan.range key ≡ true → GuardedNow key
  before key past within = guarded_kept lock.txn index (records_in state index) key made log old.granted new.granted (kept_locks index)
      (locking.range key past within)

  gap_now : (spot : Option (List ℕ)) → lock.spot.key ≡ spot → locks_gap (kind_of lock) ≡ true → has_gap lock.txn index spot new.granted ≡ true
  gap_now spot at kind = subst (λ (k : Option (List ℕ)). has_gap lock.txn index k new.granted ≡ true) at
      (subst (λ (i : ℕ). has_gap lock.txn i lock.spot.key new.granted ≡ true) index_is (granted_gap lock old new granted kind))

  record_now : (key : List ℕ) → lock.spot.key ≡ Some key → locks_record (kind_of lock) ≡ true → has_record lock.txn index key new.granted ≡ true
  record_now key at kind = subst (λ (i : ℕ). has_record lock.txn i key new.granted ≡ true) index_is (granted_record lock key at old new granted kind)

  stands : (pair : Pair) → IsFirstOf passes pairs pair → stands_in (records_in state index) (Some pair.0) ≡ true
  stands pair first = stands_is pair.0 pairs ∙ ap is_some first.there

  -- keys to come that lie before the next pair lie in its gap
  gap_of : (pair : Pair) → IsFirstOf passes pairs pair → (key : List ℕ) → passes key ≡ true → is_lt (key_cmp key pair.0) ≡ true
      → is_in_gap (records_in state index) (Some pair.0) key ≡ true
  gap_of pair first key comes below = in_gap-from (records_in state index) (Some pair.0) key (below_is key pair.0 ∙ below) (λ q there under.
      below_is q key ∙ elim (cases_Bool (passes q)) [
        | inl passing ↦ absurd (true≢false (sym (sym (below_is q pair.0) ∙ under)
            ∙ le_not key_cmp key_cmp_total pair.0 q (first.least q (sym (stands_is q pairs) ∙ there) passing)))
        | inr out ↦ rises key q comes out
      ])

  -- and where there is none, in that of the supremum
  gap_last : NonePasses passes pairs → (key : List ℕ) → passes key ≡ true → is_in_gap (records_in state index) None key ≡ true
  gap_last none key comes = in_gap-from (records_in state index) None key refl (λ q there under.
      below_is q key ∙ rises key q comes (none q (sym (stands_is q pairs) ∙ there)))

  within_bounds : (key : List ℕ) → is_within scan.range key ≡ true → (is_from scan.range.low key ≡ true) × (is_up_to scan.range.high key ≡ true)
  within_bounds key inside = and_parts (is_from scan.range.low key) (is_up_to scan.range.high key) (and_parts (not scan.range.empty) _ inside).1

  -- ---- the next key, in the range

  module _ (pair : Pair) (first : IsFirstOf passes pairs pair) where
    up_to : GuardedNow pair.0
        → ((key : List ℕ) → passes key ≡ true → is_lt (key_cmp key pair.0) ≡ true → GuardedNow key)
        → (key : List ℕ) → IsKeyIn schema scan.which key × (is_le (key_cmp key pair.0) ≡ true) → is_within scan.range key ≡ true → GuardedNow key
    up_to it between key may within = elim (cases_Bool (passes key)) [
      | inr past ↦ before key (may.0, past) within
      | inl comes ↦ elim (same_or_below key pair.0 may.1) [
        | inl same ↦ subst (λ (k : List ℕ). GuardedNow k) (sym same) it
        | inr less ↦ between key comes less
      ]
    ]

    below_past : (key : List ℕ) → is_some (value_of key pairs) ≡ true → is_lt (key_cmp key pair.0) ≡ true → passes key ≡ false
    below_past key there less = elim (cases_Bool (passes key)) [
      | inl passing ↦ absurd (true≢false (sym less ∙ le_not key_cmp key_cmp_total pair.0 key (first.least key there passing)))
      | inr out ↦ out
    ]

    rows_below : AreLocked schema scan.table s (lies_below schema scan pair.0) lock.txn state new.granted
    rows_below value row is lies =
        let parts = and_parts (lies_in schema scan row) (is_lt (key_cmp (index_key schema scan.which row) pair.0)) lies in
        (kept_locks (clustered_index scan.table)).records (primary_key schema row) (locking.rows value row is
        (and_from (lies_in schema scan row) (not (passes (index_key schema scan.which row))) parts.0
        (ap not (below_past (index_key schema scan.which row) (keys value row is) parts.1))))

    found_below : AreFound schema scan.which (row_now s scan.table state.past) (lies_below schema scan pair.0) scan.rows.items
    found_below = comes_next schema scan (row_now s scan.table state.past) pairs keys passes locking.found pair first
        (λ row lies no. rises pair.0 (index_key schema scan.which row) first.passes no)

    -- rules 2 and 4: the lock of a record and of the gap before it
    pub comes_to : is_within scan.range pair.0 ≡ true → lock.spot.key ≡ Some pair.0 → locks_gap (kind_of lock) ≡ true → locks_record (kind_of lock) ≡ true
        → IsAtEntry schema scan s lock.txn made log pair.0 state new.granted
    comes_to within at gap own = record {
      within = within;
      range = up_to
          (inl (next_key_guards lock.txn index (records_in state index) new.granted pair.0 (stands pair first) (gap_now (Some pair.0) at gap)
          (record_now pair.0 at own)))
          (λ key comes less. inl (gap_guards lock.txn index (records_in state index) new.granted (Some pair.0) key (stands pair first)
          (gap_now (Some pair.0) at gap) (gap_of pair first key comes less)));
      rows = rows_below;
      found = found_below;
    }

    -- rule 1: the record alone, where it is the one key that the range can hold
    pub comes_to_one : is_within scan.range pair.0 ≡ true → lock.spot.key ≡ Some pair.0 → locks_record (kind_of lock) ≡ true → made ≡ length log
        → ((key : List ℕ) → IsKeyIn schema scan.which key → is_within scan.range key ≡ true → key ≡ pair.0)
        → IsAtEntry schema scan s lock.txn made log pair.0 state new.granted
    comes_to_one within at own now one = record {
      within = within;
      range = λ key may inside. subst (λ (k : List ℕ). GuardedNow k) (sym (one key may.0 inside)) (inr (record {
        pins = record { stands = stands pair first; own = record_now pair.0 at own };
        older = subst (λ (n : ℕ). IsOlder index pair.0 n log) (sym now) (newest_all index pair.0 log);
      }));
      rows = rows_below;
      found = found_below;
    }

    -- ---- behind the range

    -- rules 3 and 5 at a record: the gap before it
    pub comes_behind_all : is_up_to scan.range.high pair.0 ≡ false → lock.spot.key ≡ Some pair.0 → locks_gap (kind_of lock) ≡ true
        → IsLocking schema scan s lock.txn made log (λ key. false) state new.granted
    comes_behind_all out at gap = record {
      range = λ key may inside. elim (cases_Bool (passes key)) [
        | inr out ↦ before key (may.0, out) inside
        | inl comes ↦ inl (gap_guards lock.txn index (records_in state index) new.granted (Some pair.0) key (stands pair first)
            (gap_now (Some pair.0) at gap) (gap_of pair first key comes (below_out key (within_bounds key inside).1)))
      ];
      rows = λ value row is lies. rows_below value row is
          (let inside = (and_parts (lies_in schema scan row) true lies).0 in
          and_from (lies_in schema scan row) (is_lt (key_cmp (index_key schema scan.which row) pair.0)) inside
          (below_out (index_key schema scan.which row) (bounds_of schema scan row inside).1));
      found = found_same schema (row_now s scan.table state.past) (lies_in schema scan) (lies_past schema scan (λ key. false))
          (λ value row is. sym (and_true (lies_in schema scan row)))
          (comes_behind schema scan (row_now s scan.table state.past) pairs keys pair.0 found_below out);
    }
      where
        below_out : (key : List ℕ) → is_up_to scan.range.high key ≡ true → is_lt (key_cmp key pair.0) ≡ true
        below_out key inside = elim (cases_Bool (is_lt (key_cmp key pair.0))) [
          | inl less ↦ less
          | inr not_less ↦ absurd (true≢false (sym (up_to_below scan.range.high key pair.0 (not_lt key_cmp key_cmp_total key pair.0 not_less) inside) ∙ out))
        ]

  -- rules 3 and 5 at the supremum
  pub none_comes : NonePasses passes pairs → lock.spot.key ≡ None → locks_gap (kind_of lock) ≡ true
      → IsLocking schema scan s lock.txn made log (λ key. false) state new.granted
  none_comes none at gap = record {
    range = λ key may inside. elim (cases_Bool (passes key)) [
      | inr out ↦ before key (may.0, out) inside
      | inl comes ↦ inl (gap_guards lock.txn index (records_in state index) new.granted None key refl (gap_now None at gap) (gap_last none key comes))
    ];
    rows = λ value row is lies. (kept_locks (clustered_index scan.table)).records (primary_key schema row) (locking.rows value row is
        (and_from (lies_in schema scan row) (not (passes (index_key schema scan.which row))) (and_parts (lies_in schema scan row) true lies).0
        (ap not (none (index_key schema scan.which row) (keys value row is)))));
    found = found_same schema (row_now s scan.table state.past) (lies_in schema scan) (lies_past schema scan (λ key. false))
        (λ value row is. sym (and_true (lies_in schema scan row)))
        (none_next schema scan (row_now s scan.table state.past) pairs keys passes locking.found none);
  }
