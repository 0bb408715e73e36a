-- How the steps end that go along the searched index: before its range, at a record or an entry in it, and past it.
use Rattle.std.proofs.Common.{Vec, Global, ◌≡◌, ◌≢◌, ◌∙◌, inl, inr, refl, sym, ap, subst, ℕ, ◌≤◌, ◌==◌, Bool, true, false, ◌&&◌, ◌||◌, not, List, [], ◌∷◌}
use Rattle.std.proofs.Common.{length, Option, None, Some}
use Rattle.std.specs.Prelude.{is_none, is_some}
use Rattle.inno_types.specs.{declared.lock.Lock.Lock, declared.lock.Spot.Spot, declared.value.Schema.Schema}
use Rattle.inno_db.specs.Indexes.{index_of}
use Rattle.store_api.specs.declared.moves.Move.{Move}
use Rattle.store_api.specs.declared.moves.Move.TheVariants.{At, End}
use Rattle.entries.specs.{Pairs.Pair, Calls.Seeks}
use Rattle.lock_rules.specs.Rules.{number_of}
use Rattle.lock_table.specs.{View.Table, View.IsAskedFor, View.must_wait, Queue.is_covered}
use Rattle.lock_rules.specs.{Conflicts.conflicts, Conflicts.kind_of, Conflicts.kinds_conflict, Spots.same_spot}
use Rattle.inno_types.specs.{declared.lock.Mode.Mode, declared.lock.LockKind.LockKind, declared.lock.LockKind.TheVariants.Gap}
use Rattle.row_locking.specs.declared.asker.Asker.{Asker}
use Rattle.std.specs.List.{list_any}
use Rattle.std.proofs.lemmas.Bool.{false≢true, eq-eqb}
use Rattle.lock_rules.proofs.Booleans.{and_false}
use Rattle.world.specs.{State.WorldState, Indexes.Calls, Locks.MayAsk, Locks.Asks}
use Rattle.world.specs.declared.lock_world.LockAnswer.TheVariants as answer
use Rattle.row_search.specs.{declared.found.FoundRow.FoundRow}
use Rattle.row_search.proofs.Goes.{call_moves, call_unchanged, moves_unchanged, seek_put_off}
use Rattle.row_locking.specs.declared.search.LockingSearch.{LockingSearch}
use Rattle.row_locking.specs.declared.phase.LockingPhase.TheVariants.{Next}
use Rattle.row_locking.specs.declared.bounds.Side.TheVariants.{Within, Behind}
use Rattle.row_locking.specs.Rules.{lock_by, TellsOneKey, rule_within, rule_past}
use Rattle.row_locking.specs.Searches.{MayLock, PhaseMay}
use Rattle.row_locking.specs.Comes.{IsOnSide, Meets, IsPast, from_bytes}
use Rattle.row_locking.specs.Kept.{IsKept, kept_with}
use Rattle.row_locking.specs.Steps.{GoesOn, IsHindered, HasToWait, phase_behind}
use Rattle.row_locking.proofs.{Fits.fits_within, Fits.fits_past, Coming.next_told, Going.may_ask, Going.may_behind}

abbrev pub index_in : LockingSearch → ℕ
index_in search = index_of search.scan.table search.scan.which

abbrev pub Sought : LockingSearch → List ℕ → WorldState → WorldState → Move → Type 0
Sought search from old new answer = Calls (index_in search) (λ before after. Seeks search.asker.session from before after answer) old new

abbrev pub at_next : LockingSearch → LockingSearch
at_next machine = record machine { phase = Next }

abbrev pub still : LockingSearch → Vec FoundRow Global → LockingSearch
still machine rows = record (at_next machine) { scan = record machine.scan { rows = rows } }

abbrev pub spot_in : LockingSearch → Option (List ℕ) → Spot
spot_in machine key = record { index = index_in machine; key = key }

-- ---- the next pair

module _ {schema : Schema} {old new : WorldState} (search : LockingSearch) (may : MayLock schema old search) (from : List ℕ)
    (from_is : from ≡ from_bytes search.scan.range.low search.passed) where
  pub met_at : (key value : List ℕ) → Sought search from old new (At key value) → Meets schema old new search (Some (key, value))
  met_at key value c = record {
    may = may;
    moves = call_moves c search.asker.session (key, value) c.index_is.here.1;
    next = next_told search.scan search.passed (Some (key, value)) (old.indexes (index_in search)).pairs (new.indexes (index_in search)).pairs
        (rw from_is at c.index_is.here.0)
        c.index_is.here.1.pairs c.index_is.sound;
  }

  pub met_end : Sought search from old new End → Meets schema old new search None
  met_end c = record {
    may = may;
    moves = moves_unchanged search.asker.session (index_in search) old new (call_unchanged c c.index_is.here.1);
    next = next_told search.scan search.passed None (old.indexes (index_in search)).pairs (new.indexes (index_in search)).pairs
        (rw from_is at c.index_is.here.0)
        c.index_is.here.1.pairs c.index_is.sound;
  }

  pub put_off : (now : ℕ) (why : Move) → Sought search from old new why → ((key value : List ℕ) → why ≢ At key value) → why ≢ End
      → IsHindered now old new search search
  put_off now why c not_at not_end = record {
    same = record { same_is = refl; rows_are = refl };
    met = new;
    moves = moves_unchanged search.asker.session (index_in search) old new (call_unchanged c
        (seek_put_off search.asker.session from (old.indexes (index_in search)) (new.indexes (index_in search)) why c.index_is.here not_at not_end).0);
    locks = inl refl;
  }

-- ---- a gap lock waits for nobody

any_never : (test : Lock → Bool) → ((lock : Lock) → test lock ≡ false) → (locks : List Lock) → list_any test locks ≡ false
any_never test none [] = refl
any_never test none (lock ∷ locks) = rw (none lock) (any_never test none locks)

never_conflicts : (a b : Bool) (held : LockKind) (mode other : Mode) → (a && b && kinds_conflict held mode Gap other) ≡ false
never_conflicts true true held mode other = refl
never_conflicts true false held mode other = refl
never_conflicts false b held mode other = refl

gap_conflicts : (asker : Asker) (one : Bool) (spot : Spot) (held : Lock) → conflicts held (lock_by asker (rule_past one) spot) ≡ false
gap_conflicts asker true spot held =
    never_conflicts (not (held.txn == asker.txn)) (same_spot held.spot spot) (kind_of held) held.mode asker.mode
gap_conflicts asker false spot held =
    never_conflicts (not (held.txn == asker.txn)) (same_spot held.spot spot) (kind_of held) held.mode asker.mode

gap_is_free : (t : Table) (asker : Asker) (one : Bool) (spot : Spot) → must_wait t (lock_by asker (rule_past one) spot) ≡ false
gap_is_free t asker one spot =
    let asked = lock_by asker (rule_past one) spot in
    ap (λ b. not (is_covered t.granted asked) && b) (ap (λ b. b || list_any (λ lock. conflicts lock asked) t.waiting)
    (any_never (λ lock. conflicts lock asked) (gap_conflicts asker one spot) t.granted)
    ∙ any_never (λ lock. conflicts lock asked) (gap_conflicts asker one spot) t.waiting) ∙ and_false (not (is_covered t.granted asked))

-- ---- at a pair

pub apart : (a b : ℕ) → (a == b) ≡ false → a ≢ b
apart a b is same = false≢true (sym is ∙ eq-eqb a b same)

asked_within : (one marked : Bool) → IsAskedFor (number_of (rule_within one marked))
asked_within false marked = (apart 4 12 refl, apart 4 13 refl)
asked_within true false = (apart 1 12 refl, apart 1 13 refl)
asked_within true true = (apart 2 12 refl, apart 2 13 refl)

asked_past : (one : Bool) → IsAskedFor (number_of (rule_past one))
asked_past false = (apart 5 12 refl, apart 5 13 refl)
asked_past true = (apart 3 12 refl, apart 3 13 refl)

none_is : (found : Option FoundRow) (none : Bool) → is_some found ≡ not none → none ≡ is_none found
none_is None true is = refl
none_is None false is = cc
none_is (Some row) true is = cc
none_is (Some row) false is = refl

pub met_past : {schema : Schema} {old met : WorldState} {search : LockingSearch} (key value : List ℕ) → Meets schema old met search (Some (key, value))
    → IsOnSide search.scan.range key Behind → length key ≤ 67 → IsPast schema old met search (Some key)
met_past key value meets lies short = record { place = Some (key, value); meets = meets; lies = lies; key_is = refl; short = short }

pub met_supremum : {schema : Schema} {old met : WorldState} {search : LockingSearch} → Meets schema old met search None → IsPast schema old met search None
met_supremum meets = record { place = None; meets = meets; lies = tt; key_is = refl; short = tt }

-- no search of a key is one for one key of the clustered index
pub many : {schema : Schema} (machine : LockingSearch) → machine.scan.which ≢ 0 → TellsOneKey schema machine.scan.which machine.scan.range false
many machine keyed is = keyed is.clustered

module _ {schema : Schema} {old met : WorldState} (machine : LockingSearch) where
  module _ {place : Option Pair} (meets : Meets schema old met (at_next machine) place) {now : ℕ} (rows : Vec FoundRow Global)
      (rows_are : rows.items ≡ machine.scan.rows.items) where
    pub hindered : IsHindered now old met (at_next machine) (still machine rows)
    hindered = record { same = record { same_is = refl; rows_are = rows_are }; met = met; moves = meets.moves; locks = inl refl }

    pub refused_lock : {new : WorldState} (lock : Lock) → Asks machine.asker.session lock now met new answer.NoMemory
        → IsHindered now old new (at_next machine) (still machine rows)
    refused_lock lock asks = record {
      same = record { same_is = refl; rows_are = rows_are };
      met = met;
      moves = meets.moves;
      locks = inr (lock, asks);
    }

  module _ (key value : List ℕ) (meets : Meets schema old met (at_next machine) (Some (key, value))) (short : length key ≤ 67)
      (within : IsOnSide machine.scan.range key Within) where
    pub may_ask_within : (one marked : Bool) → TellsOneKey schema machine.scan.which machine.scan.range one
        → MayAsk machine.asker.session (lock_by machine.asker (rule_within one marked) (spot_in machine (Some key))) met
    may_ask_within one marked one_is =
        may_ask meets.may meets.moves (rule_within one marked) (spot_in machine (Some key))
        (fits_within machine.asker meets.may.upper (spot_in machine (Some key)) machine.scan.table machine.scan.which refl schema machine.scan.range
        meets.may.phase key refl within one marked one_is) (asked_within one marked) short

    -- a record of the clustered index
    module _ (one : Bool) (one_is : TellsOneKey schema machine.scan.which machine.scan.range one) {now : ℕ} {new : WorldState} (found : Option FoundRow)
        (marked : Bool) (marked_is : is_some found ≡ not marked) (rows : Vec FoundRow Global) where
      pub waits_within : (machine.scan.which ≡ 0 → IsKept schema 0 key (Some value) found)
          → Asks machine.asker.session (lock_by machine.asker (rule_within one marked) (spot_in machine (Some key))) now met new answer.Waits
          → rows.items ≡ machine.scan.rows.items → HasToWait now schema old new (at_next machine) (still machine rows)
      waits_within kept asks rows_are = record {
        same = record { same_is = refl; rows_are = rows_are };
        met = met;
        moves = meets.moves;
        lock = lock_by machine.asker (rule_within one (is_none found)) (spot_in machine (Some key));
        names = ((key, value), found, meets, kept, record { within = within; one = one; one_is = one_is; lock_is = refl });
        asks = subst (λ m. Asks machine.asker.session (lock_by machine.asker (rule_within one m) (spot_in machine (Some key))) now met new answer.Waits)
            (none_is found marked marked_is) asks;
      }

      pub locked_record : machine.scan.which ≡ 0 → IsKept schema 0 key (Some value) found
          → Asks machine.asker.session (lock_by machine.asker (rule_within one marked) (spot_in machine (Some key))) now met new answer.Granted
          → rows.items ≡ kept_with machine.scan.rows.items found
          → GoesOn now schema old new (at_next machine)
          (record machine { scan = record machine.scan { rows = rows }; passed = Some key; phase = phase_behind one })
      locked_record zeroth kept asks rows_are = record {
        may = may_behind meets.may meets.moves asks rows (Some key) (phase_behind one) (behind one);
        goes = record {
          met = met;
          place = Some (key, value);
          meets = meets;
          side = Within;
          goes = inl (record {
            clustered = zeroth;
            found = found;
            kept = kept;
            lock = lock_by machine.asker (rule_within one (is_none found)) (spot_in machine (Some key));
            names = record { within = within; one = one; one_is = one_is; lock_is = refl };
            asks = subst (λ m. Asks machine.asker.session (lock_by machine.asker (rule_within one m) (spot_in machine (Some key))) now met new answer.Granted)
                (none_is found marked marked_is) asks;
            passes = record { next_is = refl; rows_are = rows_are };
          });
        };
      }
        where
          behind : (b : Bool) → PhaseMay machine.scan (phase_behind b)
          behind true = tt
          behind false = meets.may.phase

  -- ---- past the range

  module _ (key : Option (List ℕ)) (past : IsPast schema old met (at_next machine) key) (one : Bool) where
    pub may_ask_past : TellsOneKey schema machine.scan.which machine.scan.range one
        → MayAsk machine.asker.session (lock_by machine.asker (rule_past one) (spot_in machine key)) met
    may_ask_past one_is =
        may_ask past.meets.may past.meets.moves (rule_past one) (spot_in machine key)
        (fits_past machine.asker past.meets.may.upper (spot_in machine key) machine.scan.table machine.scan.which refl schema machine.scan.range
        past.meets.may.phase past.place past.key_is past.lies one one_is) (asked_past one) past.short

    -- that one never waits
    pub never_waits : {now : ℕ} {new : WorldState}
        → Asks machine.asker.session (lock_by machine.asker (rule_past one) (spot_in machine key)) now met new answer.Waits → ⊥
    never_waits asks = false≢true (sym (gap_is_free met.locks machine.asker one (spot_in machine key)) ∙ asks.queued.waits)
