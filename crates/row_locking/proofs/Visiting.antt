-- How the steps end that are at one entry, whose clustered record is read and locked; what is kept of a record; and the sorting.
use Rattle.std.proofs.Common.{Vec, Global, arith, zero, suc, ◌≡◌, ◌≢◌, ◌∙◌, inl, inr, refl, sym, ap, ℕ, ◌-◌, ◌≤◌, ◌<◌, Bool, true, false, List}
use Rattle.std.proofs.Common.{[], ◌∷◌, length, cond, nat_eq, Option, None, Some, slice_get, slice_index_or, Result, Ok, Err}
use Rattle.std.specs.{Prelude.is_some, Prelude.drop}
use Rattle.inno_types.specs.{declared.lock.Lock.Lock, declared.value.Schema.Schema, declared.value.Value.Value, declared.value.Column.Column}
use Rattle.inno_types.specs.declared.value.Value.TheVariants.{Null}
use Rattle.inno_types.specs.declared.value.Key.{Key}
use Rattle.inno_db.specs.{Indexes.index_of, Database.key_of}
use Rattle.store_api.specs.{declared.answers.Version.Version, declared.moves.Move.Move, declared.moves.Move.TheVariants.Done}
use Rattle.store_api.specs.{declared.moves.Move.TheVariants.End}
use Rattle.key_codec.specs.Keys.{entry_code, key_code, key_width}
use Rattle.row_codec.specs.{declared.read.Head.Head, Heads.version_head}
use Rattle.std.specs.Cmp.Lexicographic.{pointwise, bytes_decides}
use Rattle.std.specs.Prelude.{OnOk, is_err}
use Rattle.std.proofs.lemmas.Bool.{false≢true, ne_eqb}
use Rattle.world.specs.Undoing.{IsUnchanged}
use Rattle.law_stored_rows.specs.Records.{IsCodeOf}
use Rattle.sql_plan.specs.Visits.{index_key, primary_key, entry_if, kind_at, kind_if}
use Rattle.secondary.specs.Entries.{HasSecondary, entry_of, place_if, kind_at as kind_there, kind_if as kind_some}
use Rattle.entries.specs.{Calls.Fetches}
use Rattle.lock_rules.specs.declared.rule.Rule.TheVariants.{ClusteredOfEntry}
use Rattle.world.specs.{State.WorldState, Indexes.Calls, Locks.MayAsk, Locks.Asks}
use Rattle.world.specs.declared.lock_world.LockAnswer.TheVariants as answer
use Rattle.row_search.specs.{declared.found.FoundRow.FoundRow, Ranges.primary_part, Steps.OnlyMoves}
use Rattle.row_search.proofs.Goes.{unchanged_itself, call_unchanged, moves_unchanged, fetch_put_off}
use Rattle.row_locking.specs.declared.search.LockingSearch.{LockingSearch}
use Rattle.row_locking.specs.declared.phase.LockingPhase.TheVariants.{Row}
use Rattle.row_locking.specs.Rules.{lock_by}
use Rattle.row_locking.specs.Searches.{MayLock}
use Rattle.row_locking.specs.Comes.{Reads}
use Rattle.row_locking.specs.Kept.{TellsOwn}
use Rattle.row_locking.specs.Steps.{IsStill, IsHindered, HasToWait}
use Rattle.row_locking.proofs.{Fits.fits_clustered, Going.may_ask, Walking.apart}

-- ---- what is kept of a record

kinds_same : (column : Option Column) → kind_some column ≡ kind_if column
kinds_same None = refl
kinds_same (Some column) = refl

entries_same : (schema : Schema) (row : List Value) (primary : List ℕ) (key : Option Key) → is_some key ≡ true → primary ≡ primary_key schema row
    → entry_code (kind_there schema.columns (place_if key)) (slice_index_or row (place_if key) Null) primary ≡ entry_if schema row key
entries_same schema row primary None there is = cc
entries_same schema row primary (Some key) there is =
    ap (λ k. entry_code k (slice_index_or row key.column Null) primary) (kinds_same (slice_get schema.columns key.column))
    ∙ ap (entry_code (kind_at schema.columns key.column) (slice_index_or row key.column Null)) is

-- the key of a version's record is its row's
pub its_key : (schema : Schema) (coded : Version) (key bytes : List ℕ) → IsCodeOf schema key bytes coded → key ≡ primary_key schema coded.row
its_key schema coded key bytes code =
    code.record_is.key_is.spelled ∙ ap (λ k. key_code k (key_of schema coded.row)) (sym (ap kind_if code.record_is.key_is.primary))

there_at : (keys : List Key) (n : ℕ) → n < length keys → is_some (slice_get keys n) ≡ true
there_at [] n few = absurd (omega (arith, few))
there_at (key ∷ keys) zero few = refl
there_at (key ∷ keys) (suc n) few = there_at keys n (omega (arith, few))

-- what `secondary` makes of a record is its row's key in the index
pub own_entry : (schema : Schema) (which : ℕ) → HasSecondary schema which → (coded : Version) (key bytes : List ℕ) → IsCodeOf schema key bytes coded
    → entry_of schema which coded.row key ≡ index_key schema which coded.row
own_entry schema which has coded key bytes code =
    entries_same schema coded.row key (slice_get schema.keys (which - 1)) (there_at schema.keys (which - 1) (omega (arith, has.keyed, has.counted)))
    (its_key schema coded key bytes code)
    ∙ sym (ap (λ b. cond b (primary_key schema coded.row) (entry_if schema coded.row (slice_get schema.keys (which - 1))))
    (ne_eqb which 0 (λ e. omega (arith, e, has.counted))))

pub from_ok : {E : Type 0} {P : Type 0} (r : Result Unit E) → is_err r ≡ false → OnOk r P → P
from_ok (Ok x) is p = p
from_ok (Err e) is p = cc

-- whether the bytes that were made of the record are the entry
pub tells_own : (schema : Schema) (which : ℕ) → HasSecondary schema which → (entry bytes own : List ℕ) (coded : Version)
    → IsCodeOf schema (primary_part schema entry) bytes coded → own ≡ entry_of schema which coded.row (primary_part schema entry) → (same : Bool)
    → same ≡ pointwise nat_eq own entry → TellsOwn schema which entry coded (Ok same)
tells_own schema which has entry bytes own coded code own_is true same =
    sym (own_is ∙ own_entry schema which has coded (primary_part schema entry) bytes code) ∙ (bytes_decides own entry).0 (sym same)
tells_own schema which has entry bytes own coded code own_is false same =
    λ is. false≢true (same ∙ (bytes_decides own entry).1 (own_is ∙ own_entry schema which has coded (primary_part schema entry) bytes code ∙ is))

pub marked_so : (head : Head) (coded : Version) → Some head ≡ Some (version_head coded) → head.marked ≡ true → coded.marked ≡ true
marked_so head coded same is = cc

part_short : (entry : List ℕ) (n : ℕ) → length entry ≤ 67 → length (drop n entry) ≤ 67
part_short entry zero few = few
part_short [] (suc n) few = omega arith
part_short (e ∷ entry) (suc n) few = part_short entry n (omega (arith, few))

-- ---- the record of an entry

abbrev pub at_entry : LockingSearch → List ℕ → LockingSearch
at_entry machine entry = record machine { phase = Row entry }

abbrev pub still_at : LockingSearch → List ℕ → Vec FoundRow Global → LockingSearch
still_at machine entry rows = record (at_entry machine entry) { scan = record machine.scan { rows = rows } }

abbrev pub Fetched : LockingSearch → List ℕ → List ℕ → WorldState → WorldState → Move → Type 0
Fetched machine key read old met answer =
    Calls (index_of machine.scan.table 0) (λ before after. Fetches machine.asker.session key read before after answer) old met

abbrev pub its_record : Schema → LockingSearch → List ℕ → Lock
its_record schema machine entry =
    lock_by machine.asker ClusteredOfEntry (record { index = index_of machine.scan.table 0; key = Some (primary_part schema entry) })

stays : (machine : LockingSearch) {old met : WorldState} → IsUnchanged old met
    → OnlyMoves machine.asker.session (index_of machine.scan.table machine.scan.which) old met
stays machine same = moves_unchanged machine.asker.session (index_of machine.scan.table machine.scan.which) _ _ same

pub fetch_off : {old met : WorldState} (machine : LockingSearch) (entry key read : List ℕ) (now : ℕ) (why : Move)
    → Fetched machine key read old met why → why ≢ Done → why ≢ End
    → IsHindered now old met (at_entry machine entry) (at_entry machine entry)
fetch_off {old} {met} machine entry key read now why c not_done not_end = record {
  same = record { same_is = refl; rows_are = refl };
  met = met;
  moves = stays machine (call_unchanged c
      (fetch_put_off machine.asker.session key read (old.indexes (index_of machine.scan.table 0)) (met.indexes (index_of machine.scan.table 0)) why
      c.index_is.here not_done not_end).0);
  locks = inl refl;
}

module _ {schema : Schema} {old met : WorldState} (machine : LockingSearch) (entry : List ℕ) where
  module _ (may : MayLock schema old (at_entry machine entry)) (key read : List ℕ) (key_is : key ≡ primary_part schema entry) where
    pub reads_record : Fetched machine key read old met Done → Reads schema old met (at_entry machine entry) entry (Some read)
    reads_record c = record { may = may; moves = stays machine (call_unchanged c c.index_is.here.1); record_is = rw key_is at c.index_is.here.0 }

    pub reads_none : Fetched machine key read old met End → Reads schema old met (at_entry machine entry) entry None
    reads_none c = record { may = may; moves = stays machine (call_unchanged c c.index_is.here.1); record_is = rw key_is at c.index_is.here.0 }

  module _ (read : Option (List ℕ)) (reads : Reads schema old met (at_entry machine entry) entry read) where
    pub may_ask_record : MayAsk machine.asker.session (its_record schema machine entry) met
    may_ask_record =
        may_ask reads.may reads.moves ClusteredOfEntry (record { index = index_of machine.scan.table 0; key = Some (primary_part schema entry) })
        (fits_clustered machine.asker reads.may.upper (record { index = index_of machine.scan.table 0; key = Some (primary_part schema entry) })
        machine.scan.table machine.scan.which refl reads.may.phase.1 reads.may.few (primary_part schema entry) refl machine.scan.range)
        (apart 6 12 refl, apart 6 13 refl)
        (part_short entry (length entry - key_width (kind_at schema.columns schema.primary)) reads.may.phase.2)

    module _ {now : ℕ} (rows : Vec FoundRow Global) (rows_are : rows.items ≡ machine.scan.rows.items) where
      pub hindered_at : IsHindered now old met (at_entry machine entry) (still_at machine entry rows)
      hindered_at = record { same = record { same_is = refl; rows_are = rows_are }; met = met; moves = reads.moves; locks = inl refl }

      module _ {new : WorldState} where
        pub waits_there : Asks machine.asker.session (its_record schema machine entry) now met new answer.Waits
            → HasToWait now schema old new (at_entry machine entry) (still_at machine entry rows)
        waits_there asks = record {
          same = record { same_is = refl; rows_are = rows_are };
          met = met;
          moves = reads.moves;
          lock = its_record schema machine entry;
          names = (read, reads, refl);
          asks = asks;
        }

        pub refused_there : Asks machine.asker.session (its_record schema machine entry) now met new answer.NoMemory
            → IsHindered now old new (at_entry machine entry) (still_at machine entry rows)
        refused_there asks = record {
          same = record { same_is = refl; rows_are = rows_are };
          met = met;
          moves = reads.moves;
          locks = inr (its_record schema machine entry, asks);
        }

-- ---- no memory before any call

pub hindered_before : (machine same : LockingSearch) (now : ℕ) (old : WorldState) → IsStill machine same → IsHindered now old old machine same
hindered_before machine same now old still =
    record { same = still; met = old; moves = stays machine (unchanged_itself old); locks = inl refl }
